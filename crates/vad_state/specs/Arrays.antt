-- Arrays that are used in part.
use Rattle.std.specs.Prelude.{List, ◌++◌, ℕ, ◌-◌, length, replicate, Float}
use Rattle.float.specs.Numbers.{zero32}

-- the numbers, and zeros up to n
unfoldable pub filled_of : ℕ → List Float → List Float
filled_of n xs = xs ++ replicate (n - length xs) zero32
