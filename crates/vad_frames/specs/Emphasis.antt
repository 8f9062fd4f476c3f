-- Document 01's 'Frames': pre-emphasis.
use Rattle.std.specs.Prelude.{Bool, cond, List, [], ◌∷◌, Float}
use Rattle.std.specs.Float.Ieee.{neg}
use Rattle.float.specs.Numbers.{zero32}
use Rattle.float.specs.Finite.{or_zero}
use Rattle.float.specs.Fused.{fused_of}

-- 'a is 0 when absent'
unfoldable pub coefficient_of : Bool → Float → Float
coefficient_of present a = cond present a zero32

-- 'Pre-emphasis is fused: y = x − a·previous'; 0 stands where there is no number, and `emphasized_mag` in proofs/Bounds shows that in the domain there always is one
unfoldable pub emphasized_of : Float → Float → Float → Float
emphasized_of a previous x = or_zero (fused_of a (neg previous) x)

-- a block's values: previous is the raw sample before each, not the emphasized one
unfoldable pub emphasized : Float → Float → List Float → List Float
emphasized a previous [] = []
emphasized a previous (x ∷ xs) = emphasized_of a previous x ∷ emphasized a x xs

-- the raw sample that the next block's first is emphasized with
unfoldable pub last_of : Float → List Float → Float
last_of previous [] = previous
last_of previous (x ∷ xs) = last_of x xs
