-- The square root, rounded once: document 01's square root. What this text comes to is said without roots in Nearest, and proved.
use Rattle.std.specs.Prelude.{ℕ, zero, suc, ◌+◌, ◌*◌, ◌/◌, ◌^◌, true, false, cond, ◌==◌, nat_le, Float, None, Option, Some}
use Rattle.std.specs.Float.{nan, inf, fin, binary32}
use Rattle.std.specs.Float.Ieee.{up, down, size, round}
use Rattle.float.specs.Finite.{rounded}

-- The largest number whose square is at most n, digit by digit: k digits are left to be found, and r is what was found.
unfoldable pub root_from : ℕ → ℕ → ℕ → ℕ
root_from zero r n = r
root_from (suc k) r n = root_from k (cond (nat_le ((r + 2 ^ k) * (r + 2 ^ k)) n) (r + 2 ^ k) r) n

unfoldable pub integer_root : ℕ → ℕ
unfolding root_from
integer_root n = root_from (size n) 0 n

-- Twice that number, and one more where its square is not n: an odd number, then, that lies with twice the root of n between the same two even numbers.
unfoldable pub twice_root : ℕ → ℕ
unfolding integer_root
twice_root n = let r = integer_root n in 2 * r + cond (r * r == n) 0 1

-- '−0 gives −0; other negatives and non-finite values get the word.' Otherwise the root of x is that of x * 2 ^ 300, over 2 ^ 150. Twice that root stands with at
-- least 76 digits, so one rounding of it is the rounding of the root.
unfoldable pub root_of : Float → Option Float
root_of nan = None
root_of (inf s) = None
root_of (fin s zero e) = Some (fin s zero e)
root_of (fin true (suc m) e) = None
root_of (fin false (suc m) e) = rounded (round binary32 false (twice_root (suc m * up e * 2 ^ 300 / down e)) (2 ^ 151))
