-- Floats as whole numbers, by Rust's `x.round() as u64` and `x.ceil() as u64`: 0 for a NaN and for what is negative, the largest u64 for what is above it.
use Rattle.std.specs.Prelude.{ℕ, ◌+◌, ◌-◌, ◌*◌, ◌/◌, ◌^◌, min, cond, Float}
use Rattle.std.specs.Float.{nan, inf, fin}
use Rattle.std.specs.Float.Ieee.{up, down}

-- half away from zero: the fraction m * up e / down e and a half, cut to a whole number
unfoldable pub round_of : Float → ℕ
round_of nan = 0
round_of (inf s) = cond s 0 (2 ^ 64 - 1)
round_of (fin s m e) = cond s 0 (min ((2 * (m * up e) + down e) / (2 * down e)) (2 ^ 64 - 1))

-- up: one less than the divisor added, and cut to a whole number
unfoldable pub ceil_of : Float → ℕ
ceil_of nan = 0
ceil_of (inf s) = cond s 0 (2 ^ 64 - 1)
ceil_of (fin s m e) = cond s 0 (min ((m * up e + (down e - 1)) / down e) (2 ^ 64 - 1))
