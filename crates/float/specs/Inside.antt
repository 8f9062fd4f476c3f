-- What the private functions answer. Nothing here has to be believed: no public contract cites it.
use Rattle.std.specs.Prelude.{◌≡◌, ℕ, zero, suc, ◌+◌, ◌-◌, ◌*◌, ◌/◌, ◌%◌, ◌^◌, ◌<◌, Bool, cond, ◌&&◌, ◌⊎◌, ◌==◌, from_bits, nat_le, nat_lt, to_bits, Float, None, Option, Some}
use Rattle.std.specs.Bool.{beq}
use Rattle.std.specs.Float.{binary32, binary64}
use Rattle.std.specs.Float.Ieee.{unlike, round, sum, add, mul}
use Rattle.float.specs.Finite.{rounded}

-- the exponent's field of a pattern, and the sign
abbrev pub field_of : ℕ → ℕ
field_of b = b % 2147483648 / 8388608

abbrev pub sign_of : ℕ → Bool
sign_of b = nat_le 2147483648 b

-- a field of 0 stands at the place of a field of 1, and has no leading digit
abbrev pub place_at : ℕ → ℕ
place_at zero = 1
place_at (suc x) = suc x

abbrev pub significand_at : ℕ → ℕ → ℕ
significand_at zero t = t
significand_at (suc x) t = t + 8388608

-- the significand M and the place Q of a pattern: its magnitude is M * 2 ^ (Q - 150)
abbrev pub M : ℕ → ℕ
M b = significand_at (field_of b) (b % 8388608)

abbrev pub Q : ℕ → ℕ
Q b = place_at (field_of b)

-- m / 2 ^ d, with the lowest digit set where something was cut off
abbrev pub jam_of : ℕ → ℕ → ℕ
jam_of m d = cond (m % 2 ^ d == 0) (m / 2 ^ d) (m / 2 ^ d / 2 * 2 + 1)

-- the size and the sign of ±a ±b
abbrev pub mag_of : Bool → ℕ → Bool → ℕ → ℕ
mag_of s a t b = cond (beq s t) (a + b) (cond (nat_lt a b) (b - a) (a - b))

abbrev pub neg_of : Bool → ℕ → Bool → ℕ → Bool
neg_of s a t b = cond (beq s t) s (cond (nat_lt a b) t (s && nat_lt b a))

-- the float of a sign and the bits without it
unfoldable pub pack_of : Bool → ℕ → Option Float
pack_of s b = cond (nat_lt b 2139095040) (Some (from_bits binary32 (cond s 2147483648 0 + b))) None

-- the fused operation on three patterns' parts, over the one denominator 2 ^ 314
unfoldable pub fused_bits_of : ℕ → ℕ → ℕ → Option Float
fused_bits_of x y z =
    rounded (sum binary32 (unlike (sign_of x) (sign_of y)) (M x * M y * 2 ^ (Q x + Q y + 14)) (sign_of z) (M z * 2 ^ (Q z + 164)) (2 ^ 314))

-- w is the pattern of a * b + c in f64, or a NaN's
abbrev pub WideOf : ℕ → Float → Float → Float → Type 0
WideOf w a b c = (w ≡ 0x7ff8_0000_0000_0000) ⊎ (w ≡ to_bits binary64 (add binary64 (mul binary64 a b) c))

-- An f64's pattern b settles a fraction's f32: r, where it is a number, is the f32 of every fraction whose nearest f64 has that pattern, and b is no infinity's.
abbrev pub Narrowed : ℕ → Option Float → Type 0
Narrowed b r = (x : Float) → r ≡ Some x → (b % 0x8000_0000_0000_0000 < 0x7ff0_0000_0000_0000) × ((s : Bool) (n c : ℕ) → 0 < c → to_bits binary64 (round binary64 s n c) ≡ b → rounded (round binary32 s n c) ≡ r)
