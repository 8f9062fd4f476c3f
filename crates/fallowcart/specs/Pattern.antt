-- A float's answer as a number that C can hold.
use Rattle.std.specs.Prelude.{ℕ, cond, Float, None, Option, Some}
use Rattle.std.specs.Float.{binary32}
use Rattle.std.specs.Float.Ieee.{to_bits, is_nan}

-- The bits, or 2 ^ 32 for the word that there is none. `mul_add` and `sqrt` answer no `Finite nan`, which gets the word too.
abbrev pub number_of : Float → ℕ
number_of x = cond (is_nan x) 4294967296 (to_bits binary32 x)

abbrev pub pattern_of : Option Float → ℕ
pattern_of (Some x) = number_of x
pattern_of None = 4294967296
