-- Cases computed from the definitions: document 01's four, the signs of zero, what has no number, and what wrong ways of working would answer.
use Rattle.std.specs.Prelude.{None, Some}
use Rattle.std.proofs.Common.{◌≡◌, ◌*◌, ◌^◌, true, false, pos, negsuc, refl}
use lib.Ieee.{fin, binary32, binary64, sum, round, of_bits}
use Rattle.float.specs.Fused.{fused_of}
use Rattle.float.specs.Root.{root_of, twice_root}
use Rattle.float.specs.Whole.{round_of, ceil_of}

-- ---- document 01's table
-- (1 + 2^-12)^2 - (1 + 2^-11) = 2^-24
pub fused_cancels : fused_of (fin false 4097 (negsuc 11)) (fin false 4097 (negsuc 11)) (fin true 2049 (negsuc 10)) ≡ Some (fin false 1 (negsuc 23))
unfolding fused_of sum round
fused_cancels = refl

-- (1 + 2^-12)^2 + 2^-60 = 1 + 2^-11 + 2^-23
pub fused_once : fused_of (fin false 4097 (negsuc 11)) (fin false 4097 (negsuc 11)) (fin false 1 (negsuc 59)) ≡ Some (fin false 8392705 (negsuc 22))
unfolding fused_of sum round
fused_once = refl

pub root_of_zero : root_of (fin false 0 (pos 0)) ≡ Some (fin false 0 (pos 0))
unfolding root_of
root_of_zero = refl

pub root_of_two : root_of (fin false 1 (pos 1)) ≡ Some (of_bits binary32 0x3FB5_04F3)
unfolding root_of twice_root round of_bits
root_of_two = refl

-- ---- signs of zero
-- 1 * 1 - 1 = +0, and -0 * 1 + -0 = -0
zero_plus : fused_of (fin false 1 (pos 0)) (fin false 1 (pos 0)) (fin true 1 (pos 0)) ≡ Some (fin false 0 (pos 0))
unfolding fused_of sum round
zero_plus = refl

zero_minus : fused_of (fin true 0 (pos 0)) (fin false 1 (pos 0)) (fin true 0 (pos 0)) ≡ Some (fin true 0 (pos 0))
unfolding fused_of sum round
zero_minus = refl

root_of_minus_zero : root_of (fin true 0 (pos 0)) ≡ Some (fin true 0 (pos 0))
unfolding root_of
root_of_minus_zero = refl

-- ---- the word
-- 2^127 * 2 + 0 overflows; the largest finite number less than half a step above itself does not
overflows : fused_of (fin false 1 (pos 127)) (fin false 1 (pos 1)) (fin false 0 (pos 0)) ≡ None
unfolding fused_of sum round
overflows = refl

rounds_down : fused_of (fin false 16777215 (pos 104)) (fin false 1 (pos 0)) (fin false 16777215 (pos 79)) ≡ Some (fin false 16777215 (pos 104))
unfolding fused_of sum round
rounds_down = refl

root_of_minus_one : root_of (fin true 1 (pos 0)) ≡ None
unfolding root_of
root_of_minus_one = refl

-- ---- wrong ways of working
-- The second case above, fused in f64: 1 + 2^-11 + 2^-24 there, which narrows to 1 + 2^-11.
in_f64 : sum binary64 false (4097 * 4097 * 2 ^ 36) false 1 (2 ^ 60) ≡ fin false 16785409 (negsuc 23)
unfolding sum round
in_f64 = refl

in_f64_narrowed : round binary32 false 16785409 (2 ^ 24) ≡ fin false 2049 (negsuc 10)
unfolding round
in_f64_narrowed = refl

-- A subnormal result just above the middle of 1,024 and 1,025 of 2^-149: rounded once it is the upper one, and rounded to 24 digits first it is the lower one.
subnormal_once : fused_of (fin false 8392705 (negsuc 92)) (fin false 16777215 (negsuc 92)) (fin false 0 (pos 0)) ≡ Some (fin false 1025 (negsuc 148))
unfolding fused_of sum round
subnormal_once = refl

subnormal_to_24_digits : round binary32 false (8392705 * 16777215) (2 ^ 37) ≡ fin false 2049 (negsuc 0)
unfolding round
subnormal_to_24_digits = refl

subnormal_twice : round binary32 false 2049 (2 * 2 ^ 149) ≡ fin false 1 (negsuc 138)
unfolding round
subnormal_twice = refl

-- ---- whole numbers: 2.5, the f32 below a half (a half added in f32 would make it 1), 9/8, and what is past the largest u64
half_away : round_of (fin false 5 (negsuc 0)) ≡ 3
unfolding round_of
half_away = refl

below_half_lem : round_of (fin false 16777215 (negsuc 24)) ≡ 0
unfolding round_of
below_half_lem = refl

next_up : ceil_of (fin false 9 (negsuc 2)) ≡ 2
unfolding ceil_of
next_up = refl

past_u64 : round_of (fin false 1 (pos 64)) ≡ 18446744073709551615
unfolding round_of
past_u64 = refl
