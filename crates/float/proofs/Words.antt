-- Shifts, masks and float tests as the machine has them.
use Rattle.std.proofs.Common.{◌≡◌, ℕ, ◌-◌, ◌*◌, ◌/◌, ◌%◌, ◌^◌, ◌<◌, ◌≤◌, Bool, true, false, not, T, eqb, sym, refl, ap, ◌∙◌, subst, div-lt_iff_lt-mul, one-mul, arith, lit<, pow_pos, pow-add, shl_exact, le-ltb}
use lib.Dec.{eqb_refl}
use lib.Arith.{lt-one}
use lib.Bits.{bit_and, and_mask}
use lib.Ieee.{Float, nan, inf, fin, binary32, up, down, ne, is_nan, nan_bits}
use lib.Ieee.Bits.{is_true, nan_bits_above}
use lib.Ieee.Scale.{finite}
use Rattle.std.specs.Float.{float_is_finite}

-- 1 << d
pub unit_is : (d : ℕ) → d < 64 → 1 * 2 ^ d % 18446744073709551616 ≡ 2 ^ d
unit_is d h = shl_exact {a = 1} 1 d 64 (lit< tt) (omega arith) ∙ one-mul (2 ^ d)

pub unit_twice : (d : ℕ) → 1 ≤ d → 2 * 2 ^ (d - 1) ≡ 2 ^ d
unit_twice d h = sym (pow-add 2 1 (d - 1)) ∙ ap (λ (x : ℕ). 2 ^ x) (omega arith)

-- m & ((1 << d) - 1)
pub mask_is : (m d : ℕ) → d < 64 → bit_and m (1 * 2 ^ d % 18446744073709551616 - 1) ≡ m % 2 ^ d
mask_is m d h = ap (λ (x : ℕ). bit_and m (x - 1)) (unit_is d h) ∙ and_mask m d

pub far : (m d : ℕ) → m < 2 ^ d → m / 2 ^ d ≡ 0
far m d h = lt-one ((div-lt_iff_lt-mul {k = 2 ^ d} {x = m} {y = 1} (pow_pos d)).1 (subst (λ (x : ℕ). m < x) (sym (one-mul (2 ^ d))) h))

self : (n : ℕ) → eqb n n ≡ true
self n = is_true (eqb n n) (eqb_refl n)

-- only a NaN differs from itself
pub differs : (x : Float) → ne x x ≡ is_nan x
unfolding ne is_nan
differs nan = refl
differs (inf true) = refl
differs (inf false) = refl
differs (fin true m e) = simp (self (m * up e * down e))
differs (fin false m e) = simp (self (m * up e * down e))

-- two definitions of one test
pub finite_is : (x : Float) → float_is_finite x ≡ finite x
unfolding float_is_finite
finite_is nan = refl
finite_is (inf s) = refl
finite_is (fin s m e) = refl

pub T-not-of : {b : Bool} → b ≡ false → T (not b)
T-not-of {b} h = subst (λ (t : Bool). T (not t)) (sym h) tt

pub T_of : {b : Bool} → b ≡ true → T b
T_of {b} h = subst T (sym h) tt

-- a pattern whose size is at most an infinity's is no NaN's
pub no_nan : (n : ℕ) → n % 2147483648 ≤ 2139095040 → T (not (nan_bits binary32 n))
no_nan n h = T-not-of (nan_bits_above binary32 n ∙ le-ltb 2139095040 (n % 2147483648) h)
