-- The definition of the root, on the bits' parts.
use Rattle.std.specs.Prelude.{None, Some}
use Rattle.std.proofs.Common.{◌≡◌, ℕ, zero, suc, ◌+◌, ◌*◌, ◌/◌, ◌^◌, ◌<◌, true, false, T, ℤ, sym, refl, ap, ◌∙◌, subst, inl, inr, true≢false, lt_irrefl, zero-lt-suc, mul_assoc, eq-zero-or-pos, mul-pos, zero-mul, mul_right_comm, mul-div_cancel, pow_pos, pow-add}
use mathlib.Core.Bool.{false≢true}
use lib.Ieee.{Float, nan, inf, fin, binary32, up, down, round, fits, to_bits}
use lib.Ieee.Fits.{up_pos, down_pos}
use Rattle.float.specs.Inside.{field_of, sign_of, M, Q}
use Rattle.float.specs.Finite.{rounded}
use Rattle.float.specs.Root.{twice_root, root_of}
use Rattle.float.proofs.Decode.{Decoded, decoded}

clash : {X : Type 0} (x : ℕ) → x < 255 → x ≡ 255 → X
clash x h e = absurd (lt_irrefl 255 (subst (λ (z : ℕ). z < 255) e h))

pub no_root : (x : Float) → T (fits binary32 x) → field_of (to_bits binary32 x) ≡ 255 → None ≡ root_of x
unfolding root_of
no_root nan t e = refl
no_root (inf s) t e = refl
no_root (fin s m d) t e = clash (field_of (to_bits binary32 (fin s m d))) (decoded (fin s m d) t).0 e

-- a zero has no significand, and nothing else has none
zero_of : (e : ℤ) (m q : ℕ) → zero * up e * 2 ^ 150 ≡ m * 2 ^ q * down e → m ≡ 0
zero_of e m q h = elim (eq-zero-or-pos m) [
  | inl z ↦ z
  | inr p ↦ absurd (lt_irrefl 0 (subst (λ (x : ℕ). 0 < x) (sym h ∙ ap (λ (x : ℕ). x * 2 ^ 150) (zero-mul (up e)) ∙ zero-mul (2 ^ 150)) (mul-pos (mul-pos p (pow_pos q)) (down_pos e))))
]

pub not_zero : (k : ℕ) (e : ℤ) (m q : ℕ) → suc k * up e * 2 ^ 150 ≡ m * 2 ^ q * down e → m ≡ 0 → ⊥
not_zero k e m q h z = lt_irrefl 0 (subst (λ (x : ℕ). 0 < x) (h ∙ ap (λ (x : ℕ). x * 2 ^ q * down e) z ∙ ap (λ (x : ℕ). x * down e) (zero-mul (2 ^ q)) ∙ zero-mul (down e)) (mul-pos (mul-pos (zero-lt-suc k) (up_pos e)) (pow_pos 150)))

-- of the bits b of x, which are not an infinity's or a NaN's
pub zero_root : (x : Float) (b : ℕ) → Decoded x b → (field_of b ≡ 255 → ⊥) → M b ≡ 0 → Some x ≡ root_of x
unfolding root_of
zero_root nan b p n e = absurd (n p)
zero_root (inf s) b p n e = absurd (n p)
zero_root (fin s zero d) b p n e = refl
zero_root (fin s (suc k) d) b p n e = absurd (not_zero k d (M b) (Q b) p.2 e)

pub minus_root : (x : Float) (b : ℕ) → Decoded x b → (field_of b ≡ 255 → ⊥) → (M b ≡ 0 → ⊥) → sign_of b ≡ true → None ≡ root_of x
unfolding root_of
minus_root nan b p n z e = absurd (n p)
minus_root (inf s) b p n z e = absurd (n p)
minus_root (fin s zero d) b p n z e = absurd (z (zero_of d (M b) (Q b) p.2))
minus_root (fin true (suc k) d) b p n z e = refl
minus_root (fin false (suc k) d) b p n z e = absurd (false≢true (p.1 ∙ e))

pub number : (k : ℕ) (d : ℤ) (m q : ℕ) → suc k * up d * 2 ^ 150 ≡ m * 2 ^ q * down d → suc k * up d * 2 ^ 300 / down d ≡ m * 2 ^ (q + 150)
number k d m q h =
    ap (λ (x : ℕ). x / down d)
    (ap (λ (x : ℕ). suc k * up d * x) (pow-add 2 150 150) ∙ sym (mul_assoc (suc k * up d) (2 ^ 150) (2 ^ 150)) ∙ ap (λ (x : ℕ). x * 2 ^ 150) h
    ∙ mul_right_comm (m * 2 ^ q) (down d) (2 ^ 150) ∙ ap (λ (x : ℕ). x * down d) (mul_assoc m (2 ^ q) (2 ^ 150) ∙ ap (λ (x : ℕ). m * x) (sym (pow-add 2 q 150))))
    ∙ mul-div_cancel (m * 2 ^ (q + 150)) (down_pos d)

pub plus_root : (x : Float) (b : ℕ) → Decoded x b → (field_of b ≡ 255 → ⊥) → (M b ≡ 0 → ⊥) → sign_of b ≡ false → rounded (round binary32 false (twice_root (M b * 2 ^ (Q b + 150))) (2 ^ 151)) ≡ root_of x
unfolding root_of
plus_root nan b p n z e = absurd (n p)
plus_root (inf s) b p n z e = absurd (n p)
plus_root (fin s zero d) b p n z e = absurd (z (zero_of d (M b) (Q b) p.2))
plus_root (fin true (suc k) d) b p n z e = absurd (true≢false (p.1 ∙ e))
plus_root (fin false (suc k) d) b p n z e = ap (λ (x : ℕ). rounded (round binary32 false (twice_root x) (2 ^ 151))) (sym (number k d (M b) (Q b) p.2))
