-- A count up to 2 ^ 64 as the nearest f32.
use Rattle.std.proofs.Common.{◌≡◌, ℕ, ◌+◌, ◌*◌, ◌/◌, ◌%◌, ◌^◌, ◌<◌, ◌≤◌, Bool, false, cond, pos, sym, refl, ap, ◌∙◌, mul_assoc, mul-one, arith, lit<, lit≤, pow_pos, pow-add, eq-eqb, ne_eqb}
use native.Mathlib.Decide.{dec_lt}
use lib.Ieee.{Float, nan, inf, fin, binary32, round, of_int}
use lib.Ieee.Scale.{round_same}
use Rattle.float.specs.Finite.{rounded, or_zero}
use Rattle.float.specs.Inside.{jam_of}
use Rattle.float.proofs.Bounds.{Mag, Low, held_scaled, round_low, low_mag}
use Rattle.float.proofs.Sticky.{sticky_high}

finite : (x : Float) (n d : ℕ) → Mag x n d → or_zero (rounded x) ≡ x
finite nan n d h = absurd h
finite (inf s) n d h = absurd h
finite (fin s m e) n d h = refl

count_low : (n : ℕ) → n < 2 ^ 64 → Low (round binary32 false n 1) (2 ^ 64) 1
count_low n h = round_low binary32 n 1 (1 * 2 ^ 64) 1 (2 ^ 64) 1 (lit< tt) (lit< tt) (held_scaled 1 64 (lit< tt) (lit≤ tt)) (omega arith)

at : (n : ℕ) → round binary32 false (n * 2 ^ 314) (2 ^ 314) ≡ round binary32 false n 1
at n = round_same binary32 false (n * 2 ^ 314) (2 ^ 314) n 1 (pow_pos 314) (lit< tt) (mul-one (n * 2 ^ 314))

pub count_is : (n : ℕ) → n < 2 ^ 64 → or_zero (rounded (round binary32 false (n * 2 ^ 314) (2 ^ 314))) ≡ of_int binary32 (pos n)
unfolding of_int
count_is n h = ap (λ (x : Float). or_zero (rounded x)) (at n) ∙ finite (round binary32 false n 1) (2 ^ 64) 1 (low_mag (round binary32 false n 1) (2 ^ 64) 1 (count_low n h))

-- the lowest digit cut off
some : (k : ℕ) → 0 < k → k ≡ 0 → ⊥
some k h e = omega arith

jammed : (n : ℕ) → 2 ^ 63 ≤ n → round binary32 false (jam_of n 1 * 2 ^ 315) (2 ^ 314) ≡ round binary32 false (n * 2 ^ 314) (2 ^ 314)
jammed n h = elim (dec_lt 0 (n % 2)) [
  | no g ↦ let e : n % 2 ≡ 0 = omega arith in ap (λ (b : Bool). round binary32 false (cond b (n / 2) (n / 2 / 2 * 2 + 1) * 2 ^ 315) (2 ^ 314)) (eq-eqb (n % 2) 0 e) ∙ ap (λ (k : ℕ). round binary32 false k (2 ^ 314)) (even e)
  | yes o ↦
      ap (λ (b : Bool). round binary32 false (cond b (n / 2) (n / 2 / 2 * 2 + 1) * 2 ^ 315) (2 ^ 314)) (ne_eqb (n % 2) 0 (some (n % 2) o))
      ∙ ap (λ (k : ℕ). round binary32 false (k * 2 ^ 315) (2 ^ 314)) (omega arith)
      ∙ sym (sticky_high binary32 false n 1 (n / 2 / 2) 314 314 (omega arith) (omega arith) (omega arith))
]
  where
    even : n % 2 ≡ 0 → n / 2 * 2 ^ 315 ≡ n * 2 ^ 314
    even e = let t : n ≡ n / 2 * 2 = omega arith in ap (λ (k : ℕ). n / 2 * k) (pow-add 2 1 314) ∙ sym (mul_assoc (n / 2) 2 (2 ^ 314)) ∙ ap (λ (k : ℕ). k * 2 ^ 314) (sym t)

pub count_jammed : (n : ℕ) → 2 ^ 63 ≤ n → n < 2 ^ 64 → or_zero (rounded (round binary32 false (jam_of n 1 * 2 ^ 315) (2 ^ 314))) ≡ of_int binary32 (pos n)
count_jammed n g h = ap (λ (x : Float). or_zero (rounded x)) (jammed n g) ∙ count_is n h
