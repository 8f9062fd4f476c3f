-- A word at a place, its top digit brought to bit 62: the bits that the code puts together are those of its rounded value.
use Rattle.std.specs.Prelude.{None, Some}
use Rattle.std.proofs.Common.{◌≡◌, ℕ, zero, suc, ◌+◌, ◌-◌, ◌*◌, ◌^◌, ◌<◌, ◌≤◌, Bool, true, false, cond, ◌⊎◌, sym, refl, ap, ◌∙◌, ap₂, inl, inr, le_trans, le_of_eq, lt_of_lt_of_le, lt_of_le_of_lt, mul-le-mul_right, mul_assoc, mul_comm, mul-lt-mul_of_pos_right, zero-mul, mul_right_comm, arith, lit≤, pow_pos, pow-add, le-ltb, lt-ltb}
use lib.Count.{count_leading_zeros, leading_top}
use lib.Ieee.{binary32, odd, units, round, of_bits}
use lib.Ieee.Nearest.{closest}
use lib.Ieee.Scale.{round_same}
use Rattle.float.specs.Finite.{rounded}
use Rattle.float.specs.Inside.{pack_of}
use Rattle.float.proofs.Sticky.{side, pow_lt_back}
use Rattle.float.proofs.Encode.{round_word, word_le, word_ge, pack_in, pack_out, units_in, in_range}

-- ---- zero
pub zero_packs : (s : Bool) (w x : ℕ) → w ≡ 0 → pack_of s 0 ≡ rounded (round binary32 s (w * 2 ^ x) (2 ^ 314))
zero_packs s w x e = at s ∙ ap (λ (z : ℕ). rounded (round binary32 s z (2 ^ 314))) (sym (ap (λ (z : ℕ). z * 2 ^ x) e ∙ zero-mul (2 ^ x)))
  where
    at : (s : Bool) → pack_of s 0 ≡ rounded (round binary32 s 0 (2 ^ 314))
    at true = unfold pack_of round of_bits in refl
    at false = unfold pack_of round of_bits in refl

-- ---- q * 2 ^ k units
odd_word : (d : ℕ) (s : Bool) (q k l : ℕ) → Some (odd d s q k l) ≡ rounded (odd d s q k l)
unfolding odd
odd_word d s zero k l = refl
odd_word d s (suc q) k l = refl

units_pack : (s : Bool) (q k : ℕ) → q ≤ 2 ^ 24 → (k ≡ 0) ⊎ (2 ^ 23 ≤ q) → pack_of s (k * 8388608 + q) ≡ rounded (units binary32 s q k)
unfolding pack_of
units_pack s q k le ge =
    let b = k * 8388608 + q in
    elim (side b 2139095040) [
      | inl l ↦
          ap (λ (t : Bool). cond t (Some (of_bits binary32 (cond s 2147483648 0 + b))) None) (lt-ltb b 2139095040 l)
          ∙ ap Some (pack_in s q k le ge l ∙ units_in s q k (in_range q k le ge l))
          ∙ odd_word 25 s q k 149
          ∙ ap rounded (sym (units_in s q k (in_range q k le ge l)))
      | inr l ↦
          ap (λ (t : Bool). cond t (Some (of_bits binary32 (cond s 2147483648 0 + b))) None) (le-ltb b 2139095040 l)
          ∙ ap rounded (sym (pack_out s q k le ge l))
    ]

-- ---- the word
pub word_packs : (s : Bool) (w u x : ℕ) → 2 ^ 62 ≤ w * 2 ^ u → w * 2 ^ u < 2 ^ 63 → pack_of s ((x - (126 + u)) * 8388608 + closest (w * 2 ^ u) (2 ^ (39 + (126 + u - x)))) ≡ rounded (round binary32 s (w * 2 ^ x) (2 ^ 314))
word_packs s w u x lo hi =
    let n = w * 2 ^ u in
    let j = 314 + u in
    ap₂ (λ (a b : ℕ). pack_of s (a * 8388608 + closest n (2 ^ (39 + b)))) (omega arith) (omega arith)
    ∙ units_pack s (closest n (2 ^ (39 + (j - (x + 149 + 39))))) (x + 149 + 39 - j) (word_le binary32 s n 39 x j lo hi) (word_ge binary32 s n 39 x j lo hi)
    ∙ ap rounded
    (sym (round_word binary32 s n 39 x j lo hi)
    ∙ round_same binary32 s (n * 2 ^ x) (2 ^ j) (w * 2 ^ x) (2 ^ 314) (pow_pos j) (pow_pos 314)
    (ap (λ (z : ℕ). z * 2 ^ 314) (mul_right_comm w (2 ^ u) (2 ^ x)) ∙ mul_assoc (w * 2 ^ x) (2 ^ u) (2 ^ 314) ∙ ap (λ (z : ℕ). w * 2 ^ x * z) (mul_comm (2 ^ u) (2 ^ 314) ∙ sym (pow-add 2 314 u))))

-- ---- the leading zeros place the top digit
abbrev pub Placed : ℕ → ℕ → Type 0
Placed w u = (count_leading_zeros 64 w ≡ suc u) × (u < 63) × (2 ^ 62 ≤ w * 2 ^ u) × (w * 2 ^ u < 2 ^ 63)

pub placed : (w : ℕ) → 0 < w → w < 2 ^ 63 → Placed w (count_leading_zeros 64 w - 1)
placed w p h =
    let t = leading_top 64 w p (lt_of_lt_of_le h (lit≤ tt)) in
    let j = t.0 in
    let z = count_leading_zeros 64 w in
    let j_le : j < 63 = pow_lt_back j 63 (lt_of_le_of_lt t.2 h) in
    let u = z - 1 in (
      more z j t.1 j_le,
      under z j t.1,
      le_trans (le_of_eq (ap (λ (x : ℕ). 2 ^ x) (sym (sum z j t.1 j_le)) ∙ pow-add 2 j u)) (mul-le-mul_right (2 ^ u) t.2),
      lt_of_lt_of_le (mul-lt-mul_of_pos_right t.3 (pow_pos u)) (le_of_eq (sym (pow-add 2 (suc j) u) ∙ ap (λ (x : ℕ). 2 ^ x) (sum' z j t.1 j_le))),
    )
  where
    more : (z j : ℕ) → z + suc j ≡ 64 → j < 63 → z ≡ suc (z - 1)
    more z j e h = omega arith

    under : (z j : ℕ) → z + suc j ≡ 64 → z - 1 < 63
    under z j e = omega arith

    sum : (z j : ℕ) → z + suc j ≡ 64 → j < 63 → j + (z - 1) ≡ 62
    sum z j e h = omega arith

    sum' : (z j : ℕ) → z + suc j ≡ 64 → j < 63 → suc j + (z - 1) ≡ 63
    sum' z j e h = omega arith
