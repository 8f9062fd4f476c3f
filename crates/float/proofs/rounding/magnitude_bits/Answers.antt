use Rattle.std.proofs.Common.{◌≡◌, ℕ, suc, ◌+◌, ◌-◌, ◌*◌, ◌/◌, ◌%◌, ◌^◌, ◌<◌, ◌≤◌, ℤ, sym, ◌∙◌, subst, ap₂, inl, inr, le_trans, lt_of_lt_of_le, mod-eq_of_lt, eq-zero-or-pos, arith, lit≤}
use Prim.Native.Nat.{compare}
use lib.Pow.{shr_le}
use lib.Count.{count_leading_zeros}
use lib.IntN.{sub_ℕ}
use lib.Signed.{mag}
use lib.Ieee.Fits.{nearest-le}
use lib.Ieee.Nearest.{closest}
use Rattle.float.specs.Inside.{pack_of}
use Rattle.float.proofs.Places.{held, back', wider, place_held}
use Rattle.float.proofs.Round.{Placed, placed, zero_packs, word_packs}
use Rattle.float.proofs.rounding.magnitude_bits.Goals as goal

positive : (w : ℕ) → (w ≡ 0 → ⊥) → 0 < w
positive w n = elim (eq-zero-or-pos w) [ inl e ↦ absurd (n e) | inr p ↦ p ]

-- what the leading zeros say
at_top : (w : ℕ) → (w ≡ 0 → ⊥) → w < 2 ^ 63 → Placed w (count_leading_zeros 64 w - 1)
at_top w n h = placed w (positive w n) h

one_up : (z u : ℕ) → z ≡ suc u → 1 ≤ z
one_up z u e = omega arith

small-d : (d : ℤ) → mag d < 2000 → held d ≡ d
small-d d h = back' d (wider (mag d) 2000 h tt)

-- what is shifted stays in the rounded
kept : (w u : ℕ) → w * 2 ^ u < 2 ^ 63 → w * 2 ^ u % 18446744073709551616 ≡ w * 2 ^ u
kept w u h = mod-eq_of_lt (lt_of_lt_of_le h (lit≤ tt))

total : (a q n : ℕ) → a < 3001 → q ≤ suc n → n < 9223372036854775808 → a * 8388608 + q < 18446744073709551616
total a q n h g k = omega arith

closest-le : (n s : ℕ) → closest n (2 ^ s) ≤ suc n
closest-le n s = le_trans (nearest-le (n / 2 ^ s) (compare (n % 2 ^ s * 2) (2 ^ s))) (omega (arith, shr_le n s))

pub returns-then-w-eq0 : goal.returns-then-w-eq0
returns-then-w-eq0 c = λ s x p. zero_packs s c.args.w x c.if-w-eq0.true

pub overflow_sub-up : goal.overflow_sub-up
overflow_sub-up c =
    let w = c.args.w in
    one_up (count_leading_zeros 64 w) (count_leading_zeros 64 w - 1) (at_top w c.if-w-eq0.false c.requires.0).0

pub nearest_shift-q-requires : goal.nearest_shift-q-requires
nearest_shift-q-requires c =
    let w = c.args.w in
    let u = count_leading_zeros 64 w - 1 in
    let t : Placed w u = at_top w c.if-w-eq0.false c.requires.0 in
    ((omega arith), subst (λ (z : ℕ). z < 9223372036854775808) (sym (kept w u t.3)) t.3)

pub overflow_add-result : goal.overflow_add-result
overflow_add-result c =
    let w = c.args.w in
    let u = count_leading_zeros 64 w - 1 in
    let t : Placed w u = at_top w c.if-w-eq0.false c.requires.0 in
    let n = w * 2 ^ u % 18446744073709551616 in
    record { fits = total c.above.result c.nearest_shift-q.result n c.above.ensures.0 (subst (λ (q : ℕ). q ≤ suc n) (sym c.nearest_shift-q.ensures) (closest-le n (39 + c.below.result))) (subst (λ (z : ℕ). z < 9223372036854775808) (sym (kept w u t.3)) t.3) }

pub returns : goal.returns
returns c = λ s x p.
    let w = c.args.w in
    let e = c.args.e in
    let d = c.dropped-d.result in
    let u = count_leading_zeros 64 w - 1 in
    let t : Placed w u = at_top w c.if-w-eq0.false c.requires.0 in
    let place : held d ≡ sub_ℕ x (126 + u) = small-d d c.dropped-d.ensures.0 ∙ c.dropped-d.ensures.1 x (place_held e c.requires.1 ∙ p) in
    let a : c.above.result ≡ x - (126 + u) = c.above.ensures.1 x (126 + u) place in
    let b : c.below.result ≡ 126 + u - x = c.below.ensures.1 x (126 + u) place in
    let q : c.nearest_shift-q.result ≡ closest (w * 2 ^ u) (2 ^ (39 + (126 + u - x))) = c.nearest_shift-q.ensures ∙ ap₂ (λ (n h : ℕ). closest n (2 ^ (39 + h))) (kept w u t.3) b in
    ap₂ (λ (k n : ℕ). pack_of s (k * 8388608 + n)) a q ∙ word_packs s w u x t.2 t.3
