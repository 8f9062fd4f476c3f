use Rattle.std.proofs.Common.{◌≡◌, ℕ, suc, ◌+◌, ◌-◌, ◌*◌, ◌%◌, ◌^◌, ◌<◌, ◌≤◌, sym, ap, ◌∙◌, le_trans, le_of_eq, lt_of_lt_of_le, lt_of_le_of_lt, mul-le-mul_right, mul_assoc, mul-le-mul_left, mul-lt-mul_of_pos_right, arith, lit≤, pow_pos, pow_mono, pow-add}
use Rattle.float.proofs.Sticky.{pow_lt_back}
use lib.Count.{count_leading_zeros, leading_top}
use Rattle.float.proofs.root.lift.Goals as goal

-- the top digit comes to bit 61
abbrev Up : ℕ → ℕ → Type 0
Up m z = (40 ≤ z) × (z < 64) × (2 ^ 61 ≤ m * 2 ^ (z - 2)) × (m * 2 ^ (z - 2) < 2 ^ 62)

placed : (m : ℕ) → 0 < m → m < 2 ^ 24 → Up m (count_leading_zeros 64 m)
placed m p h =
    let t = leading_top 64 m p (lt_of_lt_of_le h (lit≤ tt)) in
    let j = t.0 in
    let z = count_leading_zeros 64 m in
    let j-lt : j < 24 = pow_lt_back j 24 (lt_of_le_of_lt t.2 h) in (
      x1 z j t.1 j-lt,
      x2 z j t.1,
      le_trans (le_of_eq (ap (λ (x : ℕ). 2 ^ x) (sym (x3 z j t.1 j-lt)) ∙ pow-add 2 j (z - 2))) (mul-le-mul_right (2 ^ (z - 2)) t.2),
      lt_of_lt_of_le (mul-lt-mul_of_pos_right t.3 (pow_pos (z - 2))) (le_of_eq (sym (pow-add 2 (suc j) (z - 2)) ∙ ap (λ (x : ℕ). 2 ^ x) (x4 z j t.1 j-lt))),
    )
  where
    x1 : (z j : ℕ) → z + suc j ≡ 64 → j < 24 → 40 ≤ z
    x1 z j e h = omega arith

    x2 : (z j : ℕ) → z + suc j ≡ 64 → z < 64
    x2 z j e = omega arith

    x3 : (z j : ℕ) → z + suc j ≡ 64 → j < 24 → j + (z - 2) ≡ 61
    x3 z j e h = omega arith

    x4 : (z j : ℕ) → z + suc j ≡ 64 → j < 24 → suc j + (z - 2) ≡ 62
    x4 z j e h = omega arith

-- one place more where the exponent would be odd
lifted : (m z p : ℕ) → Up m z → (z - 2 + (p + (z - 2)) % 2 < 63) × (2 ^ 61 ≤ m * 2 ^ (z - 2 + (p + (z - 2)) % 2)) × (m * 2 ^ (z - 2 + (p + (z - 2)) % 2) < 2 ^ 63) × ((p + 62 - (z - 2 + (p + (z - 2)) % 2)) % 2 ≡ 0) × (z - 2 + (p + (z - 2)) % 2 ≤ p + 62)
lifted m z p h =
    let u = z - 2 in
    let d = (p + u) % 2 in (
      omega (arith, h.1),
      le_trans h.2 (mul-le-mul_left m (pow_mono (omega arith))),
      lt_of_le_of_lt (mul-le-mul_left m (pow_mono (omega arith))) (lt_of_le_of_lt (le_of_eq (ap (λ (x : ℕ). m * x) (pow-add 2 u 1) ∙ sym (mul_assoc m (2 ^ u) 2))) (omega (arith, h.3))),
      omega (arith, h.0, h.1),
      omega (arith, h.0, h.1),
    )

two_up : (z : ℕ) → 40 ≤ z → 2 ≤ z
two_up z h = omega arith

pub overflow_sub-up : goal.overflow_sub-up
overflow_sub-up c = two_up (count_leading_zeros 64 c.args.m) (placed c.args.m c.requires.0 c.requires.1).0

pub returns : goal.returns
returns c = lifted c.args.m (count_leading_zeros 64 c.args.m) c.args.place (placed c.args.m c.requires.0 c.requires.1)
