use Rattle.std.proofs.Common.{◌≡◌, ℕ, subst, ap₂, ◌+◌, ◌-◌, ◌*◌, ◌/◌, ◌%◌, ◌^◌, ◌<◌, ◌≤◌, false, sym, ap, ◌∙◌, le_trans, lt_of_lt_of_le, mod-eq_of_lt, mul_assoc, arith, lit<, lit≤, pow-add}
use lib.Ieee.{binary32, round}
use Rattle.float.specs.Finite.{rounded}
use Rattle.float.specs.Root.{twice_root}
use Rattle.float.specs.Inside.{Q}
use Rattle.float.proofs.Decode.{place_lt}
use Rattle.float.proofs.Places.{at_place}
use Rattle.float.proofs.Roots.{root_rounds}
use Rattle.float.proofs.root.positive_root.Goals as goal

half_lt : (p u : ℕ) → p < 256 → (p + 62 - u) / 2 + 207 < 1000
half_lt p u h = omega arith

-- the number that was moved up, and the one that the definition takes the root of
scaled : (m p u : ℕ) → u ≤ p + 62 → (p + 62 - u) % 2 ≡ 0 → m * 2 ^ u * 2 ^ ((p + 62 - u) / 2 + 44 + ((p + 62 - u) / 2 + 44)) ≡ m * 2 ^ (p + 150)
scaled m p u l e = mul_assoc m (2 ^ u) (2 ^ ((p + 62 - u) / 2 + 44 + ((p + 62 - u) / 2 + 44))) ∙ ap (λ (x : ℕ). m * x) (sym (pow-add 2 u ((p + 62 - u) / 2 + 44 + ((p + 62 - u) / 2 + 44))) ∙ ap (λ (x : ℕ). 2 ^ x) (omega arith))

rounds : (m p u : ℕ) → 2 ^ 61 ≤ m * 2 ^ u → u ≤ p + 62 → (p + 62 - u) % 2 ≡ 0
    → round binary32 false (twice_root (m * 2 ^ u) * 2 ^ ((p + 62 - u) / 2 + 207)) (2 ^ 314) ≡ round binary32 false (twice_root (m * 2 ^ (p + 150))) (2 ^ 151)
rounds m p u big l e =
    let j = (p + 62 - u) / 2 + 44 in
    sym
    (ap (λ (x : ℕ). round binary32 false (twice_root x) (2 ^ 151)) (sym (scaled m p u l e))
    ∙ root_rounds (m * 2 ^ u) j (le_trans (lit≤ tt) big)
    ∙ ap (λ (x : ℕ). round binary32 false (twice_root (m * 2 ^ u) * 2 ^ x) (2 ^ 314)) (omega arith))

small-place : (q b : ℕ) → q ≡ Q b → q < 256
small-place q b e = subst (λ (p : ℕ). p < 256) (sym e) (place_lt b)

pub returns : goal.returns
returns c =
    let l = c.lift-up in
    let u = l.result in
    let p = c.place-place.result in
    let m = c.significand-m.result in
    let x = (p + 62 - u) / 2 + 207 in
    let k : m * 2 ^ u % 18446744073709551616 ≡ m * 2 ^ u = mod-eq_of_lt (lt_of_lt_of_le l.ensures.2 (lit≤ tt)) in
    c.pack.ensures
    ∙ c.magnitude_bits.ensures false x (at_place c.root_exponent.result x 314 (half_lt p u (small-place p c.args.bits c.place-place.ensures)) (lit< tt) c.root_exponent.ensures)
    ∙ ap (λ (w : ℕ). rounded (round binary32 false (w * 2 ^ x) (2 ^ 314))) (c.sticky_root-w.ensures.0 ∙ ap twice_root k)
    ∙ ap rounded (rounds m p u l.ensures.1 l.ensures.4 l.ensures.3)
    ∙ ap₂ (λ (m p : ℕ). rounded (round binary32 false (twice_root (m * 2 ^ (p + 150))) (2 ^ 151))) c.significand-m.ensures c.place-place.ensures
