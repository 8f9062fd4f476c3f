use Rattle.std.proofs.Common.{◌≡◌, ℕ, ◌+◌, ◌*◌, ◌/◌, ◌%◌, ◌^◌, ◌<◌, ◌≤◌, Bool, cond, eqb, sym, ap, ◌∙◌, ap₂, lt_of_lt_of_le, mod-eq_of_lt, arith, pow_mono, eq-eqb, ne_eqb}
use Rattle.float.specs.Inside.{jam_of}
use Rattle.float.proofs.Words.{mask_is, far}
use Rattle.float.proofs.fused.jam.Goals as goal

-- all digits are cut off
all-cut : (m d : ℕ) → m < 2 ^ 64 → 63 < d → jam_of m d ≡ cond (eqb m 0) 0 1
all-cut m d h g =
    let l : m < 2 ^ d = lt_of_lt_of_le h (pow_mono g) in
    ap₂ (λ (r q : ℕ). cond (eqb r 0) q (q / 2 * 2 + 1)) (mod-eq_of_lt l) (far m d l)

within : (d : ℕ) → d ≤ 63 → d < 64
within d h = omega arith

pub returns-else-m-eq0 : goal.returns-else-m-eq0
returns-else-m-eq0 c =
    let m = c.args.m in
    let d = c.args.d in
    sym (all-cut m d c.ranges.m.fits c.if-d-gt63.true ∙ ap (λ (b : Bool). cond b 0 1) (ne_eqb m 0 c.if-m-eq0.false))

pub returns-then-cut-eq0 : goal.returns-then-cut-eq0
returns-then-cut-eq0 c =
    let m = c.args.m in
    let d = c.args.d in
    sym (ap (λ (b : Bool). cond b (m / 2 ^ d) (m / 2 ^ d / 2 * 2 + 1)) (eq-eqb (m % 2 ^ d) 0 (sym (mask_is m d (within d c.if-d-gt63.false)) ∙ c.if-cut-eq0.true)))

pub returns : goal.returns
returns c =
    let m = c.args.m in
    let d = c.args.d in
    sym (ap (λ (b : Bool). cond b (m / 2 ^ d) (m / 2 ^ d / 2 * 2 + 1)) (ne_eqb (m % 2 ^ d) 0 (λ e. c.if-cut-eq0.false (mask_is m d (within d c.if-d-gt63.false) ∙ e))))
