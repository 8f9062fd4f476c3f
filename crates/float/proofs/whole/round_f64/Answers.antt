use Rattle.std.proofs.Common.{◌≡◌, ℕ, ◌+◌, ◌^◌, true, false, ap, ◌∙◌, subst, arith, le→leb}
use lib.Ieee.{of_bits, in_float, lt}
use Rattle.float.proofs.Words.{T_of}
use Rattle.float.proofs.Cuts.{middle, cut_small, round_over, round_under, round_whole_part}
use Rattle.float.proofs.whole.round_f64.Goals as goal

pub int_to_float-middle : goal.int_to_float-middle
unfolding of_bits in_float
int_to_float-middle c =
    let e = c.saturating_f64_to_u64-t.ensures in
    let s = cut_small c.args.x c.if-x.true in
    le→leb c.saturating_f64_to_u64-t.result (2 ^ 53) (omega arith)

pub returns-then-x-middle : goal.returns-then-x-middle
unfolding of_bits
returns-then-x-middle c =
    let x = c.args.x in
    let e = c.saturating_f64_to_u64-t.ensures in
    e ∙ round_under x c.if-x.true (subst (λ (t : ℕ). lt x (middle t) ≡ true) e c.if-x-middle.true)

pub overflow_add-result : goal.overflow_add-result
unfolding of_bits
overflow_add-result c =
    let e = c.saturating_f64_to_u64-t.ensures in
    let s = cut_small c.args.x c.if-x.true in
    omega arith

pub returns-then-x : goal.returns-then-x
unfolding of_bits
returns-then-x c =
    let x = c.args.x in
    let e = c.saturating_f64_to_u64-t.ensures in
    ap (λ (t : ℕ). t + 1) e ∙ round_over x c.if-x.true (subst (λ (t : ℕ). lt x (middle t) ≡ false) e c.if-x-middle.false)

pub returns : goal.returns
unfolding of_bits
returns c = c.saturating_f64_to_u64-t.ensures ∙ round_whole_part c.args.x (T_of c.well_formed.0.1) c.if-x.false
