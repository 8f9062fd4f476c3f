use Rattle.std.proofs.Common.{◌≡◌, ℕ, ◌+◌, ◌^◌, true, false, pos, ap, ◌∙◌, subst, arith, le→leb}
use lib.Ieee.{binary64, of_int, of_bits, in_float, lt}
use Rattle.float.proofs.Words.{T_of}
use Rattle.float.proofs.Cuts.{cut_small, ceil_over, ceil_under, ceil_whole_part}
use Rattle.float.proofs.whole.ceil_f64.Goals as goal

pub int_to_float-t : goal.int_to_float-t
unfolding of_bits in_float
int_to_float-t c =
    let e = c.saturating_f64_to_u64-t.ensures in
    let s = cut_small c.args.x c.if-x.true in
    le→leb c.saturating_f64_to_u64-t.result (2 ^ 53) (omega arith)

pub overflow_add-result : goal.overflow_add-result
unfolding of_bits
overflow_add-result c =
    let e = c.saturating_f64_to_u64-t.ensures in
    let s = cut_small c.args.x c.if-x.true in
    omega arith

pub returns-then-t-x : goal.returns-then-t-x
unfolding of_bits
returns-then-t-x c =
    let x = c.args.x in
    let e = c.saturating_f64_to_u64-t.ensures in
    ap (λ (t : ℕ). t + 1) e ∙ ceil_over x c.if-x.true (subst (λ (t : ℕ). lt (of_int binary64 (pos t)) x ≡ true) e c.if-t-x.true)

pub returns-then-x : goal.returns-then-x
unfolding of_bits
returns-then-x c =
    let x = c.args.x in
    let e = c.saturating_f64_to_u64-t.ensures in
    e ∙ ceil_under x c.if-x.true (subst (λ (t : ℕ). lt (of_int binary64 (pos t)) x ≡ false) e c.if-t-x.false)

pub returns : goal.returns
unfolding of_bits
returns c = c.saturating_f64_to_u64-t.ensures ∙ ceil_whole_part c.args.x (T_of c.well_formed.0.1) c.if-x.false
