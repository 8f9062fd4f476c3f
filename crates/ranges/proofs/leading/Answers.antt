use mathlib.Core.Path.{sym, ◌∙◌}
use native.Mathlib.Omega.{arith}
use borrow.Author.Rules.{rules}
use Rattle.ranges.proofs.Turns.{leading_step, leading_stop, leading_end}
use Rattle.ranges.proofs.leading.Goals as goal

pub loop-i-preserved : goal.loop-i-preserved
loop-i-preserved c =
    let a = c.args in
    let e = leading_step a.low a.high c.loop-i.i a.xs.now c.loop-i-test.true (sym c.inside.ensures ∙ c.if-not-inside.false) in
    (search rules, omega arith)

pub returns-after-loop-i : goal.returns-after-loop-i
returns-after-loop-i c = let a = c.args in let e = leading_end a.low a.high c.loop-i.i a.xs.now c.loop-i-test.false in omega arith

pub returns-then-not-inside : goal.returns-then-not-inside
returns-then-not-inside c =
    let a = c.args in
    let e = leading_stop a.low a.high c.loop-i.i a.xs.now c.loop-i-test.true (sym c.inside.ensures ∙ c.if-not-inside.true) in
    omega arith
