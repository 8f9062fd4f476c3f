use mathlib.Core.Path.{sym, ap, ◌∙◌}
use mathlib.Core.Bool.{Bool, ◌&&◌}
use Prim.Native.Nat.{◌+◌}
use lib.ListN.{drop}
use Rattle.ranges.specs.Ranges.{all_within}
use Rattle.ranges.proofs.Turns.{all_end, all_on}
use Rattle.ranges.proofs.all_inside.Goals as goal

pub loop-x-preserved : goal.loop-x-preserved
loop-x-preserved c =
    let a = c.args in
    let on = all_on a.low a.high c.loop-x.x-index a.xs.now c.loop-x.all c.loop-x-test.true in
    ap (λ (b : Bool). (c.loop-x.all && b) && all_within a.low (drop (c.loop-x.x-index + 1) a.xs.now) a.high) c.inside-all.ensures ∙ on ∙ c.loop-x.invariant

pub returns : goal.returns
returns c =
    let a = c.args in
    sym (all_end a.low a.high c.loop-x.x-index a.xs.now c.loop-x.all c.loop-x-test.false) ∙ c.loop-x.invariant
