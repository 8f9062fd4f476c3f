use Rattle.std.proofs.Common.{rules, ◌≤◌, length, le-ltb, ap, ◌∙◌}
use Rattle.refusals.specs.Refusals.{number_in}
use Rattle.dc_highpass.specs.declared.Answered.{Answered}
use Rattle.dc_door.specs.FilterDoor.{open_answer}
use Rattle.dc_door.proofs.open.Goals as goal

pub returns-clause-value : goal.returns-clause-value
unfolding open_answer
returns-clause-value c =
    let long : 25 ≤ length c.args.state.now = search rules in
    rw (le-ltb _ 25 long) (c.number_in.ensures ∙ ap (λ (o : Answered). number_in o.outcome) c.opened-done.ensures)
