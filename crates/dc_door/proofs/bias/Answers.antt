use mathlib.Core.Path.{sym, ◌∙◌}
use Rattle.std.specs.Prelude.{Ok, Err}
use Rattle.refusals.specs.Refusals.{number}
use Rattle.dc_door.proofs.Door.{bias_read_lem, packed_zero}
use Rattle.dc_door.proofs.bias.Goals as goal

pub returns-in-Ok : goal.returns-in-Ok
returns-in-Ok c =
    let e = rw c.filter_at.ensures at c.dc_bias.ensures in
    bias_read_lem c.args.state.now (Ok c.in-Ok.bias) (sym c.in-Ok.is ∙ e) c.answer.result (rw c.to_bits.ensures at c.answer.ensures)

pub returns-in-Err : goal.returns-in-Err
returns-in-Err c =
    let e = rw c.filter_at.ensures at c.dc_bias.ensures in
    bias_read_lem c.args.state.now (Err c.in-Err.by) (sym c.in-Err.is ∙ e) c.number.result (c.number.ensures ∙ packed_zero (number c.in-Err.by))
