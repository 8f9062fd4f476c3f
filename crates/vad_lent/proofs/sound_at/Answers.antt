use mathlib.Core.Path.{ap, ◌∙◌}
use Rattle.vad_state.specs.State.{sound_of}
use Rattle.vad_lent.proofs.Laws.{state_lent}
use Rattle.vad_lent.proofs.sound_at.Goals as goal

pub returns : goal.returns
returns c =
    let lent = c.lent_in in
    c.sound_lent.ensures ∙ ap sound_of (state_lent c.args.kept c.args.floats.now lent.result.window.now lent.result.carry.now lent.result.warmup.now lent.ensures.window_value lent.ensures.carry_value lent.ensures.warmup_value)
