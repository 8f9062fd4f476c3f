use mathlib.Core.Path.{ap, ◌∙◌}
use Rattle.vad_state.specs.declared.VadDetector.{VadDetector}
use Rattle.vad_call.specs.Checks.{check_of}
use Rattle.vad_lent.proofs.Laws.{state_lent}
use Rattle.vad_lent.proofs.check_at.Goals as goal

pub returns : goal.returns
returns c =
    let s = c.args in
    let lent = c.lent_in in
    c.check.ensures ∙ ap (λ (d : VadDetector). check_of d s.samples.now) (state_lent s.kept s.floats.now lent.result.window.now lent.result.carry.now lent.result.warmup.now lent.ensures.window_value lent.ensures.carry_value lent.ensures.warmup_value)
