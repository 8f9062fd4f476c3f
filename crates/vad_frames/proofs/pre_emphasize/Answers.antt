use mathlib.Core.Path.{◌∙◌}
use Rattle.vad_frames.specs.Emphasis.{emphasized}
use Rattle.vad_frames.proofs.Laws.{emphasized_length}
use Rattle.vad_frames.proofs.pre_emphasize.Goals as goal
use Rattle.vad_frames.proofs.pre_emphasize.Goals.{then-not-settle, else-not-settle}

pub returns-clause-values_left : goal.returns-clause-values_left
returns-clause-values_left c =
    let a = c.args in
    let vs = emphasized a.coeff a.previous a.samples.now in
    elim c.if-not-settle.branch [
      | then-not-settle w ↦ w.values-is ∙ w.emphasize_each.ensures ∙ c.settle.ensures.same_past vs (emphasized_length a.coeff a.previous a.samples.now)
      | else-not-settle w ↦ w.values-is ∙ c.settle.ensures.values_left w.if-not-settle.false
    ]
