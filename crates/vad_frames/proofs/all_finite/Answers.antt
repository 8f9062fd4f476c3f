use mathlib.Core.Path.{sym, ◌∙◌}
use mathlib.Core.Bool.{true≢false}
use Rattle.float.proofs.Words.{T_of}
use Rattle.ranges.proofs.Laws.{all_finite}
use Rattle.vad_frames.proofs.all_finite.Goals as goal
use Rattle.vad_frames.proofs.all_finite.Goals.{then-is_finite, else-is_finite}

pub returns-then-is_finite-2 : goal.returns-then-is_finite-2
returns-then-is_finite-2 c = λ h. elim c.if-is_finite.branch [
  | then-is_finite w ↦ (
    T_of (sym c.is_finite.ensures ∙ w.if-is_finite.true),
    T_of (sym w.is_finite-then-is_finite.ensures ∙ sym w.value-is ∙ c.if-is_finite-2.true),
    all_finite c.args.samples.now (sym c.all_inside.ensures ∙ h),
  )
  | else-is_finite w ↦ absurd (true≢false (sym c.if-is_finite-2.true ∙ w.value-is ∙ w.if-is_finite.false))
]
