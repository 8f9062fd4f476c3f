use mathlib.Core.Path.{refl}
use Rattle.vad_segments.specs.Judging.{active_to}
use Rattle.vad_segments.proofs.setters.with_active.Goals as goal

pub returns : goal.returns
unfolding active_to
returns c = refl
