use Rattle.vad_segments.specs.Judging.{frame_at}
use Rattle.vad_segments.proofs.judging.frame_at.Goals as goal

pub returns : goal.returns
unfolding frame_at
returns c = simp c.min.ensures
