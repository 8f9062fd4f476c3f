use Rattle.vad_segments.specs.Judging.{paused_of}
use Rattle.vad_segments.proofs.judging.pause.Goals as goal

pub returns : goal.returns
unfolding paused_of
returns c = simp (c.with_active.ensures, c.longer_pause.ensures)
