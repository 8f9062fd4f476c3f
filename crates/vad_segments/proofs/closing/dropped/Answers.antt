use Rattle.vad_segments.specs.Closing.{dropped_of}
use Rattle.vad_segments.proofs.closing.dropped.Goals as goal

pub returns : goal.returns
unfolding dropped_of
returns c = simp (c.min.ensures, c.max.ensures)
