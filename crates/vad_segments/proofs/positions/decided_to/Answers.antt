use Rattle.vad_segments.specs.Positions.{decided_to}
use Rattle.vad_segments.proofs.positions.decided_to.Goals as goal

pub returns : goal.returns
unfolding decided_to
returns c = simp (c.saturating_sub.ensures, c.min.ensures, c.max.ensures)
