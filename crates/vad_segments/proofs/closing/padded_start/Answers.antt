use Rattle.vad_segments.specs.Closing.{padded_start}
use Rattle.vad_segments.proofs.closing.padded_start.Goals as goal

pub returns : goal.returns
unfolding padded_start
returns c = simp (c.saturating_sub.ensures, c.max.ensures)
