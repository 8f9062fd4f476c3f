use Rattle.vad_segments.specs.Closing.{row_of}
use Rattle.vad_segments.proofs.closing.row_of.Goals as goal

pub returns : goal.returns
unfolding row_of
returns c = simp (c.to_bits.ensures, c.mean_energy.ensures, c.time_at-2.ensures, c.time_at.ensures)
