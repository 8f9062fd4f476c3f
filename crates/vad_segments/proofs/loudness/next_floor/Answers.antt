use lib.Ieee.{of_bits}
use Rattle.vad_segments.specs.Loudness.{floor_of}
use Rattle.vad_segments.proofs.loudness.next_floor.Goals as goal

pub returns : goal.returns
unfolding floor_of of_bits
returns c = simp (c.at_least.ensures, c.mul_add_or-blend.ensures)
