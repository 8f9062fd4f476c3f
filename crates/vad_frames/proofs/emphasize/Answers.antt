use lib.Ieee.{of_bits}
use Rattle.vad_frames.specs.Emphasis.{emphasized_of}
use Rattle.vad_frames.proofs.emphasize.Goals as goal

pub returns : goal.returns
unfolding emphasized_of of_bits
returns c = c.mul_add_or.ensures
