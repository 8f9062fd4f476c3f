use Rattle.std.proofs.Common.{arith}
use Rattle.std.proofs.lemmas.Grind.{common_steps}
use Rattle.vad_segments.specs.Positions.{next_of}
use Rattle.vad_segments.proofs.positions.next_start.Goals as goal

pub returns : goal.returns
unfolding next_of
returns c = grind (arith, common_steps)
