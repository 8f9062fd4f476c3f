use Rattle.std.proofs.Common.{arith}
use Rattle.std.proofs.lemmas.Grind.{common_steps}
use Rattle.vad_segments.specs.Loudness.{required_of}
use Rattle.vad_segments.proofs.loudness.required_ratio.Goals as goal

pub returns-then-is_some : goal.returns-then-is_some
unfolding required_of
returns-then-is_some c = grind (arith, common_steps)

pub returns-else-is_some : goal.returns-else-is_some
unfolding required_of
returns-else-is_some c = grind (arith, common_steps)
