use Rattle.std.proofs.Common.{arith}
use Rattle.std.proofs.lemmas.Grind.{common_steps}
use Rattle.vad_segments.specs.Judging.{paused_by}
use Rattle.vad_segments.proofs.judging.longer_pause.Goals as goal

pub returns : goal.returns
unfolding paused_by
returns c = grind (arith, common_steps)
