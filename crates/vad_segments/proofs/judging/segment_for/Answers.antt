use Rattle.std.proofs.Common.{arith}
use Rattle.std.proofs.lemmas.Grind.{common_steps}
use Rattle.vad_segments.specs.Judging.{begun_at, segment_for}
use Rattle.vad_segments.proofs.judging.segment_for.Goals as goal

pub returns : goal.returns
unfolding begun_at segment_for
returns c = grind (arith, common_steps)
