use Rattle.std.proofs.Common.{arith}
use Rattle.std.proofs.lemmas.Grind.{common_steps}
use Rattle.vad_segments.specs.Loudness.{in_speech_of}
use Rattle.vad_segments.proofs.loudness.in_speech.Goals as goal

pub returns-then-loud : goal.returns-then-loud
unfolding in_speech_of
returns-then-loud c = grind (arith, common_steps)

pub returns-else-loud : goal.returns-else-loud
unfolding in_speech_of
returns-else-loud c = grind (arith, common_steps)
