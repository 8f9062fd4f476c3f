use Rattle.vad_segments.specs.Loudness.{at_least}
use Rattle.vad_segments.proofs.loudness.at_least.Goals as goal

pub returns-then-x-least : goal.returns-then-x-least
unfolding at_least
returns-then-x-least c = simp c.if-x-least.true

pub returns-else-x-least : goal.returns-else-x-least
unfolding at_least
returns-else-x-least c = simp c.if-x-least.false
