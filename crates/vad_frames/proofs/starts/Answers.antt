use Rattle.vad_frames.specs.Grid.{taken}
use Rattle.vad_frames.proofs.starts.Goals as goal

pub returns-then-finish : goal.returns-then-finish
unfolding taken
returns-then-finish c = simp c.if-finish.true

pub returns-else-finish : goal.returns-else-finish
unfolding taken
returns-else-finish c = simp c.if-finish.false
