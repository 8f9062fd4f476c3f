use Rattle.vad_segments.specs.Positions.{holds_of}
use Rattle.vad_segments.proofs.positions.holds.Goals as goal

pub returns-then-not-finish : goal.returns-then-not-finish
unfolding holds_of
returns-then-not-finish c = simp c.if-not-finish.true

pub returns-else-not-finish : goal.returns-else-not-finish
unfolding holds_of
returns-else-not-finish c = simp c.if-not-finish.false
