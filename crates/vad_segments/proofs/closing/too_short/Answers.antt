use borrow.Author.Tests.{le-leb, lt-leb}
use Rattle.vad_segments.specs.Closing.{too_short}
use Rattle.vad_segments.proofs.closing.too_short.Goals as goal

pub returns-then-segment : goal.returns-then-segment
unfolding too_short
returns-then-segment c = simp (le-leb _ _ c.if-segment.true)

pub returns-else-segment : goal.returns-else-segment
unfolding too_short
returns-else-segment c = simp (lt-leb _ _ c.if-segment.false)
