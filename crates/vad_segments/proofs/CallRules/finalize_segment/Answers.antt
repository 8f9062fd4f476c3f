use mathlib.Core.Path.{sym, ◌∙◌}
use Rattle.vad_segments.specs.Closing.{finalized_of}
use Rattle.vad_segments.proofs.CallRules.finalize_segment.Goals as goal

pub returns-then-too_short : goal.returns-then-too_short
unfolding finalized_of
returns-then-too_short c = simp (sym c.too_short.ensures ∙ c.if-too_short.true) c.dropped.ensures

pub returns : goal.returns
unfolding finalized_of
returns c = simp (sym c.too_short.ensures ∙ c.if-too_short.false) (c.timed.ensures ∙ rw (c.padded_end-end.ensures, c.padded_start-start.ensures))
