use native.Mathlib.Numerals.{add-one}
use Rattle.vad_segments.specs.Closing.{padded_end}
use Rattle.vad_segments.proofs.closing.padded_end.Goals as goal

pub returns : goal.returns
unfolding padded_end
returns c = simp (c.min.ensures, c.max.ensures, add-one)
