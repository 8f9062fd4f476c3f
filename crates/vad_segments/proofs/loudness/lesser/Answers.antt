use Rattle.vad_segments.specs.Loudness.{lesser_of}
use Rattle.vad_segments.proofs.loudness.lesser.Goals as goal

pub returns-then-energy-m : goal.returns-then-energy-m
unfolding lesser_of
returns-then-energy-m c = simp c.if-energy-m.true

pub returns-else-energy-m : goal.returns-else-energy-m
unfolding lesser_of
returns-else-energy-m c = simp c.if-energy-m.false
