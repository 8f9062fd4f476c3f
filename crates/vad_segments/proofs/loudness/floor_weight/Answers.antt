use Rattle.vad_segments.specs.Loudness.{weight_of}
use Rattle.vad_segments.proofs.loudness.floor_weight.Goals as goal
use Rattle.vad_segments.proofs.loudness.floor_weight.Goals.{else-speech-via-then-speech+else-floor-energy, else-speech-via-else-speech}

pub returns-then-floor-energy : goal.returns-then-floor-energy
unfolding weight_of
returns-then-floor-energy c = simp (c.if-speech.true, c.if-floor-energy.true)

pub returns-else-speech : goal.returns-else-speech
unfolding weight_of
returns-else-speech c = elim c.else-speech.branch [
  | else-speech-via-then-speech+else-floor-energy w ↦ simp (w.if-speech.true, w.if-floor-energy.false)
  | else-speech-via-else-speech w ↦ simp w.if-speech.false
]
