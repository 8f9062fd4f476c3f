use Rattle.vad_segments.specs.Judging.{turned_of}
use Rattle.vad_segments.proofs.CallRules.turn.Goals as goal

pub returns-then-loud : goal.returns-then-loud
unfolding turned_of
returns-then-loud c = simp (c.if-loud.true, c.add_loud.ensures)

pub returns-then-speech : goal.returns-then-speech
unfolding turned_of
returns-then-speech c = simp (c.if-loud.false, c.if-speech.true, c.pause.ensures)

pub returns : goal.returns
unfolding turned_of
returns c = simp (c.if-loud.false, c.if-speech.false) c.close.ensures
