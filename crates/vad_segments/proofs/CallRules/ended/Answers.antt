use mathlib.Core.Path.{◌≡◌}
use mathlib.Core.Bool.{true, false}
use Rattle.vad_segments.specs.Judging.{ended_of}
use Rattle.vad_segments.proofs.CallRules.ended.Goals as goal

pub returns-then-finish : goal.returns-then-finish
unfolding ended_of
returns-then-finish c = let flush : c.args.finish ≡ true = c.if-finish.true in simp flush c.close.ensures

pub returns : goal.returns
unfolding ended_of
returns c = let on : c.args.finish ≡ false = c.if-finish.false in simp on
