use Rattle.vad_segments.specs.declared.ActiveSegmentState.{ActiveSegmentState}
use Rattle.std.specs.Prelude.{Option, IfSome}
use mathlib.Core.Path.{sym, ap, subst, ◌∙◌}
use Prim.Native.Nat.{◌≤◌}
use native.Mathlib.Omega.{arith}
use Rattle.ranges.specs.Sizes.{received_most}
use Rattle.vad_detector.specs.Readings.{open_start}
use Rattle.vad_door.specs.DetectorDoor.{start_word}
use Rattle.vad_door.proofs.start_word.Goals as goal

pub overflow_add-result : goal.overflow_add-result
unfolding open_start
overflow_add-result c =
    let small : c.in-Some.segment.start_sample ≤ received_most = subst (λ (a : Option ActiveSegmentState). IfSome (open_start a) (λ s. s ≤ received_most)) c.in-Some.is c.requires in
    omega arith

pub returns-in-None : goal.returns-in-None
unfolding open_start
returns-in-None c = sym (ap (λ (a : Option ActiveSegmentState). start_word (open_start a)) c.in-None.is)

pub returns-in-Some : goal.returns-in-Some
unfolding open_start
returns-in-Some c = omega arith ∙ sym (ap (λ (a : Option ActiveSegmentState). start_word (open_start a)) c.in-Some.is)
