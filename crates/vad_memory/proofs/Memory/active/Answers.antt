use mathlib.Core.Path.{◌≡◌, refl}
use mathlib.Core.Bool.{Bool, true, false, cond}
use Rattle.std.specs.Prelude.{Some, None}
use Rattle.std.specs.Bool.{then_some}
use Rattle.vad_memory.specs.DetectorState.{active_at}
use Rattle.vad_memory.proofs.Memory.active.Goals as goal

chosen : {A : Type 0} (b : Bool) (x : A) → then_some b x ≡ cond b (Some x) None
chosen true x = refl
chosen false x = refl

pub returns : goal.returns
unfolding active_at
returns c = rw (c.then_some.ensures, c.segment.ensures) (chosen _ _)
