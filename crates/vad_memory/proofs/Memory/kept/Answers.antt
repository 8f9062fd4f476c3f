use mathlib.Core.Path.{refl}
use Rattle.vad_memory.specs.DetectorState.{kept_at}
use Rattle.vad_memory.proofs.Memory.kept.Goals as goal

pub returns : goal.returns
unfolding kept_at
returns c = rw (c.rules.ensures, c.stream.ensures, c.desk.ensures) refl
