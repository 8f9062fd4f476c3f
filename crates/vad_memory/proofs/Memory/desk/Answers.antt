use mathlib.Core.Path.{refl}
use Rattle.vad_memory.specs.DetectorState.{desk_at}
use Rattle.vad_memory.proofs.Memory.desk.Goals as goal

pub returns : goal.returns
unfolding desk_at
returns c = rw c.track.ensures refl
