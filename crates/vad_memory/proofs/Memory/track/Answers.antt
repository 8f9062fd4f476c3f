use mathlib.Core.Path.{refl}
use Rattle.vad_memory.specs.DetectorState.{track_at}
use Rattle.vad_memory.proofs.Memory.track.Goals as goal

pub returns : goal.returns
unfolding track_at
returns c = rw c.active.ensures refl
