use mathlib.Core.Path.{refl}
use Rattle.vad_memory.specs.DetectorState.{segment_at}
use Rattle.vad_memory.proofs.Memory.segment.Goals as goal

pub returns : goal.returns
unfolding segment_at
returns c = refl
