use mathlib.Core.Path.{refl}
use Rattle.vad_memory.specs.DetectorState.{lengths_at}
use Rattle.vad_memory.proofs.Memory.lengths.Goals as goal

pub returns : goal.returns
unfolding lengths_at
returns c = refl
