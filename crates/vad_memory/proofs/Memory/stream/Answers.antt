use mathlib.Core.Path.{refl}
use Rattle.vad_memory.specs.DetectorState.{stream_at}
use Rattle.vad_memory.proofs.Memory.stream.Goals as goal

pub returns : goal.returns
unfolding stream_at
returns c = refl
