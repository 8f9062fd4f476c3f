use mathlib.Core.Path.{refl}
use Rattle.vad_memory.specs.DetectorState.{config_at}
use Rattle.vad_memory.proofs.Memory.config.Goals as goal

pub returns : goal.returns
unfolding config_at
returns c = refl
