use mathlib.Core.Path.{refl}
use Rattle.vad_memory.specs.DetectorState.{rules_at}
use Rattle.vad_memory.proofs.Memory.rules.Goals as goal

pub returns : goal.returns
unfolding rules_at
returns c = rw (c.config.ensures, c.lengths.ensures) refl
