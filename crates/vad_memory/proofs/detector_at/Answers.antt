use mathlib.Core.Path.{refl}
use Rattle.vad_memory.specs.DetectorState.{detector_at}
use Rattle.vad_memory.proofs.Parts.{parts}
use Rattle.vad_memory.proofs.detector_at.Goals as goal

pub invariant_of-memory : goal.invariant_of-memory
invariant_of-memory c = let r = parts c.args.numbers.now c.args.floats.now c.requires in record { numbers_fit = r.long.numbers; floats_fit = r.long.floats; rate_fits = r.rate }

pub returns : goal.returns
unfolding detector_at
returns c = rw (c.kept.ensures, c.part.ensures, c.part-2.ensures, c.part-3.ensures) refl
