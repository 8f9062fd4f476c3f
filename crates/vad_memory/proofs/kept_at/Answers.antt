use Rattle.vad_memory.proofs.Parts.{parts}
use Rattle.vad_memory.proofs.kept_at.Goals as goal

pub invariant_of-kept : goal.invariant_of-kept
invariant_of-kept c = let r = parts c.args.numbers.now c.args.floats.now c.requires in record { numbers_fit = r.long.numbers; floats_fit = r.long.floats; rate_fits = r.rate }
