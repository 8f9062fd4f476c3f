use native.Mathlib.Nat.{max_comm}
use Rattle.vad_segments.specs.Closing.{mean_energy_of}
use Rattle.vad_segments.proofs.closing.mean_energy.Goals as goal

pub returns : goal.returns
unfolding mean_energy_of
returns c = simp (c.nearest.ensures, c.max.ensures, max_comm c.args.segment.loud_frames 1)
