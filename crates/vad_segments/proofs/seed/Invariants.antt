use mathlib.Core.Path.{◌≡◌}
use lib.ListN.{drop}
use Rattle.vad_segments.specs.Loudness.{least_from}
use Rattle.vad_segments.proofs.seed.Given as goal

abbrev pub invariant-loop-energy : goal.invariant-loop-energy
invariant-loop-energy l = least_from l.quietest (drop l.energy-index l.rest) ≡ least_from l.first l.rest
