use mathlib.Core.Path.{◌≡◌}
use Prim.Native.Nat.{◌+◌, ◌≤◌}
use Rattle.vad_segments.specs.Judging.{track_after, louds_of, count_of}
use Rattle.vad_segments.proofs.Rooms.{Roomy}
use Rattle.vad_classify.proofs.Turns.{rest_at}
use Rattle.vad_classify.proofs.classify.Given as goal

abbrev pub invariant-loop-energy : goal.invariant-loop-energy
invariant-loop-energy l = Roomy l.energy-index l.cursor.start l.cursor.track × (l.loud ≤ l.energy-index) × (track_after l.fn.rules l.fn.received l.cursor.track (rest_at l.fn.rules l.fn.received l.cursor.start l.energy-index l.energies) ≡ track_after l.fn.rules l.fn.received l.initial.cursor.track (rest_at l.fn.rules l.fn.received l.fn.first 0 l.energies)) × (l.loud + count_of (louds_of l.fn.rules l.fn.received l.cursor.track (rest_at l.fn.rules l.fn.received l.cursor.start l.energy-index l.energies)) ≡ count_of (louds_of l.fn.rules l.fn.received l.initial.cursor.track (rest_at l.fn.rules l.fn.received l.fn.first 0 l.energies)))
