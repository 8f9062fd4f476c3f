use mathlib.Core.Path.{◌≡◌}
use Prim.Native.Nat.{◌+◌}
use lib.ListN.{length}
use lib.Seq.{sets}
use Rattle.vad_row.specs.Rows.{flat}
use Rattle.vad_segments.specs.Judging.{track_after, rows_of}
use Rattle.vad_segments.proofs.Rooms.{Roomy}
use Rattle.vad_classify.proofs.Turns.{rest_at}
use Rattle.vad_classify.proofs.write_rows.Given as goal

abbrev pub invariant-loop-energy : goal.invariant-loop-energy
invariant-loop-energy l = Roomy l.energy-index l.cursor.start l.cursor.track × (length l.rows ≡ length l.initial.rows) × (track_after l.fn.rules l.fn.received l.cursor.track (rest_at l.fn.rules l.fn.received l.cursor.start l.energy-index l.energies) ≡ track_after l.fn.rules l.fn.received l.initial.cursor.track (rest_at l.fn.rules l.fn.received l.fn.first 0 l.energies)) × (l.end + length (flat (rows_of l.fn.rules l.fn.received l.cursor.track (rest_at l.fn.rules l.fn.received l.cursor.start l.energy-index l.energies))) ≡ length (flat (rows_of l.fn.rules l.fn.received l.initial.cursor.track (rest_at l.fn.rules l.fn.received l.fn.first 0 l.energies)))) × (sets l.rows l.end (flat (rows_of l.fn.rules l.fn.received l.cursor.track (rest_at l.fn.rules l.fn.received l.cursor.start l.energy-index l.energies))) ≡ sets l.initial.rows 0 (flat (rows_of l.fn.rules l.fn.received l.initial.cursor.track (rest_at l.fn.rules l.fn.received l.fn.first 0 l.energies))))
