use mathlib.Core.Path.{◌≡◌}
use native.Mathlib.Omega.{arith}
use Prim.Native.Nat.{◌≤◌}
use lib.ListN.{length}
use Rattle.vad_segments.specs.Rooms.{Within, positions_first, counts_first}
use Rattle.vad_call.specs.Calls.{rows_due}
use Rattle.vad_call.proofs.Calls.{seeded_within, grid_low, rows_none, rows_fit, rows_put}
use Rattle.vad_call.proofs.report.Goals as goal

pub returns-then-needed-eq0 : goal.returns-then-needed-eq0
returns-then-needed-eq0 c =
    let due = rows_due c.args.finish c.args.kept c.args.received c.args.due.now in
    let none : 0 ≡ length due = omega (arith, c.if-needed-eq0.true, c.requires.needed_value.0) in
    rows_none due c.args.rows.now none

pub write_rows-requires : goal.write_rows-requires
write_rows-requires c =
    let d = c.args.kept in
    let seed = c.seeded in
    let grid = c.grid_start in
    let room : Within positions_first counts_first seed.result = rw seed.ensures (seeded_within d c.args.due.now c.requires.lengths_within.1) in
    let first : grid.result ≤ positions_first = rw grid.ensures (grid_low d c.requires.carry_start_bound.0) in record { lengths_within = (c.requires.lengths_within.0, room); received_le_positions_first = (c.requires.carry_start_bound.1, first, omega (arith, c.requires.carry_start_bound.2)); energies_in_bounds = rows_fit c.args.finish d c.args.received c.args.due.now seed.result seed.ensures grid.result grid.ensures c.args.needed c.requires.needed_value.0 _ c.requires.needed_value.1 }

pub returns : goal.returns
returns c =
    let seed = c.seeded in
    let grid = c.grid_start in
    let written = c.write_rows in
    rows_put c.args.finish c.args.kept c.args.received c.args.due.now seed.result seed.ensures grid.result grid.ensures c.args.rows.now written.new.rows written.ensures
