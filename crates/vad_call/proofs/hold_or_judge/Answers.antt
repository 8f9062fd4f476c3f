use mathlib.Core.Path.{◌≡◌, refl}
use Prim.Native.Nat.{◌+◌, ◌-◌, ◌/◌, ◌≤◌, ◌<◌}
use native.Mathlib.Omega.{arith}
use lib.ListN.{length}
use Rattle.vad_row.specs.Rows.{row_width, room_of}
use Rattle.vad_segments.specs.Rooms.{Within, positions_first, counts_first}
use Rattle.vad_call.specs.Calls.{rows_due, verdict_of, energies_most}
use Rattle.vad_call.proofs.Calls.{seeded_within, grid_low, verdict_is, rows_more, due_few, needed_due, judged_needed, judged_verdict, judged_refused, judged_fits, reported_refused, reported_accepted}
use Rattle.vad_call.proofs.hold_or_judge.Goals.{After-classify-classified, After-due_of-due, Else-rows-needed}
use Rattle.vad_call.proofs.hold_or_judge.Goals as goal

-- the frames that are due, judged
verdict : (v : After-classify-classified) → let u = v in let s = v.args in v.classify-classified.result ≡ verdict_of s.finish s.kept s.received v.due_of-due.result.now
verdict v =
    let u = v in
    let s = v.args in
    let seed = v.seeded in
    let grid = v.grid_start in
    verdict_is s.finish s.kept s.received v.due_of-due.result.now seed.result seed.ensures grid.result grid.ensures v.classify-classified.result v.classify-classified.ensures

due-within : (u : After-due_of-due) → length u.due_of-due.result.now ≤ energies_most
due-within u =
    let s = u in
    let h = u.holding-holds in
    let few = due_few u.args.finish u.args.kept u.args.energies.now h.result h.ensures u.due_of-due.result.now u.due_of-due.ensures in
    let most = u.requires.carry_start_bound.2 in
    omega arith

-- past the test the rows fit
rows_fit : (k : Else-rows-needed) → k.classify-classified.result.track.rows_reported - k.args.kept.desk.track.rows_reported ≤ length k.args.rows.now / row_width
rows_fit k = omega arith

pub classify-classified-requires : goal.classify-classified-requires
classify-classified-requires c =
    let k = c.args.kept in
    let due = c.due_of-due.result.now in
    let room : Within positions_first counts_first c.seeded.result = rw c.seeded.ensures (seeded_within k due c.requires.lengths_within.1) in
    let first : c.grid_start.result ≤ positions_first = rw c.grid_start.ensures (grid_low k c.requires.carry_start_bound.0) in
    record { lengths_within = (c.requires.lengths_within.0, room); received_le_positions_first = (c.requires.carry_start_bound.1, first, omega (arith, due-within (goal.at.classify-classified-requires c).After-due_of-due)) }

pub overflow_sub-needed : goal.overflow_sub-needed
overflow_sub-needed c =
    let d = c.args.kept in
    let more : c.classify-classified.result.track.rows_reported ≡ c.args.kept.desk.track.rows_reported + length (rows_due c.args.finish d c.args.received c.due_of-due.result.now) =
    rows_more c.args.finish d c.args.received c.due_of-due.result.now c.classify-classified.result (verdict (goal.at.overflow_sub-needed c).After-classify-classified) in
    omega arith

pub returns-then-rows-needed : goal.returns-then-rows-needed
unfolding room_of
returns-then-rows-needed c =
    let d = c.args.kept in
    let es = c.args.energies.now in
    let out = c.args.rows.now in
    let holds = c.holding-holds in
    let due = c.due_of-due in
    let n = c.classify-classified.result.track.rows_reported - c.args.kept.desk.track.rows_reported in
    let over : length out / row_width < n = omega arith in
    record { refused_value = (judged_refused c.args.finish d es holds.result holds.ensures due.result.now due.ensures c.args.received c.classify-classified.result (verdict (goal.at.returns-then-rows-needed c).After-classify-classified) n refl (length out) over, holds.ensures); needed_value = (judged_needed c.args.finish d es holds.result holds.ensures due.result.now due.ensures c.args.received c.classify-classified.result (verdict (goal.at.returns-then-rows-needed c).After-classify-classified) n refl, judged_verdict c.args.finish d es holds.result holds.ensures due.result.now due.ensures c.args.received c.classify-classified.result (verdict (goal.at.returns-then-rows-needed c).After-classify-classified) n refl); rows_left = reported_refused c.args.finish d es holds.result holds.ensures due.result.now due.ensures c.args.received c.classify-classified.result (verdict (goal.at.returns-then-rows-needed c).After-classify-classified) n refl out over }

pub report-requires : goal.report-requires
unfolding room_of
report-requires c =
    let d = c.args.kept in
    let n = c.classify-classified.result.track.rows_reported - c.args.kept.desk.track.rows_reported in
    let room = rows_fit (goal.at.report-requires c).Else-rows-needed in
    let needed = needed_due c.args.finish d c.args.received c.due_of-due.result.now c.classify-classified.result (verdict (goal.at.report-requires c).After-classify-classified) n refl in
    record { lengths_within = c.requires.lengths_within; carry_start_bound = (c.requires.carry_start_bound.0, c.requires.carry_start_bound.1, due-within (goal.at.report-requires c).After-due_of-due); needed_value = (needed, room) }

pub returns : goal.returns
unfolding room_of
returns c =
    let d = c.args.kept in
    let es = c.args.energies.now in
    let out = c.args.rows.now in
    let holds = c.holding-holds in
    let due = c.due_of-due in
    let n = c.classify-classified.result.track.rows_reported - c.args.kept.desk.track.rows_reported in
    let room = rows_fit (goal.at.returns c).Else-rows-needed in
    let report = c.report in
    record { refused_value = (judged_fits c.args.finish d es holds.result holds.ensures due.result.now due.ensures c.args.received c.classify-classified.result (verdict (goal.at.returns c).After-classify-classified) n refl (length out) room, holds.ensures); needed_value = (judged_needed c.args.finish d es holds.result holds.ensures due.result.now due.ensures c.args.received c.classify-classified.result (verdict (goal.at.returns c).After-classify-classified) n refl, judged_verdict c.args.finish d es holds.result holds.ensures due.result.now due.ensures c.args.received c.classify-classified.result (verdict (goal.at.returns c).After-classify-classified) n refl); rows_left = reported_accepted c.args.finish d es holds.result holds.ensures due.result.now due.ensures c.args.received c.classify-classified.result (verdict (goal.at.returns c).After-classify-classified) n refl out room report.new.rows report.ensures }
