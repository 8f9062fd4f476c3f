use mathlib.Core.Path.{◌≡◌, refl, sym, ap, ◌∙◌}
use native.Mathlib.Omega.{arith}
use lib.ListN.{length, get_or}
use lib.Ieee.{nan}
use Rattle.vad_row.specs.Rows.{flat}
use Rattle.vad_segments.specs.Judging.{frames_at, track_after, rows_of}
use Rattle.vad_segments.proofs.Rooms.{roomy_next}
use Rattle.vad_classify.proofs.Calls.{call_width, call_written}
use Rattle.vad_classify.proofs.Turns.{track_step, width_step, sets_step, track_end, flat_end}
use Rattle.vad_classify.proofs.write_rows.Goals.{Start, After-loop-energy}
use Rattle.vad_classify.proofs.write_rows.Goals as goal

-- the frames judged, as the loop leaves them
passed : (e : After-loop-energy) → let s = e.args in e.loop-energy.cursor.track ≡ track_after s.rules s.received s.track (frames_at s.rules.lengths s.received s.first s.energies.now)
passed e = let s = e.args in sym (track_end e.loop-energy.energy-index s.energies.now e.loop-energy-test.false s.rules s.received e.loop-energy.cursor.start e.loop-energy.cursor.track) ∙ e.loop-energy.invariant.2

-- the place after their rows
filled : (e : After-loop-energy) → let s = e.args in e.loop-energy.end ≡ length (flat (rows_of s.rules s.received s.track (frames_at s.rules.lengths s.received s.first s.energies.now)))
filled e =
    let s = e.args in
    let none = ap length (flat_end e.loop-energy.energy-index s.energies.now e.loop-energy-test.false s.rules s.received e.loop-energy.cursor.start e.loop-energy.cursor.track) in
    omega arith

pub put_report-end-requires : goal.put_report-end-requires
put_report-end-requires c =
    let a = c.args in
    let width = call_width a.finish a.rules a.received a.track (frames_at a.rules.lengths a.received a.first a.energies.now) _ refl _ refl in
    let more = width_step c.loop-energy.energy-index a.energies.now c.loop-energy-test.true a.rules a.received c.loop-energy.cursor.start c.loop-energy.cursor.track c.judge_next-judged.result c.judge_next-judged.ensures.judged in
    let room = c.requires.energies_in_bounds in
    omega arith

pub loop-energy-preserved : goal.loop-energy-preserved
loop-energy-preserved c =
    let r = c.args.rules in
    let received = c.args.received in
    let es = c.args.energies.now in
    let i = c.loop-energy.energy-index in
    let start = c.loop-energy.cursor.start in
    let t = c.loop-energy.cursor.track in
    let inside = c.loop-energy-test.true in
    let j = c.judge_next-judged.result in
    let kept = c.judge_next-judged.ensures in
    let e = kept.judged in
    let put = c.put_report-end in
    let past = put.ensures.value in
    let more = width_step i es inside r received start t j e in
    let long : length put.new.rows ≡ length c.loop-energy.rows = put.auto.rows in
    rw (kept.track, kept.start) (
      rw e (roomy_next r received c.requires.received_le_positions_first.0 c.requires.lengths_within.0 i start t (get_or es i nan) (omega arith) c.loop-energy.invariant.0),
      omega arith,
      track_step i es inside r received start t j e ∙ c.loop-energy.invariant.2,
      omega arith,
      sets_step i es inside r received start t j e c.loop-energy.rows put.new.rows c.loop-energy.end put.result past put.ensures.rows_left ∙ c.loop-energy.invariant.4,
    )

pub put_report-requires : goal.put_report-requires
put_report-requires c =
    let a = c.args in
    let at = goal.at.put_report-requires c in
    let last = c.ended-last in
    let width = call_width a.finish a.rules a.received a.track (frames_at a.rules.lengths a.received a.first a.energies.now) c.loop-energy.cursor.track (passed at.After-loop-energy) last.result last.ensures in
    let end = filled at.After-loop-energy in
    let fits = c.requires.energies_in_bounds in
    omega arith

pub returns : goal.returns
returns c =
    let a = c.args in
    let es = a.energies.now in
    let at = goal.at.returns c in
    let l = c.loop-energy in
    let put = c.put_report in
    let none = flat_end l.energy-index es c.loop-energy-test.false a.rules a.received l.cursor.start l.cursor.track in
    call_written a.finish a.rules a.received a.track (frames_at a.rules.lengths a.received a.first es) l.cursor.track (passed at.After-loop-energy) c.ended-last.result c.ended-last.ensures a.rows.now l.rows put.new.rows l.end (filled at.After-loop-energy) (rw none at l.invariant.4) put.ensures.rows_left
