use mathlib.Core.Path.{◌≡◌, sym, ◌∙◌}
use native.Mathlib.Omega.{arith}
use lib.ListN.{length, get_or}
use lib.Ieee.{nan}
use Rattle.vad_segments.specs.Judging.{frames_at, track_after, louds_of, count_of}
use Rattle.vad_segments.proofs.Rooms.{roomy_within, roomy_next, track_within}
use Rattle.vad_segments.proofs.Ordered.{frames_length}
use Rattle.vad_segments.proofs.Counts.{loud_most}
use Rattle.vad_classify.proofs.Calls.{classified_is}
use Rattle.vad_classify.proofs.Turns.{flag_is, track_step, loud_step, track_end, louds_end}
use Rattle.vad_classify.proofs.classify.Goals.{After-loop-energy}
use Rattle.vad_classify.proofs.classify.Goals as goal

-- the frames judged, as the loop leaves them
passed : (e : After-loop-energy) → let s = e.args in e.loop-energy.cursor.track ≡ track_after s.rules s.received s.track (frames_at s.rules.lengths s.received s.first s.energies.now)
passed e = let s = e.args in sym (track_end e.loop-energy.energy-index s.energies.now e.loop-energy-test.false s.rules s.received e.loop-energy.cursor.start e.loop-energy.cursor.track) ∙ e.loop-energy.invariant.2

counted : (e : After-loop-energy) → let s = e.args in e.loop-energy.loud ≡ count_of (louds_of s.rules s.received s.track (frames_at s.rules.lengths s.received s.first s.energies.now))
counted e =
    let s = e.args in
    let none = louds_end e.loop-energy.energy-index s.energies.now e.loop-energy-test.false s.rules s.received e.loop-energy.cursor.start e.loop-energy.cursor.track in
    omega arith

pub judge_next-judged-requires : goal.judge_next-judged-requires
judge_next-judged-requires c = (roomy_within c.loop-energy.energy-index c.loop-energy.cursor.start c.loop-energy.cursor.track (omega arith) c.loop-energy.invariant.0, omega arith)

pub loop-energy-preserved : goal.loop-energy-preserved
loop-energy-preserved c =
    let r = c.args.rules in
    let received = c.args.received in
    let es = c.args.energies.now in
    let i = c.loop-energy.energy-index in
    let start = c.loop-energy.cursor.start in
    let t = c.loop-energy.cursor.track in
    let inside = c.loop-energy-test.true in
    let j = c.judge_next-judged in
    let e = j.ensures.judged in
    let count = c.from-loud.ensures in
    let one = flag_is j.result.loud in
    let loud = loud_step i es inside r received start t j.result e in
    rw (j.ensures.track, j.ensures.start) (
      rw e (roomy_next r received c.requires.received_le_positions_first.0 c.requires.lengths_within.0 i start t (get_or es i nan) (omega arith) c.loop-energy.invariant.0),
      omega arith,
      track_step i es inside r received start t j.result e ∙ c.loop-energy.invariant.2,
      omega arith,
    )

pub ended-end-requires : goal.ended-end-requires
ended-end-requires c =
    let room = track_within c.args.rules c.args.received c.requires.received_le_positions_first.0 c.requires.lengths_within.0 c.args.energies.now 0 c.args.first c.args.track (omega arith) (omega arith, c.requires.lengths_within.1) in
    rw (passed (goal.at.ended-end-requires c).After-loop-energy) room

pub overflow_sub-result : goal.overflow_sub-result
overflow_sub-result c =
    let s = c.args in
    let loud = counted (goal.at.overflow_sub-result c).After-loop-energy in
    let most = loud_most s.rules s.received s.track (frames_at s.rules.lengths s.received s.first s.energies.now) in
    let all = frames_length s.rules.lengths s.received s.first s.energies.now in
    omega arith

pub returns : goal.returns
returns c =
    let s = c.args in
    let end = c.ended-end in
    let es = s.energies.now in
    classified_is s.finish s.rules s.received s.track (frames_at s.rules.lengths s.received s.first es) c.loop-energy.cursor.track (passed (goal.at.returns c).After-loop-energy) end.result end.ensures
    (length es) c.loop-energy.loud (sym (frames_length s.rules.lengths s.received s.first es)) (counted (goal.at.returns c).After-loop-energy)
