-- How a call of a run ends, and what is then seen of it: one record for every call, a refused one and the opening among them. Assumes nothing.
use mathlib.Core.Path.{◌≡◌, refl, sym, ◌∙◌, subst}
use mathlib.Core.Bool.{Bool, true, false, not, ◌&&◌, cond}
use mathlib.Core.List.{List, [], map, reverse_aux}
use Prim.Native.Nat.{ℕ, ◌+◌, ◌^◌, ◌≤◌}
use native.Mathlib.Nat.{le_refl}
use native.Mathlib.Omega.{arith}
use lib.Dec.{eqb}
use lib.ListN.{length}
use lib.Ieee.{Float}
use Rattle.lists.specs.Every.{Every}
use Rattle.lists.proofs.Every.{every_all}
use Rattle.float.proofs.Bounds.{Mag}
use Rattle.vad_row.specs.Rows.{talk_of}
use Rattle.vad_segments.specs.Judging.{count_of}
use Rattle.vad_classify.specs.Classify.{classified_of}
use Rattle.vad_segments.specs.Positions.{undecided_of}
use Rattle.vad_segments.specs.declared.FrameMetrics.{FrameMetrics}
use Rattle.vad_row.specs.declared.Row.{Row}
use Rattle.vad_row.proofs.Laws.{Between, RowsFrom, between_wider}
use Rattle.lists.proofs.Tests.{either}
use Rattle.vad_segments.proofs.Ordered.{call_in_order, call_rows_counted, call_talk_counted}
use Rattle.vad_segments.proofs.Counts.{Recent, recent_call, louds_length}
use Rattle.vad_segments.proofs.Undecided.{undecided_rows, undecided_mono}
use Rattle.vad_state.specs.declared.VadDetector.{VadDetector}
use Rattle.vad_call.specs.Calls.{measured_of, carry_after, stream_after, holding_with, holding_of, held_after, due_of, seeded_of, frames_due, verdict_of, rows_due, rows_of_call, desk_after, joined_of, advanced_of, tally_of, no_tally, refused_by, accepted_of, too_many, concluded_of, ran_of}
use Rattle.vad_call.specs.Answers.{Detected}
use Rattle.vad_call.specs.Checks.{check_of}
use Rattle.vad_detector.specs.Entries.{detect_of, flush_of}
use Rattle.std.specs.Prelude.{Result, Ok, Err, ⊤, is_some}
use Rattle.refusals.specs.Refusals.{number, number_in, if_passed}
use Rattle.refusals.specs.declared.Refusal.{Refusal}
use Rattle.refusals.specs.declared.Refusal.TheVariants as why
use Rattle.refusals.proofs.First.{number_tells}
use Rattle.vad_detector.specs.Readings.{read_of, undecided_in, undecided_read, rows_read, talk_read, open_start, segment_read}
use Rattle.vad_detector.specs.Run.{number_of, Detect as Detects}
use Rattle.vad_detector.proofs.Running.{Running, running_accepted, frames_lie, frames_from_lem, grid_carry, seeded_keeps, seeded_ordered, holding_says, ran_to, ran_running}
use Rattle.vad_detector.proofs.Runs.{running_sound, check_clean, sound_taken}
use Rattle.promises.specs.Log.{Turn, Detect, Flush, is_flush, block_of, answer_of, louds_of_call, Seen, unless_refused, seen_as, seen_of, seen_opened}

-- ---- what is shown of a state

-- the readings
pub record Shown (d : VadDetector) (s : Seen) : Type 0 where
  pub undecided : s.undecided ≡ undecided_in d
  pub reported : s.reported ≡ d.kept.desk.track.rows_reported
  pub talk : s.talk ≡ d.kept.desk.track.talk_samples
  pub segment : s.segment ≡ is_some (open_start d.kept.desk.track.active_segment)
  pub readings : Every (λ n. n ≡ 0) s.readings

-- a state of a run is sound, so it is read
shown : (flush : Bool) (block : ℕ) (a : Detected) (rows : List Row) (louds : List Bool) → Running a.detector → Shown a.detector (seen_as flush block a rows louds)
unfolding seen_as undecided_read rows_read talk_read segment_read read_of
shown flush block a rows louds r =
    let h = running_sound a.detector r in
    record { undecided = rw h; reported = rw h; talk = rw h; segment = rw h; readings = rw h (refl, (refl, (refl, (refl, tt)))) }

-- ---- what a call does to a state d, and leaves as e
pub record Moves (d e : VadDetector) (s : Seen) : Type 0 where
  pub running : Running e
  pub rules : e.kept.rules ≡ d.kept.rules
  pub shown : Shown e s
  pub sound : e.kept.stream.processed_samples ≡ d.kept.stream.processed_samples + cond (eqb s.number 0) s.block 0
  pub in_order : Between d.kept.desk.track.last_segment_end s.rows e.kept.desk.track.last_segment_end
  pub rows_from : RowsFrom (undecided_in d) s.rows
  pub onward : undecided_in d ≤ undecided_in e
  pub warming : e.kept.desk.warming ≡ true → (d.kept.desk.warming ≡ true) × ((s.flush && eqb s.number 0) ≡ false)
  pub recent : (flags : List Bool) → Recent flags d.kept.desk.track.active_segment → Recent (reverse_aux s.louds flags) e.kept.desk.track.active_segment
  pub frames : s.tally.frames ≡ length s.louds
  pub loud : s.tally.loud ≡ count_of s.louds
  pub quiet : s.tally.quiet ≡ count_of (map not s.louds)
  pub rows : s.tally.rows ≡ length s.rows
  pub all_rows : e.kept.desk.track.rows_reported ≡ d.kept.desk.track.rows_reported + length s.rows
  pub all_talk : e.kept.desk.track.talk_samples ≡ d.kept.desk.track.talk_samples + talk_of s.rows
  pub written : s.rows ≡ s.due
  pub never_19 : s.number ≡ 19 → ⊥

-- ---- a call that changes nothing

-- it writes no row, judges no frame, and takes no sound
idle : (d : VadDetector) (s : Seen) → Running d → Shown d s → s.rows ≡ [] → s.due ≡ [] → s.louds ≡ [] → s.tally ≡ no_tally → cond (eqb s.number 0) s.block 0 ≡ 0
    → (s.flush && eqb s.number 0) ≡ false → (s.number ≡ 19 → ⊥) → Moves d d s
unfolding no_tally count_of talk_of
idle d s r h rows due louds tally sound flush number = record {
  running = r;
  rules = refl;
  shown = h;
  sound = omega arith;
  in_order = rw rows (tt, le_refl d.kept.desk.track.last_segment_end);
  rows_from = rw rows tt;
  onward = le_refl (undecided_in d);
  warming = λ w. (w, flush);
  recent = λ flags k. rw louds k;
  frames = rw (tally, louds);
  loud = rw (tally, louds);
  quiet = rw (tally, louds);
  rows = rw (tally, rows);
  all_rows = rw rows (omega arith);
  all_talk = rw rows (omega arith);
  written = rows ∙ sym due;
  never_19 = number;
}

-- the opening
pub opened_moves : (d : VadDetector) → Running d → Moves d d (seen_opened d)
unfolding seen_opened seen_as unless_refused
opened_moves d r =
    idle d (seen_opened d) r (shown false 0 (record { outcome = Ok no_tally; detector = d }) [] [] r) refl refl refl refl refl refl (λ e. absurd (omega arith))

-- a refused call
refused_moves : (d : VadDetector) (flush : Bool) (block : ℕ) (by : Refusal) (rows : List Row) (louds : List Bool) → Running d → (number by ≡ 19 → ⊥) → Moves d d (seen_as flush block (refused_by by d) rows louds)
unfolding seen_as refused_by unless_refused
refused_moves d flush block by rows louds r known =
    let a = refused_by by d in
    let e = number_tells {A = ⊤} (Err by) in
    idle d (seen_as flush block a rows louds) r (shown flush block a rows louds r) (rw e) (rw e) (rw e) refl (rw e) (rw e (never flush)) known
  where
    never : (b : Bool) → (b && false) ≡ false
    never true = refl
    never false = refl

-- 'Undecided position: 0 while warming.'
position_zero : (d : VadDetector) → d.kept.desk.warming ≡ true → undecided_in d ≡ 0
unfolding undecided_in undecided_of
position_zero d on = rw on

-- ---- a call that is not refused

-- what it answers
abbrev done_of : Bool → VadDetector → List Float → Detected
done_of finish d xs =
    let es = measured_of finish d xs in
    accepted_of d (stream_after finish d xs) (carry_after finish d xs) (holding_of finish d.kept es) (held_after finish d.kept es) (verdict_of finish d.kept (d.kept.stream.processed_samples + length xs) (due_of finish d.kept es)) (length (rows_of_call finish d xs))

module _ (finish : Bool) (d : VadDetector) (xs : List Float) (r : Running d) (h : Every (λ x. Mag x 65536 1) xs) (room : d.kept.stream.processed_samples + length xs ≤ 2 ^ 40) where
  abbrev limit : ℕ
  limit = d.kept.stream.processed_samples + length xs

  abbrev due : List Float
  due = due_of finish d.kept (measured_of finish d xs)

  abbrev frames : List FrameMetrics
  frames = frames_due d.kept limit due

  done_order : Between d.kept.desk.track.last_segment_end (rows_of_call finish d xs) (ran_to finish d xs).kept.desk.track.last_segment_end
  unfolding rows_of_call rows_due joined_of desk_after advanced_of verdict_of classified_of
  done_order =
      between_wider _ _ _ _ (rows_of_call finish d xs) (omega (arith, (seeded_keeps d due).0)) (le_refl (ran_to finish d xs).kept.desk.track.last_segment_end)
      (call_in_order d.kept.rules limit (running_accepted d r) room finish (seeded_of d.kept due) frames (seeded_ordered d xs due r) (frames_lie finish d xs r))

  -- once warm-up has ended nothing is seeded or held, and frames begin at the carry
  module _ (off : d.kept.desk.warming ≡ false) where
    position_is : undecided_in d ≡ undecided_of false d.kept.rules.lengths.padding_samples d.kept.stream.carry_start (seeded_of d.kept due)
    unfolding undecided_in seeded_of
    position_is = rw off

    position_after : undecided_in (ran_to finish d xs) ≡ undecided_of false d.kept.rules.lengths.padding_samples (ran_to finish d xs).kept.stream.carry_start (ran_to finish d xs).kept.desk.track
    unfolding undecided_in joined_of desk_after advanced_of holding_of holding_with
    position_after = rw off

    starts_on : Every (λ f. d.kept.stream.carry_start ≤ f.start_sample) frames
    starts_on = subst (λ (n : ℕ). Every (λ f. n ≤ f.start_sample) frames) (grid_carry d off) (frames_from_lem d limit due)

    off_rows : RowsFrom (undecided_in d) (rows_of_call finish d xs)
    unfolding rows_of_call rows_due
    off_rows = rw position_is (undecided_rows finish d.kept.rules limit frames (seeded_of d.kept due) d.kept.stream.carry_start (running_accepted d r) room (seeded_ordered d xs due r) (frames_lie finish d xs r) starts_on)

    off_onward : undecided_in d ≤ undecided_in (ran_to finish d xs)
    unfolding joined_of desk_after advanced_of verdict_of classified_of stream_after
    off_onward =
        rw (position_is, position_after)
        (undecided_mono finish d.kept.rules limit frames (seeded_of d.kept due) d.kept.stream.carry_start (running_accepted d r) room (seeded_ordered d xs due r) (frames_lie finish d xs r) starts_on (ran_to finish d xs).kept.stream.carry_start (omega arith))

  -- while warming the position is 0
  done_position : RowsFrom (undecided_in d) (rows_of_call finish d xs) × (undecided_in d ≤ undecided_in (ran_to finish d xs))
  done_position = go d.kept.desk.warming refl
    where
      go : (b : Bool) → d.kept.desk.warming ≡ b → RowsFrom (undecided_in d) (rows_of_call finish d xs) × (undecided_in d ≤ undecided_in (ran_to finish d xs))
      go true on = let z = position_zero d on in (every_all _ (λ c. omega arith) (rows_of_call finish d xs), omega arith)
      go false off = (off_rows off, off_onward off)

  done_moves : Moves d (ran_to finish d xs) (seen_as finish (length xs) (done_of finish d xs) (rows_of_call finish d xs) (louds_of_call finish d xs))
  unfolding seen_as unless_refused accepted_of tally_of joined_of desk_after advanced_of stream_after verdict_of classified_of rows_of_call rows_due louds_of_call
  done_moves =
      let t = seeded_of d.kept due in
      let kept = seeded_keeps d due in
      let on = ran_running finish d xs r h room in
      record {
        running = on;
        rules = refl;
        shown = shown finish (length xs) (done_of finish d xs) (rows_of_call finish d xs) (louds_of_call finish d xs) on;
        sound = refl;
        in_order = done_order;
        rows_from = done_position.0;
        onward = done_position.1;
        warming = λ e. let says = holding_says finish d (measured_of finish d xs) e in (says.0, rw says.1);
        recent = λ flags k. recent_call finish d.kept.rules limit t frames flags (subst (Recent flags) (sym kept.3) k);
        frames = sym (louds_length d.kept.rules limit frames t);
        loud = refl;
        quiet = refl;
        rows = refl;
        all_rows = omega (arith, call_rows_counted d.kept.rules limit t frames finish, kept.1);
        all_talk = omega (arith, call_talk_counted d.kept.rules limit t frames finish, kept.2);
        written = refl;
        never_19 = λ e. absurd (omega arith);
      }

-- ---- every call
abbrev Answers : Bool → VadDetector → List Float → Detected → Type 0
Answers finish d xs a = Moves d a.detector (seen_as finish (length xs) a (rows_of_call finish d xs) (louds_of_call finish d xs))

-- refused by 18, or not
ran_moves : (finish : Bool) (d : VadDetector) (xs : List Float) (room : ℕ) → Running d → Every (λ x. Mag x 65536 1) xs → d.kept.stream.processed_samples + length xs ≤ 2 ^ 40 → Answers finish d xs (ran_of finish d xs room)
unfolding ran_of concluded_of stream_after rows_of_call refused_by accepted_of
ran_moves finish d xs room r h most =
    let rows = rows_of_call finish d xs in
    either (Answers finish d xs) (too_many rows room) (refused_by (why.Rows (length rows)) d) (done_of finish d xs)
    (refused_moves d finish (length xs) (why.Rows (length rows)) rows (louds_of_call finish d xs) r (λ e. absurd (omega arith)))
    (done_moves finish d xs r h most)

detect_moves : (d : VadDetector) (xs : List Float) (room : ℕ) → Running d → Answers false d xs (detect_of d xs room)
unfolding detect_of refused_by
detect_moves d xs room r = go (check_of d xs) refl (unfold number_of detect_of in sound_taken d (Detects xs room) (running_sound d r))
  where
    then : Result ⊤ Refusal → Detected
    then v = if_passed v (ran_of false d xs room) (λ by. refused_by by d)

    go : (v : Result ⊤ Refusal) → check_of d xs ≡ v → (number_in (then v).outcome ≡ 19 → ⊥) → Answers false d xs (then v)
    go (Ok x) e known = let c = check_clean d xs e in ran_moves false d xs room r c.samples c.room
    go (Err by) e known = refused_moves d false (length xs) by (rows_of_call false d xs) (louds_of_call false d xs) r known

-- a call of a run, refused or not
pub turn_moves : (d : VadDetector) (k : Turn) → Running d → Moves d (answer_of d k).detector (seen_of d k)
unfolding answer_of seen_of is_flush block_of flush_of
turn_moves d (Detect xs room) r = detect_moves d xs room r
turn_moves d (Flush room) r = rw (running_sound d r) (ran_moves true d [] room r tt (omega (arith, r.received)))
