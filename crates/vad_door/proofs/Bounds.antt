-- What the door's answers carry is small, whatever the state: `answer` asks for less than 2^55. Assumes nothing.
use Rattle.vad_segments.specs.declared.ActiveSegmentState.{ActiveSegmentState}
use Rattle.std.specs.Prelude.{None, Option, Some, IfSome, Result, Ok, Err, ⊤}
use mathlib.Core.Path.{◌≡◌, refl, ap}
use mathlib.Core.Bool.{Bool, true, false, not, cond}
use mathlib.Core.List.{List, [], ◌∷◌}
use Prim.Native.Nat.{ℕ, ◌+◌, ◌^◌, ◌≤◌, ◌<◌}
use native.Mathlib.Omega.{arith}
use borrow.Author.Tests.{ltb-true, ltb-false}
use lib.ListN.{length, length-append, length-take}
use lib.Ieee.{Float}
use Rattle.ranges.specs.Ranges.{clean_of}
use Rattle.vad_frames.specs.Emphasis.{coefficient_of, emphasized}
use Rattle.vad_frames.proofs.Laws.{emphasized_length}
use Rattle.vad_row.specs.Rows.{reported}
use Rattle.vad_segments.specs.Judging.{judged_of, track_after, rows_of, ended_of, call_rows}
use Rattle.vad_segments.specs.declared.Rules.{Rules}
use Rattle.vad_segments.specs.declared.FrameMetrics.{FrameMetrics}
use Rattle.vad_segments.specs.declared.Track.{Track}
use Rattle.vad_segments.proofs.Ordered.{frames_length}
use Rattle.vad_row.proofs.Laws.{report_le}
use Rattle.ranges.specs.Sizes.{block_most, received_most}
use Rattle.vad_state.specs.State.{carried_of, sound_of}
use Rattle.vad_state.specs.declared.Kept.{Kept}
use Rattle.vad_state.specs.declared.VadDetector.{VadDetector}
use Rattle.vad_state.proofs.Parts.{ActiveIn, Sound, parts, frame_high}
use Rattle.vad_call.specs.Calls.{values_most, rows_of_call, values_of, measured_of, stream_after, carry_after, holding_of, held_after, due_of, seeded_of, grid_start, frames_due, verdict_of, rows_due, too_many, refused_by, accepted_of, concluded_of, ran_of, energies_most}
use Rattle.vad_call.specs.declared.Tally.{Tally}
use Rattle.vad_call.specs.Answers.{Detected}
use Rattle.vad_call.proofs.Calls.{measured_few}
use Rattle.vad_call.specs.Checks.{block_refusals, check_of}
use Rattle.refusals.specs.Refusals.{number_in, carries_in, refusing, if_passed}
use Rattle.refusals.specs.declared.Refusal.{Refusal}
use Rattle.refusals.specs.declared.Refusal.TheVariants as why
use Rattle.refusals.proofs.First.{decided}
use Rattle.vad_detector.specs.Readings.{open_start}
use Rattle.vad_detector.proofs.Answers.{checked}
use Rattle.vad_lent.specs.Lent.{state_at}
use Rattle.vad_memory.proofs.RoundTrip.{Shaped}
use Rattle.vad_door.specs.DetectorDoor.{start_word}
use Rattle.vad_door.specs.Inside.{WordsSmall, carried_in, uncounted, heard_of}
use Rattle.vad_door.proofs.Carried.{ran_shaped}

-- ---- a call that no check refused: 18 or 0

module _ (finish : Bool) (d : VadDetector) (xs : List Float) (room : ℕ) where
  abbrev accepted : Detected
  accepted =
      let es = measured_of finish d xs in
      accepted_of d (stream_after finish d xs) (carry_after finish d xs) (holding_of finish d.kept es) (held_after finish d.kept es) (verdict_of finish d.kept (d.kept.stream.processed_samples + length xs) (due_of finish d.kept es)) (length (rows_of_call finish d xs))

  ran_ways : (P : Detected → Type 0) → P (refused_by (why.Rows (length (rows_of_call finish d xs))) d) → P accepted → P (ran_of finish d xs room)
  unfolding ran_of concluded_of stream_after rows_of_call
  ran_ways P stuck done = go (too_many (rows_of_call finish d xs) room)
    where
      go : (b : Bool) → P (cond b (refused_by (why.Rows (length (rows_of_call finish d xs))) d) accepted)
      go true = stuck
      go false = done

  -- refused, it answers the state that it was given
  pub ran_given : (number_in (ran_of finish d xs room).outcome ≡ 0 → ⊥) → (ran_of finish d xs room).detector ≡ d
  unfolding refused_by accepted_of
  ran_given = ran_ways (λ p. (number_in p.outcome ≡ 0 → ⊥) → p.detector ≡ d) (λ z. refl) (λ z. absurd (z refl))

  -- and its arrays have their lengths in every case
  pub ran_arrays : Sound d → Shaped d → Shaped (ran_of finish d xs room).detector
  unfolding refused_by accepted_of
  ran_arrays s h = ran_ways (λ p. Shaped p.detector) h (ran_shaped finish d xs s h)

-- ---- 18: a row a frame, and one where flush closes a segment

module _ (r : Rules) (limit : ℕ) where
  rows_few : (fs : List FrameMetrics) (t : Track) → length (rows_of r limit t fs) ≤ length fs
  unfolding rows_of
  rows_few [] t = omega arith
  rows_few (f ∷ fs) t =
      let j = judged_of r limit t f in
      let one = report_le j.report in
      let rest = rows_few fs j.track in
      omega (arith, length-append (reported j.report) (rows_of r limit j.track fs))

  call_rows_few : (finish : Bool) (t : Track) (fs : List FrameMetrics) → length (call_rows finish r limit t fs) ≤ length fs + 1
  unfolding call_rows
  call_rows_few finish t fs =
      let e = ended_of finish r limit (track_after r limit t fs) in
      let one = report_le e.report in
      let rest = rows_few fs t in
      omega (arith, length-append (rows_of r limit t fs) (reported e.report))

module _ (finish : Bool) (d : VadDetector) where
  due_few : (es : List Float) → length (due_of finish d.kept es) ≤ length es
  unfolding due_of
  due_few es = go (holding_of finish d.kept es)
    where
      go : (b : Bool) → length (cond b [] es) ≤ length es
      go true = omega arith
      go false = omega arith

  rows_due_few : (received : ℕ) (due : List Float) → length (rows_due finish d.kept received due) ≤ length due + 1
  unfolding rows_due frames_due
  rows_due_few received due =
      let most = call_rows_few d.kept.rules received finish (seeded_of d.kept due) (frames_due d.kept received due) in
      omega (arith, frames_length d.kept.rules.lengths received (grid_start d.kept) due)

  module _ (s : Sound d) (xs : List Float) (short : length xs ≤ block_most) where
    -- the lists of a definition's detector can have any length, so the carry is bounded by its use
    values_few : length (values_of d xs) ≤ values_most
    unfolding values_of carried_of
    values_few =
        let a = coefficient_of d.kept.rules.config.has_pre_emphasis d.kept.rules.config.pre_emphasis in
        let carried = length-take d.kept.stream.carry_len d.carry in
        let block = emphasized_length a d.kept.stream.pre_emphasis_prev xs in
        let less = s.short in
        let most = frame_high d s in
        omega (arith, length-append (carried_of d) (emphasized a d.kept.stream.pre_emphasis_prev xs))

    measured_small : length (measured_of finish d xs) ≤ energies_most
    unfolding measured_of
    measured_small = measured_few finish d s (values_of d xs) values_few

    pub ran_small : (room : ℕ) → carries_in (ran_of finish d xs room).outcome ≤ 1025
    unfolding refused_by accepted_of rows_of_call
    ran_small room =
        let es = measured_of finish d xs in
        let m = measured_small in
        let n = due_few es in
        let k = rows_due_few (d.kept.stream.processed_samples + length xs) (due_of finish d.kept es) in
        ran_ways finish d xs room (λ p. carries_in p.outcome ≤ 1025) (omega arith) (omega arith)

-- ---- 16: the place of a sample

pub check_small : (d : VadDetector) (xs : List Float) → carries_in (check_of d xs) ≤ block_most
unfolding check_of
check_small d xs =
    decided (λ v. carries_in v ≤ block_most) (refusing why.State (not (sound_of d)) ∷ block_refusals d.kept.stream.processed_samples xs) (
      (λ s. omega arith),
      λ s. (
        (λ l. omega arith),
        λ l. (
          (λ b. let m : length xs ≤ block_most = ltb-false block_most (length xs) l in let n : clean_of xs < length xs = ltb-true (clean_of xs) (length xs) b in omega arith),
          λ b. ((λ f. omega arith), λ f. omega arith),
        ),
      ),
    )

-- ---- so what a call carries fits, whatever was checked

pub heard_small : (finish : Bool) (d : VadDetector) (xs : List Float) (room : ℕ) → carried_in (uncounted (heard_of finish xs room d).outcome) < 2 ^ 55
unfolding heard_of refused_by
heard_small finish d xs room = go (check_of d xs) refl
  where
    carried : (v : Result Tally Refusal) → carries_in v ≤ 1025 → carried_in (uncounted v) < 2 ^ 55
    carried (Ok t) few = omega arith
    carried (Err r) few = omega arith

    go : (v : Result ⊤ Refusal) → check_of d xs ≡ v → carried_in (uncounted (if_passed v (ran_of finish d xs room) (λ r. refused_by r d)).outcome) < 2 ^ 55
    go (Ok x) h = let ok = checked d xs h in carried (ran_of finish d xs room).outcome (ran_small finish d (parts d ok.sound) xs ok.short room)
    go (Err r) h = let few = check_small d xs in let same = ap (λ (v : Result ⊤ Refusal). carries_in v) h in omega arith

-- ---- readings of a sound state

start_in_lem : (hangover received last : ℕ) (a : Option ActiveSegmentState) → ActiveIn hangover received last a → IfSome (open_start a) (λ start. start ≤ received)
unfolding open_start
start_in_lem hangover received last None h = tt
start_in_lem hangover received last (Some s) h = h.start

start_small : (received : ℕ) → received ≤ received_most → (start : Option ℕ) → IfSome start (λ s. s ≤ received) → IfSome start (λ s. s ≤ received_most)
start_small received most None h = tt
start_small received most (Some s) h = omega arith

module _ (k : Kept) (fs : List Float) (h : sound_of (state_at k fs) ≡ true) where
  told : Sound (state_at k fs)
  told = parts (state_at k fs) h

  -- what `word_of` asks
  pub words_small : WordsSmall k
  unfolding state_at
  words_small =
      let most = told.received in
      let joined = told.joined in
      let ended = told.ended in
      let talk = told.talk in
      let start = start_small _ most _ (start_in_lem k.rules.config.hangover_frames k.stream.processed_samples k.desk.track.last_segment_end k.desk.track.active_segment told.active) in
      (omega arith, start, omega (arith, told.rows), omega arith)

-- the word of a start is one more than it
pub start_word_small : (start : Option ℕ) → IfSome start (λ s. s ≤ received_most) → start_word start < 2 ^ 55
start_word_small None h = omega arith
start_word_small (Some s) h = omega arith
