-- What is seen of a run of calls: the answers of detect and flush, the rows that they write, and what is read after each of them.
use Rattle.std.specs.Prelude.{Bool, true, false, cond, List, [], ◌∷◌, ℕ, ◌+◌, eqb, length, Float, None, Ok, is_some}
use Rattle.std.specs.Result.{result_unwrap_or}
use Rattle.refusals.specs.Refusals.{number_in}
use Rattle.vad_segments.specs.Judging.{louds_of}
use Rattle.vad_row.specs.declared.Row.{Row}
use Rattle.vad_state.specs.declared.VadDetector.{VadDetector}
use Rattle.vad_call.specs.Calls.{measured_of, due_of, seeded_of, frames_due, rows_of_call, no_tally, tally_in}
use Rattle.vad_call.specs.declared.Tally.{Tally}
use Rattle.vad_call.specs.Answers.{Detected}
use Rattle.vad_detector.specs.Entries.{detect_of, flush_of}
use Rattle.vad_detector.specs.Readings.{undecided_read, rows_read, talk_read, segment_read}

-- 'detect and flush in any order': a block and the length of the lent rows, or a flush and that length
pub data Turn : Type 0 where
  Detect : List Float → ℕ → Turn
  Flush : ℕ → Turn

unfoldable pub is_flush : Turn → Bool
is_flush (Detect xs room) = false
is_flush (Flush room) = true

-- the sound that is handed in
unfoldable pub block_of : Turn → List Float
block_of (Detect xs room) = xs
block_of (Flush room) = []

-- what the call answers, with the state after it
unfoldable pub answer_of : VadDetector → Turn → Detected
answer_of d (Detect xs room) = detect_of d xs room
answer_of d (Flush room) = flush_of d room

-- which of the frames that an accepted call judges are loud, in their order
unfoldable pub louds_of_call : Bool → VadDetector → List Float → List Bool
louds_of_call finish d xs =
    let received = d.kept.stream.processed_samples + length xs in
    let due = due_of finish d.kept (measured_of finish d xs) in
    louds_of d.kept.rules received (seeded_of d.kept due) (frames_due d.kept received due)

-- ---- one call
pub record Seen : Type 0 where
  -- was it a flush; how many samples were handed in; 0, or the refusal's number
  pub flush : Bool
  pub block : ℕ
  pub number : ℕ
  -- the rows written, and the counts answered
  pub rows : List Row
  pub tally : Tally
  -- what `undecided_from`, `rows_reported` and `talk_samples` answer after the call, and `active_segment_start_sample`: is a segment open; and the refusal numbers of the four
  pub undecided : ℕ
  pub reported : ℕ
  pub talk : ℕ
  pub segment : Bool
  pub readings : List ℕ
  -- from demand 2's definition, whatever the detector shows: which of the call's frames are loud, and its rows
  pub louds : List Bool
  pub due : List Row

-- a refused call writes nothing and judges nothing
unfoldable pub unless_refused : {A : Type 0} → ℕ → List A → List A
unless_refused number xs = cond (eqb number 0) xs []

-- a call, by what it answers; the readings are those of the state after it
unfoldable pub seen_as : Bool → ℕ → Detected → List Row → List Bool → Seen
seen_as flush block a rows louds =
    record {
      flush = flush;
      block = block;
      number = number_in a.outcome;
      rows = unless_refused (number_in a.outcome) rows;
      tally = tally_in a.outcome;
      undecided = result_unwrap_or (undecided_read a.detector) 0;
      reported = result_unwrap_or (rows_read a.detector) 0;
      talk = result_unwrap_or (talk_read a.detector) 0;
      segment = is_some (result_unwrap_or (segment_read a.detector) None);
      readings =
          number_in (undecided_read a.detector)
          ∷ number_in (rows_read a.detector)
          ∷ number_in (talk_read a.detector)
          ∷ number_in (segment_read a.detector)
          ∷ [];
      louds = unless_refused (number_in a.outcome) louds;
      due = unless_refused (number_in a.outcome) rows;
    }

unfoldable pub seen_of : VadDetector → Turn → Seen
seen_of d k = seen_as (is_flush k) (length (block_of k)) (answer_of d k) (rows_of_call (is_flush k) d (block_of k)) (louds_of_call (is_flush k) d (block_of k))

-- ---- a run

unfoldable pub log_of : VadDetector → List Turn → List Seen
log_of d [] = []
log_of d (k ∷ ks) = seen_of d k ∷ log_of (answer_of d k).detector ks

-- an opened detector, as a call that hands in nothing and answers nothing: its undecided position is given too
unfoldable pub seen_opened : VadDetector → Seen
seen_opened d = seen_as false 0 (record { outcome = Ok no_tally; detector = d }) [] []

unfoldable pub run_of : VadDetector → List Turn → List Seen
run_of d ks = seen_opened d ∷ log_of d ks
