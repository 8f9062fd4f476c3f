-- What the detector's entry points answer through the door, and what they leave in the memory lent to them. Each is the core's answer on the state that the memory holds.
use Rattle.std.specs.Prelude.{◌&&◌, cond, List, [], ◌∷◌, ℕ, suc, eqb, Float, Option, Some, None, Result}
use Rattle.std.specs.Float.{binary32}
use Rattle.std.specs.Float.Ieee.{to_bits}
use Rattle.std.specs.Result.{result_map_both, result_unwrap_or}
use Rattle.refusals.specs.Answers.{packed}
use Rattle.refusals.specs.Refusals.{number_in, carries_in}
use Rattle.refusals.specs.declared.Refusal.{Refusal}
use Rattle.vad_config.specs.declared.VadConfig.{VadConfig}
use Rattle.vad_call.specs.Calls.{no_tally, tally_in}
use Rattle.vad_state.specs.declared.VadDetector.{VadDetector}
use Rattle.vad_call.specs.Answers.{Detected}
use Rattle.vad_detector.specs.Opening.{open_refusal, open_of}
use Rattle.vad_detector.specs.Entries.{detect_rows, flush_rows}
use Rattle.vad_detector.specs.Run.{Call, answered}
use Rattle.vad_detector.specs.Readings.{floor_read, segment_read}
use Rattle.vad_memory.specs.DetectorState.{detector_at, long_enough, readable, numbers_written, floats_written}

-- ---- opening

module _ (c : VadConfig) (window : List Float) (rise : Float) (ns : List ℕ) (fs : List Float) where
  -- memory that no state fits into is refused as malformed, and stays
  unfoldable pub open_answer : ℕ
  open_answer = cond (long_enough ns fs) (open_refusal c window rise) 19

  -- a refused opening leaves the all-zero state
  unfoldable pub open_numbers : List ℕ
  open_numbers = cond (long_enough ns fs) (numbers_written (open_of c window rise).detector.kept no_tally ns) ns

  unfoldable pub open_floats : List Float
  open_floats = cond (long_enough ns fs) (floats_written (open_of c window rise).detector fs) fs

-- ---- detect, flush and reset

-- an answer on the state that the memory holds: a refusal, the unreadable state's 19 included, leaves the memory as it is
module _ (ns : List ℕ) (fs : List Float) (answer : VadDetector → Detected) where
  unfoldable pub call_answer : ℕ
  call_answer =
      let v = (answer (detector_at ns fs)).outcome in
      cond (readable ns fs) (packed (number_in v) (carries_in v)) 19

  unfoldable pub call_numbers : List ℕ
  call_numbers =
      let p = answer (detector_at ns fs) in
      cond (readable ns fs && eqb (number_in p.outcome) 0) (numbers_written p.detector.kept (tally_in p.outcome) ns) ns

  unfoldable pub call_floats : List Float
  call_floats =
      let p = answer (detector_at ns fs) in
      cond (readable ns fs && eqb (number_in p.outcome) 0) (floats_written p.detector fs) fs

unfoldable pub detected_rows : List ℕ → List Float → List Float → List ℕ → List ℕ
detected_rows ns fs xs rows = cond (readable ns fs) (detect_rows (detector_at ns fs) xs rows) rows

unfoldable pub flushed_rows : List ℕ → List Float → List ℕ → List ℕ
flushed_rows ns fs rows = cond (readable ns fs) (flush_rows (detector_at ns fs) rows) rows

-- ---- a run

-- the memory after calls
unfoldable pub numbers_after : List ℕ → List Float → List Call → List ℕ
numbers_after ns fs [] = ns
numbers_after ns fs (k ∷ ks) = numbers_after (call_numbers ns fs (answered k)) (call_floats ns fs (answered k)) ks

unfoldable pub floats_after : List ℕ → List Float → List Call → List Float
floats_after ns fs [] = fs
floats_after ns fs (k ∷ ks) = floats_after (call_numbers ns fs (answered k)) (call_floats ns fs (answered k)) ks

-- ---- readings

-- a position or a count
unfoldable pub read_answer : List ℕ → List Float → (VadDetector → Result ℕ Refusal) → ℕ
read_answer ns fs read =
    let r = read (detector_at ns fs) in
    cond (readable ns fs) (packed (number_in r) (result_unwrap_or r 0)) 19

-- the floor, by its bits
abbrev pub floor_word : VadDetector → Result ℕ Refusal
floor_word d = result_map_both (to_bits binary32) (λ r. r) (floor_read d)

-- the open segment, by one more than its start; 0 where none is open
abbrev pub start_word : Option ℕ → ℕ
start_word (Some start) = suc start
start_word None = 0

abbrev pub segment_word : VadDetector → Result ℕ Refusal
segment_word d = result_map_both start_word (λ r. r) (segment_read d)
