-- What the private functions answer: detect and flush as one, a block heard or, with `finish`, the stream's end, behind the same check. An end has no samples, so that only 19 can refuse it there.
-- Nothing here has to be believed: no public contract cites it.
use Rattle.std.specs.Prelude.{◌≡◌, Bool, true, ◌&&◌, cond, List, ℕ, ◌≤◌, Float, Result, Ok, Err, IfSome}
use Rattle.refusals.specs.Answers.{packed}
use Rattle.refusals.specs.Refusals.{number, carries, if_passed}
use Rattle.refusals.specs.declared.Refusal.{Refusal}
use Rattle.refusals.specs.declared.Refusal.TheVariants as why
use Rattle.ranges.specs.Sizes.{received_most}
use Rattle.vad_state.specs.State.{sound_of}
use Rattle.vad_state.specs.declared.Kept.{Kept}
use Rattle.vad_state.specs.declared.VadDetector.{VadDetector}
use Rattle.vad_call.specs.Calls.{refused_by, ran_of, written_of}
use Rattle.vad_call.specs.declared.Tally.{Tally}
use Rattle.vad_call.specs.Answers.{Detected}
use Rattle.vad_call.specs.Checks.{check_of}
use Rattle.vad_detector.specs.Readings.{open_start}
use Rattle.vad_memory.specs.DetectorState.{kept_at, detector_at, readable}

-- ---- an outcome in one word

abbrev pub carried_in : Result ℕ Refusal → ℕ
carried_in (Ok v) = v
carried_in (Err r) = carries r

abbrev pub word_of : Result ℕ Refusal → ℕ
word_of (Ok v) = packed 0 v
word_of (Err r) = packed (number r) (carries r)

-- a call carries nothing but what its refusal does
abbrev pub uncounted : Result Tally Refusal → Result ℕ Refusal
uncounted (Ok t) = Ok 0
uncounted (Err r) = Err r

-- `call_answer` before it is packed
unfoldable pub call_outcome : List ℕ → List Float → (VadDetector → Detected) → Result ℕ Refusal
call_outcome ns fs answer = cond (readable ns fs) (uncounted (answer (detector_at ns fs)).outcome) (Err why.State)

-- ---- a block or an end

unfoldable pub heard_of : Bool → List Float → ℕ → VadDetector → Detected
heard_of finish xs room d = if_passed (check_of d xs) (ran_of finish d xs room) (λ r. refused_by r d)

unfoldable pub heard_rows : Bool → VadDetector → List Float → List ℕ → List ℕ
heard_rows finish d xs out = if_passed (check_of d xs) (written_of finish d xs out) (λ r. out)

unfoldable pub rows_heard : Bool → List ℕ → List Float → List Float → List ℕ → List ℕ
rows_heard finish ns fs xs rows = cond (readable ns fs) (heard_rows finish (detector_at ns fs) xs rows) rows

-- ---- the readings as one: what is carried of a sound state, which stays small

abbrev pub WordsSmall : Kept → Type 0
WordsSmall k =
    (k.stream.carry_start ≤ received_most)
    × IfSome (open_start k.desk.track.active_segment) (λ start. start ≤ received_most)
    × (k.desk.track.rows_reported ≤ received_most)
    × (k.desk.track.talk_samples ≤ received_most)

-- 19 where no sound state can be read, and else a word of its numbers
unfoldable pub ReadBy : (Kept → ℕ → Type 0) → List ℕ → List Float → ℕ → Type 0
ReadBy Word ns fs a =
    (w : ℕ) × ((readable ns fs && sound_of (detector_at ns fs) ≡ true) → Word (kept_at ns fs) w) × (a ≡ cond (readable ns fs && sound_of (detector_at ns fs)) (packed 0 w) 19)
