-- What is read from a state: 'readings of any malformed state, are refused by 19'.
use Rattle.std.specs.Prelude.{cond, ℕ, Float, Option, Some, None, Result, Ok, Err}
use Rattle.refusals.specs.declared.Refusal.{Refusal}
use Rattle.refusals.specs.declared.Refusal.TheVariants as why
use Rattle.vad_segments.specs.Positions.{undecided_of}
use Rattle.vad_segments.specs.declared.ActiveSegmentState.{ActiveSegmentState}
use Rattle.vad_state.specs.State.{sound_of}
use Rattle.vad_state.specs.declared.VadDetector.{VadDetector}

-- a position or a count, the floor, or the open segment
unfoldable pub read_of : {A : Type 0} → VadDetector → A → Result A Refusal
read_of d value = cond (sound_of d) (Ok value) (Err why.State)

-- 'Undecided position'
unfoldable pub undecided_in : VadDetector → ℕ
undecided_in d = undecided_of d.kept.desk.warming d.kept.rules.lengths.padding_samples d.kept.stream.carry_start d.kept.desk.track

unfoldable pub undecided_read : VadDetector → Result ℕ Refusal
undecided_read d = read_of d (undecided_in d)

-- where the carry starts: the first sample that no complete frame has covered
unfoldable pub analyzed_read : VadDetector → Result ℕ Refusal
analyzed_read d = read_of d d.kept.stream.carry_start

unfoldable pub rows_read : VadDetector → Result ℕ Refusal
rows_read d = read_of d d.kept.desk.track.rows_reported

unfoldable pub talk_read : VadDetector → Result ℕ Refusal
talk_read d = read_of d d.kept.desk.track.talk_samples

unfoldable pub floor_read : VadDetector → Result Float Refusal
floor_read d = read_of d d.kept.desk.track.noise_floor

-- the open segment's start, where one is open
unfoldable pub open_start : Option ActiveSegmentState → Option ℕ
open_start None = None
open_start (Some s) = Some s.start_sample

unfoldable pub segment_read : VadDetector → Result (Option ℕ) Refusal
segment_read d = read_of d (open_start d.kept.desk.track.active_segment)
