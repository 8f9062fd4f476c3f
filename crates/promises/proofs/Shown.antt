-- Our detector shows in the run of proofs/Example what is written there: computed from the definitions, call by call from literal states. Assumes nothing.
use Rattle.vad_segments.specs.declared.ActiveSegmentState.{ActiveSegmentState}
use Rattle.std.specs.Prelude.{None, Option, Some}
use mathlib.Core.Path.{◌≡◌, refl, ap, ◌∙◌}
use mathlib.Core.Bool.{Bool, true, false, cond}
use mathlib.Core.List.{List, [], ◌∷◌}
use Prim.Native.Nat.{ℕ, ◌+◌, ◌*◌}
use lib.Ieee.{binary32, of_bits, of_int, fits, le, add, sub, mul, div, round, to_bits, is_nan}
use Rattle.float.specs.Fused.{fused_of}
use Rattle.float.specs.Root.{root_of, twice_root}
use Rattle.float.specs.Whole.{round_of, ceil_of}
use Rattle.score.specs.Score.{score_of, reaches, largest}
use Rattle.ranges.specs.Ranges.{rate_in, leading_of, all_within, in_domain, clean_of}
use Rattle.std.specs.Prelude.{Ok}
use Rattle.refusals.specs.Refusals.{first_of, number_in}
use Rattle.vad_detector.specs.Answers.{Opened}
use Rattle.vad_config.specs.Domain.{in_unit, duration_in, start_in, received_in}
use Rattle.vad_config.specs.Lengths.{frame_samples, frame_length_of, hop_length_of, warmup_frames_of, seconds_of, padding_samples_of, time_of, time_of_sample_of}
use Rattle.vad_config.specs.Settings.{frame_of, hop_of, warmup_of, padding_of, lengths_of, framing_refusals, level_refusals, limit_refusals, refusal_of, outcome_of}
use Rattle.vad_frames.specs.Emphasis.{coefficient_of, emphasized_of, emphasized, last_of}
use Rattle.vad_frames.specs.Energy.{square_of, squares_from, mean_square_of, energy_of}
use Rattle.vad_frames.specs.Grid.{taken, frames_from, frames_of, energies_of, consumed_of, framed_of}
use Rattle.vad_segments.specs.Loudness.{ratio_of, required_of, loud_of, in_speech_of, weight_of, at_least, floor_of, seed_of}
use Rattle.vad_row.specs.Rows.{room_of, reported, talk_of, talk_in}
use Rattle.vad_segments.specs.Setters.{fresh_track, framed_to, booked_to}
use Rattle.vad_segments.specs.Closing.{mean_energy_of, time_at, row_of, padded_start, padded_end, too_short, timed_of, finalized_of, booked_of, closed_by, closed_of}
use Rattle.vad_segments.specs.Judging.{floored_to, active_to, begun_at, segment_for, extended_by, loud_added, paused_by, paused_of, floor_after, turned_of, judged_of, frame_at, frames_at, track_after, rows_of, louds_of, count_of, ended_of, call_rows, call_track}
use Rattle.vad_segments.specs.Positions.{holds_of, next_of, decided_to, undecided_of}
use Rattle.vad_segments.specs.declared.Track.{Track}
use Rattle.vad_classify.specs.Classify.{classified_of}
use Rattle.vad_state.specs.State.{window_of, carried_of, held_of, weights_in, same_lengths, settings_sound, carry_sound, track_sound, is_closed, held_sound, segment_sound, active_sound, sound_of}
use Rattle.vad_state.specs.Arrays.{filled_of}
use Rattle.vad_state.specs.declared.VadDetector.{VadDetector}
use Rattle.vad_call.specs.Calls.{values_of, waiting_of, measured_from, measured_of, consumed_from, carry_after, stream_after, holding_with, holding_of, held_after, due_of, seeded_of, grid_start, frames_due, verdict_of, rows_due, desk_after, joined_of, advanced_of, tally_of, no_tally, refused_by, accepted_of, too_many, concluded_of, ran_of, rows_of_call}
use Rattle.vad_detector.specs.Opening.{weights_fit, open_refusal, rules_of, fresh_of, open_of, Handed, open_verdict}
use Rattle.vad_call.specs.Checks.{check_of}
use Rattle.vad_detector.specs.Entries.{detect_of, flush_of}
use Rattle.vad_detector.specs.Readings.{read_of, undecided_in, undecided_read, rows_read, talk_read, open_start, segment_read}
use Rattle.vad_runs.proofs.Detector.{state_with}
use Rattle.promises.specs.Log.{Seen, Turn, is_flush, block_of, answer_of, louds_of_call, unless_refused, seen_as, seen_of, log_of, seen_opened, run_of}
use Rattle.promises.proofs.Example.{settings, window, rise, calls, run, floor_at, first, later, shown}

-- ---- the states

-- nothing is carried or held between calls, since a block is a frame and the first flush ends the warm-up
abbrev between : ℕ → ℕ → Bool → Track → VadDetector
between received last warming track =
    state_with
    record {
      config = settings;
      lengths = record { frame_length = 8; hop_length = 8; warmup_frames = 300; padding_samples = 4 };
      speech_floor_rise = rise;
    }
    window
    []
    received
    (of_bits binary32 last)
    warming
    []
    track

-- after so many blocks, warmed up, the last of them loud or not, a last segment end, so many rows, so much talk, and what is open
abbrev after : ℕ → Bool → ℕ → ℕ → ℕ → Option ActiveSegmentState → VadDetector
after blocks loud ended rows talk active =
    between (blocks * 8) (cond loud 0x3F80_0000 0x3A80_0000) false
    (framed_to (floor_at loud) active (booked_to ended rows talk (fresh_track (floor_at loud))))

-- an open segment of one loud frame, and the pause in it
abbrev open_at : ℕ → ℕ → Option ActiveSegmentState
open_at start silence =
    Some record { start_sample = start; last_end_sample = start + 8; score_total = 1024; energy_sum = of_bits binary32 0x3F80_0000; loud_frames = 1; silence_run = silence }

abbrev opened : VadDetector
opened = between 0 0 true (fresh_track (floor_at false))

-- ---- call by call

-- from a state on, some calls show this: each leads to a state n
data Shows : VadDetector → List Turn → List Seen → Type 0 where
  done : {d : VadDetector} → Shows d [] []
  call : {d : VadDetector} {k : Turn} {ks : List Turn} {s : Seen} {ss : List Seen} (n : VadDetector) → (answer_of d k).detector ≡ n → seen_of d k ≡ s → Shows n ks ss → Shows d (k ∷ ks) (s ∷ ss)

log_of_lem : {d : VadDetector} {ks : List Turn} {ss : List Seen} → Shows d ks ss → log_of d ks ≡ ss
unfolding log_of
log_of_lem done = refl
log_of_lem (call {ks = ks} n next saw rest) = λ i. saw i ∷ (ap (λ e. log_of e ks) next ∙ log_of_lem rest) i

-- the opening, and each call; the fifth is refused and leaves the state as it was
computed : (open_of settings window rise ≡ record { outcome = Ok tt; detector = opened }) × (seen_opened opened ≡ first) × Shows opened calls later
unfolding filled_of fresh_track fresh_of rules_of open_of open_refusal open_verdict weights_fit weights_in all_within refusal_of outcome_of first_of framing_refusals level_refusals limit_refusals lengths_of frame_of hop_of warmup_of padding_of frame_samples frame_length_of hop_length_of warmup_frames_of seconds_of padding_samples_of in_unit rate_in duration_in start_in round_of ceil_of of_bits of_int le add sub mul div round is_nan check_of clean_of leading_of detect_of ran_of concluded_of accepted_of joined_of desk_after advanced_of tally_of refused_by no_tally too_many room_of values_of waiting_of measured_from measured_of consumed_from carry_after stream_after holding_with holding_of held_after due_of seeded_of grid_start frames_due verdict_of rows_due holds_of emphasized emphasized_of coefficient_of last_of energies_of energy_of mean_square_of squares_from square_of frames_of frames_from taken framed_of consumed_of fused_of root_of twice_root floored_to seed_of frames_at call_rows call_track classified_of rows_of track_after louds_of count_of ended_of reported sound_of settings_sound same_lengths carry_sound track_sound held_sound active_sound is_closed in_domain window_of carried_of held_of received_in rows_of_call flush_of frame_at judged_of turned_of floor_after paused_of paused_by loud_added extended_by segment_for begun_at active_to closed_of closed_by booked_of finalized_of timed_of too_short padded_end padded_start talk_of talk_in row_of time_at mean_energy_of floor_of at_least weight_of in_speech_of loud_of required_of ratio_of score_of reaches largest time_of time_of_sample_of to_bits segment_read open_start segment_sound seen_of seen_as seen_opened answer_of block_of is_flush louds_of_call unless_refused undecided_read rows_read talk_read read_of undecided_in undecided_of decided_to next_of
computed = (
  refl,
  refl,
  call (between 0 0 false (fresh_track (floor_at false))) refl refl
      (call (after 1 false 0 0 0 None) refl refl
      (call (after 2 true 0 0 0 (open_at 8 0)) refl refl
      (call (after 3 false 0 0 0 (open_at 8 1)) refl refl
      (call (after 3 false 0 0 0 (open_at 8 1)) refl refl
      (call (after 4 false 20 1 16 None) refl refl
      (call (after 5 true 20 1 16 (open_at 32 0)) refl refl
      (call (after 5 true 40 2 28 None) refl refl
      done))))))),
)

-- the run is one of those that demand 3 speaks of: its opening is accepted, ..
pub opening_accepted : open_refusal settings window rise ≡ 0
unfolding open_refusal open_of
opening_accepted = ap (λ (o : Opened). number_in o.outcome) computed.0

-- .. and its numbers are f32
pub handed : Handed settings rise
unfolding of_bits fits
handed = record { floor_fits = tt; smoothing_fits = tt; rise_fits = tt }

-- what our detector shows in it
pub run_is : run ≡ shown
unfolding run_of
run_is = ap (λ o. run_of o.detector calls) computed.0 ∙ (λ i. computed.1 i ∷ log_of_lem computed.2 i)
