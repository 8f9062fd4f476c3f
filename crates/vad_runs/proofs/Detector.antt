-- Document 01's runs A and B whole, from the opening to the flush, computed from the definitions call by call: a long chain of calls would repeat what its parts share.
use mathlib.Core.Path.{◌≡◌, refl}
use mathlib.Core.Bool.{Bool, true, false}
use mathlib.Core.List.{List, [], ◌∷◌, ◌++◌, map}
use Prim.Native.Nat.{ℕ, suc, ◌+◌, ◌*◌, ◌-◌}
use lib.ListN.{length, take, get_or, replicate}
use lib.Ieee.{Float, binary32, of_bits, of_int, le, lt, add, sub, mul, div, neg, sum, round, to_bits, is_nan}
use Rattle.float.specs.Fused.{fused_of}
use Rattle.float.specs.Root.{root_of, root_from, integer_root, twice_root}
use Rattle.float.specs.Whole.{round_of, ceil_of}
use Rattle.score.specs.Score.{score_of, reaches, largest}
use Rattle.ranges.specs.Ranges.{rate_in, leading_of, all_within, in_domain, clean_of}
use Rattle.std.specs.Prelude.{Some, Ok}
use Rattle.refusals.specs.Refusals.{first_of, number_in}
use Rattle.refusals.specs.declared.Refusal.TheVariants as why
use Rattle.vad_config.specs.Domain.{in_unit, duration_in, start_in, received_in}
use Rattle.vad_config.specs.Lengths.{frame_samples, frame_length_of, hop_length_of, warmup_frames_of, seconds_of, padding_samples_of, time_of, time_of_sample_of}
use Rattle.vad_config.specs.Settings.{frame_of, hop_of, warmup_of, padding_of, lengths_of, framing_refusals, level_refusals, limit_refusals, outcome_of, refusal_of}
use Rattle.vad_frames.specs.Emphasis.{coefficient_of, emphasized_of, emphasized, last_of}
use Rattle.vad_frames.specs.Energy.{square_of, squares_from, mean_square_of, energy_of}
use Rattle.vad_frames.specs.Grid.{taken, frames_from, frames_of, energies_of, consumed_of, framed_of}
use Rattle.vad_segments.specs.Loudness.{ratio_of, required_of, loud_of, in_speech_of, weight_of, at_least, floor_of, lesser_of, least_from, seed_of}
use Rattle.vad_row.specs.Rows.{fields_of, row_width, room_of, reported, flat, talk_of, talk_in}
use Rattle.vad_segments.specs.Setters.{fresh_track, booked_to}
use Rattle.vad_segments.specs.Closing.{mean_energy_of, time_at, row_of, padded_start, padded_end, dropped_of, too_short, timed_of, finalized_of, booked_of, closed_by, closed_of}
use Rattle.vad_segments.specs.Judging.{floored_to, active_to, begun_at, segment_for, extended_by, loud_added, paused_by, paused_of, floor_after, turned_of, judged_of, frame_at, frames_at, track_after, rows_of, louds_of, count_of, ended_of, call_rows, call_track}
use Rattle.vad_segments.specs.Positions.{holds_of}
use Rattle.vad_segments.specs.declared.Rules.{Rules}
use Rattle.vad_segments.specs.declared.Track.{Track}
use Rattle.vad_classify.specs.Classify.{classified_of}
use Rattle.ranges.specs.Sizes.{frame_most, warmup_most}
use Rattle.vad_state.specs.State.{state_of, window_of, carried_of, held_of, weights_in, same_lengths, settings_sound, carry_sound, track_sound, is_closed, held_sound, segment_sound, active_sound, sound_of}
use Rattle.vad_state.specs.Arrays.{filled_of}
use Rattle.vad_detector.specs.Opening.{weights_fit, open_verdict, open_refusal, rules_of, fresh_of, open_of}
use Rattle.vad_call.specs.Calls.{values_of, waiting_of, measured_from, measured_of, consumed_from, carry_after, stream_after, holding_with, holding_of, held_after, due_of, seeded_of, grid_start, frames_due, verdict_of, rows_due, desk_after, joined_of, advanced_of, tally_of, no_tally, refused_by, accepted_of, too_many, concluded_of, reported_in, ran_of, rows_of_call, written_of}
use Rattle.vad_call.specs.Checks.{check_of}
use Rattle.vad_detector.specs.Entries.{detect_of, detect_rows, flush_of, flush_rows}
use Rattle.vad_detector.specs.Readings.{read_of, open_start, segment_read}
use Rattle.vad_state.specs.declared.VadDetector.{VadDetector}
use Rattle.vad_runs.specs.Detector.{config_of, config, window, blocks, block_of, a, b, row_a, row_b}

abbrev pub rules : ℕ → Rules
rules release =
    record {
      config = config release;
      lengths = record { frame_length = 80; hop_length = 80; warmup_frames = 30; padding_samples = 40 };
      speech_floor_rise = of_bits binary32 0x3F00_0000;
    }

-- a state by its rules and window, what is carried and from where on, the last sample, whether frames are held and which, and the track
abbrev pub state_with : Rules → List Float → List Float → ℕ → Float → Bool → List Float → Track → VadDetector
state_with rules window carry start last warming held track =
    state_of
    record {
      rules = rules;
      stream = record { carry_len = length carry; carry_start = start; processed_samples = start + length carry; pre_emphasis_prev = last };
      desk = record { warming = warming; held = length held; track = track };
    }
    (filled_of frame_most window)
    (filled_of frame_most carry)
    (filled_of warmup_most held)

-- the state after k blocks: k frames are held, and nothing is judged
abbrev pub after : ℕ → ℕ → VadDetector
after release k =
    state_with (rules release) window [] (k * 80) (of_bits binary32 (get_or (0 ∷ blocks) k 0)) true (map (of_bits binary32) (take k blocks)) (fresh_track (of_bits binary32 0x3A80_0000))

-- the opening
abbrev pub Begins : ℕ → Type 0
Begins release = open_of (config release) window (of_bits binary32 0x3F00_0000) ≡ record { outcome = Ok tt; detector = after release 0 }

-- block k, with no room for rows: nothing is counted, and its frame is held
abbrev pub Holds : ℕ → ℕ → Type 0
Holds release k =
    detect_of (after release k) (block_of k) 0
    ≡ record {
      outcome = Ok record { frames = 0; loud = 0; quiet = 0; noise_floor = of_bits binary32 0x3A80_0000; rows = 0 };
      detector = after release (suc k);
    }

-- the state after the flush: warm-up is over, the next frame begins at 480, and the floor is back at 1/64
abbrev pub flushed : ℕ → ℕ → ℕ → VadDetector
flushed release ended talk = state_with (rules release) window [] 480 (of_bits binary32 0x3C80_0000) false [] (booked_to ended 1 talk (fresh_track (of_bits binary32 0x3C80_0000)))

-- two numbers more than a row has: they stay
abbrev pub lent : ℕ
lent = row_width + 2

-- 'One row, at flush'
abbrev pub Flushes : ℕ → ℕ → ℕ → ℕ → List ℕ → Type 0
Flushes release ended talk loud row =
    (flush_of (after release 6) lent
    ≡ record {
      outcome = Ok record { frames = 6; loud = loud; quiet = 6 - loud; noise_floor = of_bits binary32 0x3C80_0000; rows = 1 };
      detector = flushed release ended talk;
    })
    × (flush_rows (after release 6) (replicate lent 5) ≡ row ++ 5 ∷ 5 ∷ [])

abbrev pub Run : ℕ → ℕ → ℕ → ℕ → List ℕ → Type 0
Run release ended talk loud row =
    Begins release × Holds release 0 × Holds release 1 × Holds release 2 × Holds release 3 × Holds release 4 × Holds release 5 × Flushes release ended talk loud row

pub run_a : Run a 280 160 1 row_a
unfolding filled_of fresh_track fresh_of rules_of open_of open_refusal open_verdict weights_fit weights_in all_within refusal_of outcome_of first_of framing_refusals level_refusals limit_refusals lengths_of frame_of hop_of warmup_of padding_of frame_samples frame_length_of hop_length_of warmup_frames_of seconds_of padding_samples_of in_unit rate_in duration_in start_in round_of ceil_of of_bits of_int le lt add sub mul div neg sum round is_nan check_of clean_of leading_of detect_of ran_of concluded_of accepted_of joined_of desk_after advanced_of tally_of refused_by no_tally too_many room_of values_of waiting_of measured_from measured_of consumed_from carry_after stream_after holding_with holding_of held_after due_of seeded_of grid_start frames_due verdict_of rows_due holds_of emphasized emphasized_of coefficient_of last_of energies_of energy_of mean_square_of squares_from square_of frames_of frames_from taken framed_of consumed_of fused_of root_of root_from integer_root twice_root floored_to seed_of frames_at call_rows call_track classified_of rows_of track_after louds_of count_of ended_of reported sound_of settings_sound same_lengths carry_sound track_sound held_sound active_sound is_closed in_domain window_of carried_of held_of received_in reported_in written_of rows_of_call flush_of flush_rows least_from lesser_of frame_at judged_of turned_of floor_after paused_of paused_by loud_added extended_by segment_for begun_at active_to closed_of closed_by booked_of finalized_of timed_of too_short dropped_of padded_end padded_start talk_of talk_in flat fields_of row_of time_at mean_energy_of floor_of at_least weight_of in_speech_of loud_of required_of ratio_of score_of reaches largest time_of time_of_sample_of to_bits segment_read read_of open_start segment_sound detect_rows
run_a = (refl, refl, refl, refl, refl, refl, refl, (refl, refl))

pub run_b : Run b 360 240 2 row_b
unfolding filled_of fresh_track fresh_of rules_of open_of open_refusal open_verdict weights_fit weights_in all_within refusal_of outcome_of first_of framing_refusals level_refusals limit_refusals lengths_of frame_of hop_of warmup_of padding_of frame_samples frame_length_of hop_length_of warmup_frames_of seconds_of padding_samples_of in_unit rate_in duration_in start_in round_of ceil_of of_bits of_int le lt add sub mul div neg sum round is_nan check_of clean_of leading_of detect_of ran_of concluded_of accepted_of joined_of desk_after advanced_of tally_of refused_by no_tally too_many room_of values_of waiting_of measured_from measured_of consumed_from carry_after stream_after holding_with holding_of held_after due_of seeded_of grid_start frames_due verdict_of rows_due holds_of emphasized emphasized_of coefficient_of last_of energies_of energy_of mean_square_of squares_from square_of frames_of frames_from taken framed_of consumed_of fused_of root_of root_from integer_root twice_root floored_to seed_of frames_at call_rows call_track classified_of rows_of track_after louds_of count_of ended_of reported sound_of settings_sound same_lengths carry_sound track_sound held_sound active_sound is_closed in_domain window_of carried_of held_of received_in reported_in written_of rows_of_call flush_of flush_rows least_from lesser_of frame_at judged_of turned_of floor_after paused_of paused_by loud_added extended_by segment_for begun_at active_to closed_of closed_by booked_of finalized_of timed_of too_short dropped_of padded_end padded_start talk_of talk_in flat fields_of row_of time_at mean_energy_of floor_of at_least weight_of in_speech_of loud_of required_of ratio_of score_of reaches largest time_of time_of_sample_of to_bits segment_read read_of open_start segment_sound detect_rows
run_b = (refl, refl, refl, refl, refl, refl, refl, (refl, refl))

-- 18: a number less is too few for the row; it carries the one row needed, the state comes back, and nothing is written
abbrev pub NoRoom : Type 0
NoRoom =
    (flush_of (after a 6) (row_width - 1) ≡ refused_by (why.Rows 1) (after a 6)) × (flush_rows (after a 6) (replicate (row_width - 1) 5) ≡ replicate (row_width - 1) 5)

-- ---- the ends of a warm-up

-- 29 frames of energy 1 are held; the block that completes the warm-up brings two more, the last of 1/64
abbrev pub nearly : VadDetector
nearly = state_with (rules a) window [] 2320 (of_bits binary32 0x3F80_0000) true (replicate 29 (of_bits binary32 0x3F80_0000)) (fresh_track (of_bits binary32 0x3A80_0000))

-- 'every extra frame of the completing block included': by the least of all 31 the first frame is loud. The least of the first 30 would be 1, and none would be.
abbrev pub ExtraFrame : Type 0
ExtraFrame =
    ((detect_of nearly (block_of 2 ++ block_of 4) row_width).outcome ≡ Ok record { frames = 31; loud = 1; quiet = 30; noise_floor = of_bits binary32 0x3C80_0000; rows = 1 })
    × (take 2 (detect_rows nearly (block_of 2 ++ block_of 4) (replicate row_width 5)) ≡ 0 ∷ 120 ∷ [])

-- 'A flush with no frame ends warm-up with the floor unchanged.'
abbrev pub FlushOfNothing : Type 0
FlushOfNothing =
    ((flush_of (after a 0) 0).outcome ≡ Ok record { frames = 0; loud = 0; quiet = 0; noise_floor = of_bits binary32 0x3A80_0000; rows = 0 }) × ((flush_of (after a 0) 0).detector.kept.desk.warming ≡ false)

-- 'a later detect starts a new grid there': run A ended at 480 with its flush, and a loud frame after it opens a segment at 480; half a frame is carried
abbrev pub NewGrid : Type 0
NewGrid =
    ((detect_of (flushed a 280 160) (block_of 2 ++ take 40 (block_of 2)) 0).outcome ≡ Ok record { frames = 1; loud = 1; quiet = 0; noise_floor = of_bits binary32 0x3F02_0000; rows = 0 })
    × ((detect_of (flushed a 280 160) (block_of 2 ++ take 40 (block_of 2)) 0).detector.kept.stream.carry_start ≡ 560)
    × (segment_read (detect_of (flushed a 280 160) (block_of 2 ++ take 40 (block_of 2)) 0).detector ≡ Ok (Some 480))

-- ---- document 01's list is not kept by calls: a state that the list calls sound and that no run reaches. One sample was received and carried, and one row was reported with no talk; a flush reports the sample, and then there are two rows of one sample.
abbrev pub unreached : VadDetector
unreached = state_with (rules a) window (of_bits binary32 0x3F80_0000 ∷ []) 0 (of_bits binary32 0x3F80_0000) false [] (booked_to 0 1 0 (fresh_track (of_bits binary32 0x3A80_0000)))

abbrev pub NotKept : Type 0
NotKept = (sound_of unreached ≡ true) × (number_in (flush_of unreached row_width).outcome ≡ 0) × (sound_of (flush_of unreached row_width).detector ≡ false)

-- another such state, in frames of 16 samples and hops of 8: two frames are held, and of the second only half has come. Its end is clipped to the sound received, so a flush reports nothing, and the state stays sound.
abbrev pub half_heard : VadDetector
half_heard =
    state_with
    record {
      config = config_of 0x3F00_0000 2000000 5000000 0x4080_0000 0x4000_0000;
      lengths = record { frame_length = 16; hop_length = 8; warmup_frames = 300; padding_samples = 40 };
      speech_floor_rise = of_bits binary32 0x3F00_0000;
    }
    (replicate 16 (of_bits binary32 0x3F80_0000))
    []
    16
    (of_bits binary32 0x3F80_0000)
    true
    (of_bits binary32 0 ∷ of_bits binary32 0x3F80_0000 ∷ [])
    (booked_to 16 0 0 (fresh_track (of_bits binary32 0x3A80_0000)))

abbrev pub Clipped : Type 0
Clipped =
    (sound_of half_heard ≡ true)
    × (number_in (flush_of half_heard row_width).outcome ≡ 0)
    × ((flush_of half_heard row_width).outcome ≡ Ok record { frames = 2; loud = 1; quiet = 1; noise_floor = of_bits binary32 0x3F00_2000; rows = 0 })
    × (sound_of (flush_of half_heard row_width).detector ≡ true)

pub ends : NoRoom × ExtraFrame × FlushOfNothing × NewGrid × NotKept × Clipped
unfolding filled_of fresh_track fresh_of rules_of open_of open_refusal open_verdict weights_fit weights_in all_within refusal_of outcome_of first_of framing_refusals level_refusals limit_refusals lengths_of frame_of hop_of warmup_of padding_of frame_samples frame_length_of hop_length_of warmup_frames_of seconds_of padding_samples_of in_unit rate_in duration_in start_in round_of ceil_of of_bits of_int le lt add sub mul div neg sum round is_nan check_of clean_of leading_of detect_of ran_of concluded_of accepted_of joined_of desk_after advanced_of tally_of refused_by no_tally too_many room_of values_of waiting_of measured_from measured_of consumed_from carry_after stream_after holding_with holding_of held_after due_of seeded_of grid_start frames_due verdict_of rows_due holds_of emphasized emphasized_of coefficient_of last_of energies_of energy_of mean_square_of squares_from square_of frames_of frames_from taken framed_of consumed_of fused_of root_of root_from integer_root twice_root floored_to seed_of frames_at call_rows call_track classified_of rows_of track_after louds_of count_of ended_of reported sound_of settings_sound same_lengths carry_sound track_sound held_sound active_sound is_closed in_domain window_of carried_of held_of received_in reported_in written_of rows_of_call flush_of flush_rows least_from lesser_of frame_at judged_of turned_of floor_after paused_of paused_by loud_added extended_by segment_for begun_at active_to closed_of closed_by booked_of finalized_of timed_of too_short dropped_of padded_end padded_start talk_of talk_in flat fields_of row_of time_at mean_energy_of floor_of at_least weight_of in_speech_of loud_of required_of ratio_of score_of reaches largest time_of time_of_sample_of to_bits segment_read read_of open_start segment_sound detect_rows
ends = ((refl, refl), (refl, refl), (refl, refl), (refl, refl, refl), (refl, refl, refl), (refl, refl, refl, refl))
