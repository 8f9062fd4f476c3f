-- Cases computed from the definitions. Document 01's runs A and B, through all that a call does, are computed in vad_runs.
use mathlib.Core.Path.{◌≡◌, refl}
use mathlib.Core.Bool.{true, false}
use mathlib.Core.List.{List, [], ◌∷◌, map}
use Prim.Native.Nat.{ℕ}
use lib.Ieee.{binary32, of_bits, le, lt, add, sub, mul, div, neg, sum, round}
use Rattle.float.specs.Fused.{fused_of}
use Rattle.float.specs.Numbers.{zero32}
use Rattle.score.specs.Score.{score_of, reaches, largest}
use Rattle.vad_segments.specs.Loudness.{ratio_of, required_of, loud_of, in_speech_of, weight_of, at_least, floor_of}
use Rattle.vad_config.specs.Config.{settings_of}
use Rattle.vad_row.specs.Rows.{reported, talk_of, talk_in}
use Rattle.vad_segments.specs.Setters.{fresh_track, booked_to}
use Rattle.vad_segments.specs.Closing.{padded_start, padded_end, dropped_of, too_short, timed_of, finalized_of, booked_of, closed_by, closed_of}
use Rattle.vad_segments.specs.Judging.{floored_to, active_to, begun_at, segment_for, extended_by, loud_added, paused_by, paused_of, floor_after, turned_of, judged_of, frame_at, frames_at, track_after, rows_of, louds_of, count_of, ended_of, call_rows, call_track}
use Rattle.vad_segments.specs.Positions.{next_of, decided_to, undecided_of}
use Rattle.vad_segments.specs.declared.Rules.{Rules}
use Rattle.vad_segments.specs.declared.FrameMetrics.{FrameMetrics}
use Rattle.vad_segments.specs.declared.Track.{Track}

abbrev pub floor_at : ℕ → Track
floor_at bits = fresh_track (of_bits binary32 bits)

-- ---- no frame ends past the sound: two held frames of 16 samples, 8 apart, the second with only half of its sound received, as no run leaves them. It is loud, ends at 16 where the last segment ended, and is dropped
abbrev pub half_heard : Rules
half_heard =
    record {
      config = settings_of 8000 2000000 (of_bits binary32 0x3F00_0000) false zero32 (of_bits binary32 0x4080_0000) (of_bits binary32 0x4000_0000) zero32 zero32 (of_bits binary32 0x3A80_0000) 1 5000000 1 0;
      lengths = record { frame_length = 16; hop_length = 8; warmup_frames = 300; padding_samples = 40 };
      speech_floor_rise = of_bits binary32 0x3F00_0000;
    }

abbrev pub half_track : Track
half_track = booked_to 16 0 0 (floor_at 0x3A80_0000)

abbrev pub half_frames : List FrameMetrics
half_frames = frames_at half_heard.lengths 16 0 (map (of_bits binary32) (0 ∷ 0x3F80_0000 ∷ []))

pub half_heard_lem : (count_of (louds_of half_heard 16 half_track half_frames) ≡ 1) × (call_rows true half_heard 16 half_track half_frames ≡ []) × ((call_track true half_heard 16 half_track half_frames).last_segment_end ≡ 16)
unfolding fresh_track frames_at frame_at call_rows call_track rows_of track_after louds_of count_of ended_of judged_of turned_of floor_after paused_of paused_by loud_added extended_by segment_for begun_at active_to floored_to closed_of closed_by booked_of finalized_of timed_of too_short dropped_of padded_end padded_start talk_of talk_in reported floor_of at_least weight_of in_speech_of loud_of required_of ratio_of score_of reaches largest fused_of of_bits le lt add sub mul div neg sum round
half_heard_lem = (refl, refl, refl)

-- ---- the undecided position after run A: its last segment ended at 280, nothing is open, and frames were judged up to 480
pub undecided_closed : undecided_of false 40 480 (booked_to 280 1 160 (floor_at 0x3C80_0000)) ≡ 440
unfolding fresh_track undecided_of decided_to next_of
undecided_closed = refl

-- had it been the last sound, it would be decided to its end
pub undecided_ended : undecided_of false 40 300 (booked_to 280 1 160 (floor_at 0x3C80_0000)) ≡ 280
unfolding fresh_track undecided_of decided_to next_of
undecided_ended = refl

-- held frames: nothing is decided
pub undecided_held : undecided_of true 40 480 (floor_at 0x3C80_0000) ≡ 0
unfolding fresh_track undecided_of
undecided_held = refl
