-- What the original answered in one small run, computed from the definitions call by call. `rows_of_segments` in the oracle's tests runs the original and holds `energies`, `calls`, `answers` and `positions` to it; the scores alone are the port's own.
use Rattle.vad_segments.specs.declared.ActiveSegmentState.{ActiveSegmentState}
use Rattle.std.specs.Prelude.{None, Option, Some}
use mathlib.Core.Path.{◌≡◌, refl}
use mathlib.Core.Bool.{false, cond}
use mathlib.Core.List.{List, [], ◌∷◌, ◌++◌, map}
use Prim.Native.Nat.{ℕ, suc}
use lib.Dec.{eqb}
use lib.ListN.{length, take, drop, get_or}
use lib.Ieee.{binary32, of_bits, of_int, le, lt, add, sub, mul, div, neg, sum, round, to_bits}
use Rattle.float.specs.Fused.{fused_of}
use Rattle.score.specs.Score.{score_of, reaches, largest}
use Rattle.ranges.specs.Ranges.{rate_in}
use Rattle.vad_config.specs.Domain.{start_in, received_in}
use Rattle.vad_config.specs.Lengths.{time_of, time_of_sample_of}
use Rattle.vad_segments.specs.Loudness.{ratio_of, required_of, loud_of, in_speech_of, weight_of, at_least, floor_of}
use Rattle.vad_row.specs.Rows.{fields_of, reported, flat, talk_of, talk_in}
use Rattle.vad_segments.specs.Setters.{fresh_track, framed_to, booked_to}
use Rattle.vad_segments.specs.Closing.{mean_energy_of, time_at, row_of, padded_start, padded_end, dropped_of, too_short, timed_of, finalized_of, booked_of, closed_by, closed_of}
use Rattle.vad_segments.specs.Judging.{floored_to, active_to, begun_at, segment_for, extended_by, loud_added, paused_by, paused_of, floor_after, turned_of, judged_of, frame_at, frames_at, track_after, rows_of, louds_of, count_of, ended_of, call_rows, call_track}
use Rattle.vad_segments.specs.Positions.{next_of, decided_to, undecided_of}
use Rattle.vad_segments.specs.declared.Rules.{Rules}
use Rattle.vad_segments.specs.declared.Track.{Track}
use Rattle.vad_classify.specs.Classify.{classified_of}

-- 8 kHz, frames of 2 ms, overlap 0.5, activation 3, release 2, gate 0.004, smoothing 0.5, floor 2^-7, hangover 1, minimum 3, padding 3 ms
abbrev pub rules : Rules
rules =
    record {
      config = record {
        sample_rate = 8000;
        frame_duration = 2000000;
        frame_overlap = of_bits binary32 0x3F00_0000;
        has_pre_emphasis = false;
        pre_emphasis = of_bits binary32 0;
        activation_ratio = of_bits binary32 0x4040_0000;
        release_ratio = of_bits binary32 0x4000_0000;
        min_speech_energy = of_bits binary32 0x3B83_126F;
        noise_smoothing = of_bits binary32 0x3F00_0000;
        energy_floor = of_bits binary32 0x3C00_0000;
        hangover_frames = 1;
        speech_padding = 3000000;
        min_speech_frames = 3;
        stream_start_time = 0;
      };
      lengths = record { frame_length = 16; hop_length = 8; warmup_frames = 300; padding_samples = 24 };
      speech_floor_rise = of_bits binary32 0x3F7F_F2E5;
    }

-- the energy of each frame
unfoldable pub energies : List ℕ
energies = 0x3B3F_38D1 ∷ 0x3D8C_3EE3 ∷ 0x3E0A_020C ∷ 0x3E1B_8C5C ∷ 0x3DBC_0EB9 ∷ 0x3B62_BEF2 ∷ 0x3B55_A1FF ∷ 0x3DC7_E90F ∷ 0x3E23_F57C ∷ 0x3E1D_DFF0 ∷ 0x3B43_BDE3 ∷ 0x3B58_1C37 ∷ 0x3BB7_F36A ∷ 0x3E83_0EFF ∷ 0x3E62_DE71 ∷ 0x3B44_1872 ∷ 0x3B79_E15D ∷ 0x3B5F_E7E0 ∷ 0x3C39_B22A ∷ 0x3CC0_DF4B ∷ 0x3D09_EC78 ∷ 0x3D08_8A7A ∷ 0x3CC7_9B0B ∷ 0x3C29_CDEE ∷ 0x3B43_918E ∷ 0x3B62_B781 ∷ 0x3B73_B71B ∷ 0x3D19_27C2 ∷ 0x3DB0_CDC8 ∷ 0x3DC0_290C ∷ 0x3D5A_3CD4 ∷ 0x3B77_8DA1 ∷ 0x3DBD_7990 ∷ 0x3DAB_EE06 ∷ 0x3E40_8B50 ∷ 0x3DE9_BCFA ∷ 0x3BA8_CA2B ∷ 0x3BF6_1B50 ∷ 0x3B7D_AEB5 ∷ 0x3C0E_A57F ∷ 0x3D05_97E7 ∷ 0x3D23_C254 ∷ 0x3D64_1F9C ∷ 0x3DBD_DCDC ∷ 0x3B15_FBE8 ∷ []

-- each call: the sound received, where its frames begin, how many frames came before, how many it has, and 1 for a flush
unfoldable pub calls : List (List ℕ)
calls =
    (3 ∷ 0 ∷ 0 ∷ 0 ∷ 0 ∷ [])
    ∷ (24 ∷ 0 ∷ 0 ∷ 2 ∷ 0 ∷ [])
    ∷ (48 ∷ 16 ∷ 2 ∷ 3 ∷ 0 ∷ [])
    ∷ (64 ∷ 40 ∷ 5 ∷ 2 ∷ 0 ∷ [])
    ∷ (72 ∷ 56 ∷ 7 ∷ 1 ∷ 0 ∷ [])
    ∷ (80 ∷ 64 ∷ 8 ∷ 1 ∷ 0 ∷ [])
    ∷ (88 ∷ 72 ∷ 9 ∷ 1 ∷ 0 ∷ [])
    ∷ (88 ∷ 80 ∷ 10 ∷ 0 ∷ 0 ∷ [])
    ∷ (119 ∷ 80 ∷ 10 ∷ 3 ∷ 0 ∷ [])
    ∷ (136 ∷ 104 ∷ 13 ∷ 3 ∷ 0 ∷ [])
    ∷ (152 ∷ 128 ∷ 16 ∷ 2 ∷ 0 ∷ [])
    ∷ (184 ∷ 144 ∷ 18 ∷ 4 ∷ 0 ∷ [])
    ∷ (216 ∷ 176 ∷ 22 ∷ 4 ∷ 0 ∷ [])
    ∷ (236 ∷ 208 ∷ 26 ∷ 2 ∷ 0 ∷ [])
    ∷ (262 ∷ 224 ∷ 28 ∷ 3 ∷ 0 ∷ [])
    ∷ (286 ∷ 248 ∷ 31 ∷ 3 ∷ 0 ∷ [])
    ∷ (286 ∷ 272 ∷ 34 ∷ 2 ∷ 1 ∷ [])
    ∷ (320 ∷ 286 ∷ 36 ∷ 3 ∷ 0 ∷ [])
    ∷ (336 ∷ 310 ∷ 39 ∷ 2 ∷ 0 ∷ [])
    ∷ (352 ∷ 326 ∷ 41 ∷ 2 ∷ 0 ∷ [])
    ∷ (352 ∷ 342 ∷ 43 ∷ 2 ∷ 1 ∷ [])
    ∷ []

-- each call's answer: the floor's bits, the loud frames, how many rows, and the rows
unfoldable pub answers : List (List ℕ)
answers =
    (1006632960 ∷ 0 ∷ 0 ∷ [])
    ∷ (1006645986 ∷ 1 ∷ 0 ∷ [])
    ∷ (1006722200 ∷ 3 ∷ 0 ∷ [])
    ∷ (1006632960 ∷ 0 ∷ 1 ∷ 0 ∷ 64 ∷ 0 ∷ 8000000 ∷ 4037 ∷ 4 ∷ 1038408347 ∷ [])
    ∷ (1006652242 ∷ 1 ∷ 0 ∷ [])
    ∷ (1006684941 ∷ 1 ∷ 0 ∷ [])
    ∷ (1006716357 ∷ 1 ∷ 0 ∷ [])
    ∷ (1006716357 ∷ 0 ∷ 0 ∷ [])
    ∷ (1006632960 ∷ 0 ∷ 1 ∷ 64 ∷ 112 ∷ 8000000 ∷ 14000000 ∷ 3072 ∷ 3 ∷ 1041012903 ∷ [])
    ∷ (1006632960 ∷ 2 ∷ 0 ∷ [])
    ∷ (1006632960 ∷ 0 ∷ 0 ∷ [])
    ∷ (1022323249 ∷ 0 ∷ 0 ∷ [])
    ∷ (1006632960 ∷ 0 ∷ 0 ∷ [])
    ∷ (1006639311 ∷ 1 ∷ 0 ∷ [])
    ∷ (1006684389 ∷ 3 ∷ 0 ∷ [])
    ∷ (1006667493 ∷ 2 ∷ 0 ∷ [])
    ∷ (1006728997 ∷ 2 ∷ 1 ∷ 192 ∷ 286 ∷ 24000000 ∷ 35750000 ∷ 7691 ∷ 8 ∷ 1035984010 ∷ [])
    ∷ (1006632960 ∷ 0 ∷ 0 ∷ [])
    ∷ (1007118126 ∷ 1 ∷ 0 ∷ [])
    ∷ (1007135119 ∷ 2 ∷ 0 ∷ [])
    ∷ (1006632960 ∷ 1 ∷ 1 ∷ 294 ∷ 352 ∷ 36750000 ∷ 44000000 ∷ 3183 ∷ 4 ∷ 1029852388 ∷ [])
    ∷ []

-- after each call where frames were left, and the undecided position
unfoldable pub positions : List (List ℕ)
positions =
    (0 ∷ 0 ∷ [])
    ∷ (16 ∷ 0 ∷ [])
    ∷ (40 ∷ 0 ∷ [])
    ∷ (56 ∷ 56 ∷ [])
    ∷ (64 ∷ 64 ∷ [])
    ∷ (72 ∷ 64 ∷ [])
    ∷ (80 ∷ 64 ∷ [])
    ∷ (80 ∷ 64 ∷ [])
    ∷ (104 ∷ 104 ∷ [])
    ∷ (128 ∷ 112 ∷ [])
    ∷ (144 ∷ 128 ∷ [])
    ∷ (176 ∷ 152 ∷ [])
    ∷ (208 ∷ 184 ∷ [])
    ∷ (224 ∷ 192 ∷ [])
    ∷ (248 ∷ 192 ∷ [])
    ∷ (272 ∷ 192 ∷ [])
    ∷ (286 ∷ 286 ∷ [])
    ∷ (310 ∷ 286 ∷ [])
    ∷ (326 ∷ 294 ∷ [])
    ∷ (342 ∷ 294 ∷ [])
    ∷ (352 ∷ 352 ∷ [])
    ∷ []

-- the track before each call, and after the last: floor, last segment end, rows, talk, and the open segment's start, last loud end, score, energy, loud frames and silence run
unfoldable pub tracks : List (List ℕ)
tracks =
    (1006632960 ∷ 0 ∷ 0 ∷ 0 ∷ [])
    ∷ (1006632960 ∷ 0 ∷ 0 ∷ 0 ∷ [])
    ∷ (1006645986 ∷ 0 ∷ 0 ∷ 0 ∷ 8 ∷ 24 ∷ 965 ∷ 1032601315 ∷ 1 ∷ 0 ∷ [])
    ∷ (1006722200 ∷ 0 ∷ 0 ∷ 0 ∷ 8 ∷ 48 ∷ 4037 ∷ 1055185563 ∷ 4 ∷ 0 ∷ [])
    ∷ (1006632960 ∷ 64 ∷ 1 ∷ 64 ∷ [])
    ∷ (1006652242 ∷ 64 ∷ 1 ∷ 64 ∷ 64 ∷ 72 ∷ 1024 ∷ 1036511503 ∷ 1 ∷ 0 ∷ [])
    ∷ (1006684941 ∷ 64 ∷ 1 ∷ 64 ∷ 64 ∷ 80 ∷ 2048 ∷ 1048835330 ∷ 2 ∷ 0 ∷ [])
    ∷ (1006716357 ∷ 64 ∷ 1 ∷ 64 ∷ 64 ∷ 88 ∷ 3072 ∷ 1054008570 ∷ 3 ∷ 0 ∷ [])
    ∷ (1006716357 ∷ 64 ∷ 1 ∷ 64 ∷ 64 ∷ 88 ∷ 3072 ∷ 1054008570 ∷ 3 ∷ 0 ∷ [])
    ∷ (1006632960 ∷ 112 ∷ 2 ∷ 112 ∷ [])
    ∷ (1006632960 ∷ 112 ∷ 2 ∷ 112 ∷ 112 ∷ 128 ∷ 2048 ∷ 1056210488 ∷ 2 ∷ 1 ∷ [])
    ∷ (1006632960 ∷ 128 ∷ 2 ∷ 112 ∷ [])
    ∷ (1022323249 ∷ 128 ∷ 2 ∷ 112 ∷ [])
    ∷ (1006632960 ∷ 128 ∷ 2 ∷ 112 ∷ [])
    ∷ (1006639311 ∷ 128 ∷ 2 ∷ 112 ∷ 216 ∷ 232 ∷ 696 ∷ 1025058754 ∷ 1 ∷ 0 ∷ [])
    ∷ (1006684389 ∷ 128 ∷ 2 ∷ 112 ∷ 216 ∷ 256 ∷ 3595 ∷ 1049274952 ∷ 4 ∷ 0 ∷ [])
    ∷ (1006667493 ∷ 128 ∷ 2 ∷ 112 ∷ 216 ∷ 280 ∷ 5643 ∷ 1055196206 ∷ 6 ∷ 0 ∷ [])
    ∷ (1006728997 ∷ 286 ∷ 3 ∷ 206 ∷ [])
    ∷ (1006632960 ∷ 286 ∷ 3 ∷ 206 ∷ [])
    ∷ (1007118126 ∷ 286 ∷ 3 ∷ 206 ∷ 318 ∷ 334 ∷ 610 ∷ 1023776743 ∷ 1 ∷ 0 ∷ [])
    ∷ (1007135119 ∷ 286 ∷ 3 ∷ 206 ∷ 318 ∷ 350 ∷ 2159 ∷ 1040408182 ∷ 3 ∷ 0 ∷ [])
    ∷ (1006632960 ∷ 352 ∷ 4 ∷ 264 ∷ [])
    ∷ []

abbrev pub segment_from : List ℕ → Option ActiveSegmentState
segment_from ws =
    cond (eqb (length ws) 4) None
    (Some
    record {
      start_sample = get_or ws 4 0;
      last_end_sample = get_or ws 5 0;
      score_total = get_or ws 6 0;
      energy_sum = of_bits binary32 (get_or ws 7 0);
      loud_frames = get_or ws 8 0;
      silence_run = get_or ws 9 0;
    })

abbrev pub track_from : List ℕ → Track
track_from ws =
    let floor = of_bits binary32 (get_or ws 0 0) in
    framed_to floor (segment_from ws) (booked_to (get_or ws 1 0) (get_or ws 2 0) (get_or ws 3 0) (fresh_track floor))

abbrev pub segment_words : Option ActiveSegmentState → List ℕ
segment_words None = []
segment_words (Some s) =
    s.start_sample ∷ s.last_end_sample ∷ s.score_total ∷ to_bits binary32 s.energy_sum ∷ s.loud_frames ∷ s.silence_run ∷ []

abbrev pub track_words : Track → List ℕ
track_words t =
    to_bits binary32 t.noise_floor ∷ t.last_segment_end ∷ t.rows_reported ∷ t.talk_samples ∷ segment_words t.active_segment

-- what the definitions make of a call: the track after it, and its answer
abbrev pub told : List ℕ → List ℕ → List ℕ
told call before =
    let received = get_or call 0 0 in
    let flush = eqb (get_or call 4 0) 1 in
    let fs = frames_at rules.lengths received (get_or call 1 0) (take (get_or call 3 0) (drop (get_or call 2 0) (map (of_bits binary32) energies))) in
    let rows = call_rows flush rules received (track_from before) fs in
    let after = classified_of flush rules received (track_from before) fs in
    track_words after.track ++ (to_bits binary32 after.track.noise_floor ∷ after.loud ∷ length rows ∷ flat rows)

-- the call k: the track after it is the next one before, and its answer is the original's
abbrev pub Told : ℕ → Type 0
Told k = told (get_or calls k []) (get_or tracks k []) ≡ get_or tracks (suc k) [] ++ get_or answers k []

calls_0_to_10 : Told 0 × Told 1 × Told 2 × Told 3 × Told 4 × Told 5 × Told 6 × Told 7 × Told 8 × Told 9 × Told 10
unfolding fresh_track energies calls answers tracks frames_at frame_at classified_of call_track call_rows rows_of track_after louds_of count_of ended_of judged_of turned_of floor_after paused_of paused_by loud_added extended_by segment_for begun_at active_to floored_to closed_of closed_by booked_of finalized_of timed_of too_short dropped_of padded_end padded_start talk_of talk_in flat reported fields_of row_of time_at mean_energy_of floor_of at_least weight_of in_speech_of loud_of required_of ratio_of score_of reaches largest time_of time_of_sample_of rate_in start_in received_in fused_of of_bits to_bits of_int le lt add sub mul div neg sum round
calls_0_to_10 = (refl, refl, refl, refl, refl, refl, refl, refl, refl, refl, refl)

calls_11_to_15 : Told 11 × Told 12 × Told 13 × Told 14 × Told 15
unfolding fresh_track energies calls answers tracks frames_at frame_at classified_of call_track call_rows rows_of track_after louds_of count_of ended_of judged_of turned_of floor_after paused_of paused_by loud_added extended_by segment_for begun_at active_to floored_to closed_of closed_by booked_of finalized_of timed_of too_short dropped_of padded_end padded_start talk_of talk_in flat reported fields_of row_of time_at mean_energy_of floor_of at_least weight_of in_speech_of loud_of required_of ratio_of score_of reaches largest time_of time_of_sample_of rate_in start_in received_in fused_of of_bits to_bits of_int le lt add sub mul div neg sum round
calls_11_to_15 = (refl, refl, refl, refl, refl)

calls_16_to_18 : Told 16 × Told 17 × Told 18
unfolding fresh_track energies calls answers tracks frames_at frame_at classified_of call_track call_rows rows_of track_after louds_of count_of ended_of judged_of turned_of floor_after paused_of paused_by loud_added extended_by segment_for begun_at active_to floored_to closed_of closed_by booked_of finalized_of timed_of too_short dropped_of padded_end padded_start talk_of talk_in flat reported fields_of row_of time_at mean_energy_of floor_of at_least weight_of in_speech_of loud_of required_of ratio_of score_of reaches largest time_of time_of_sample_of rate_in start_in received_in fused_of of_bits to_bits of_int le lt add sub mul div neg sum round
calls_16_to_18 = (refl, refl, refl)

calls_19_to_20 : Told 19 × Told 20
unfolding fresh_track energies calls answers tracks frames_at frame_at classified_of call_track call_rows rows_of track_after louds_of count_of ended_of judged_of turned_of floor_after paused_of paused_by loud_added extended_by segment_for begun_at active_to floored_to closed_of closed_by booked_of finalized_of timed_of too_short dropped_of padded_end padded_start talk_of talk_in flat reported fields_of row_of time_at mean_energy_of floor_of at_least weight_of in_speech_of loud_of required_of ratio_of score_of reaches largest time_of time_of_sample_of rate_in start_in received_in fused_of of_bits to_bits of_int le lt add sub mul div neg sum round
calls_19_to_20 = (refl, refl)

-- the undecided positions, the padding being 24, of the tracks after the calls
abbrev pub undecided : List (List ℕ) → List (List ℕ) → List (List ℕ)
undecided [] ts = []
undecided (p ∷ ps) [] = []
undecided (p ∷ ps) (t ∷ ts) = (get_or p 0 0 ∷ undecided_of false 24 (get_or p 0 0) (track_from t) ∷ []) ∷ undecided ps ts

positions_as_the_original : undecided positions (drop 1 tracks) ≡ positions
unfolding fresh_track positions tracks undecided_of decided_to next_of
positions_as_the_original = refl
