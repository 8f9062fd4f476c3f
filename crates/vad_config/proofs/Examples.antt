-- Cases computed from the definitions: document 01's of settings and times, and each refusal at its edges.
use Rattle.std.proofs.Common.{◌≡◌, ℕ, Bool, true, false, refl}
use lib.Ieee.{Float, nan, inf, binary32, of_bits, of_int, round, sum, add, neg, sub, mul, div, lt, eq, le, is_nan}
use Rattle.float.specs.Whole.{round_of, ceil_of}
use Rattle.refusals.specs.Refusals.{first_of}
use Rattle.vad_config.specs.declared.VadConfig.{VadConfig}
use Rattle.float.specs.Numbers.{zero32, one32}
use Rattle.ranges.specs.Ranges.{rate_in}
use Rattle.vad_config.specs.Domain.{in_unit, duration_in, start_in, received_in}
use Rattle.vad_config.specs.Lengths.{frame_samples, frame_length_of, hop_length_of, warmup_frames_of, seconds_of, padding_samples_of, time_of, time_of_sample_of}
use Rattle.vad_config.specs.Settings.{frame_of, hop_of, warmup_of, framing_refusals, level_refusals, limit_refusals, outcome_of, refusal_of}

-- ---- document 01's table
abbrev half : Float
half = of_bits binary32 0x3F00_0000

-- 20 ms at 16 kHz, overlap 0.5
pub frame_of_20_ms : frame_length_of 16000 20000000 ≡ 320
unfolding frame_length_of frame_samples rate_in duration_in
frame_of_20_ms = refl

pub hop_of_320 : hop_length_of 320 half ≡ 160
unfolding hop_length_of round_of mul sub add sum neg round of_int of_bits
hop_of_320 = refl

pub warmup_of_160 : warmup_frames_of 160 16000 ≡ 30
unfolding warmup_frames_of ceil_of div round of_int of_bits
warmup_of_160 = refl

-- 2.5 samples
pub hop_of_5 : hop_length_of 5 half ≡ 3
unfolding hop_length_of round_of mul sub add sum neg round of_int of_bits
hop_of_5 = refl

pub warmup_of_8 : warmup_frames_of 8 8000 ≡ 300
unfolding warmup_frames_of ceil_of div round of_int of_bits
warmup_of_8 = refl

pub warmup_of_7 : warmup_frames_of 7 8000 ≡ 343
unfolding warmup_frames_of ceil_of div round of_int of_bits
warmup_of_7 = refl

-- runs A and B: samples 120, 280 and 360 at 8 kHz, and 5 ms of padding
pub times_of_runs : (time_of_sample_of 0 8000 120 ≡ 15000000) × (time_of_sample_of 0 8000 280 ≡ 35000000) × (time_of_sample_of 0 8000 360 ≡ 45000000)
unfolding time_of_sample_of time_of rate_in start_in received_in
times_of_runs = (refl, refl, refl)

pub padding_of_runs : padding_samples_of 5000000 8000 ≡ 40
unfolding padding_samples_of seconds_of round_of mul div add sum round of_int
padding_of_runs = refl

-- ---- what other ways of working would answer
-- 5 samples and an overlap of 0.1: 4.5 in f32; the product in f64 is below that, and rounds to 4
hop_in_f32 : hop_length_of 5 (of_bits binary32 0x3DCC_CCCD) ≡ 5
unfolding hop_length_of round_of mul sub add sum neg round of_int of_bits
hop_in_f32 = refl

-- 62,562,500 ns at 8 kHz are 500.5 samples; in f64 the product is below that
padding_in_f64 : padding_samples_of 62562500 8000 ≡ 500
unfolding padding_samples_of seconds_of round_of mul div add sum round of_int
padding_in_f64 = refl

-- a frame of 1.5 samples has 2, and one of a nanosecond has 1; no length where 1 or 2 refuses
frame_edges : (frame_length_of 16000 93750 ≡ 2) × (frame_length_of 16000 93749 ≡ 1) × (frame_length_of 8000 1 ≡ 1) × (frame_length_of 48001 20000000 ≡ 0) × (frame_length_of 8000 0 ≡ 0)
unfolding frame_length_of frame_samples rate_in duration_in
frame_edges = (refl, refl, refl, refl, refl)

-- 62,500 ns a sample at 16 kHz, 22,675.7 at 44.1 kHz; the last sample of all, from the last start of all; and no time outside the domain
time_edges :
    (time_of_sample_of 7 16000 1 ≡ 62507)
    × (time_of_sample_of 0 44100 1 ≡ 22676)
    × (time_of_sample_of 9223372036854775807 8000 1099511627776 ≡ 9360810990326775807)
    × (time_of_sample_of 9223372036854775808 8000 0 ≡ 0)
    × (time_of_sample_of 1 8000 1099511627777 ≡ 0)
unfolding time_of_sample_of time_of rate_in start_in received_in
time_edges = (refl, refl, refl, refl, refl)

-- ---- settings, all given, and those that differ from the Rust's default in one group
abbrev settings : ℕ → ℕ → Float → Bool → Float → Float → Float → Float → Float → Float → ℕ → ℕ → ℕ → ℕ → VadConfig
settings rate ns overlap present emphasis activation release gate smoothing floor hangover padding frames start = record {
  sample_rate = rate;
  frame_duration = ns;
  frame_overlap = overlap;
  has_pre_emphasis = present;
  pre_emphasis = emphasis;
  activation_ratio = activation;
  release_ratio = release;
  min_speech_energy = gate;
  noise_smoothing = smoothing;
  energy_floor = floor;
  hangover_frames = hangover;
  speech_padding = padding;
  min_speech_frames = frames;
  stream_start_time = start;
}

-- activation 2.5, release 1.3, gate 0.0005, smoothing 0.85, floor 0.0001
abbrev framed : ℕ → ℕ → Float → VadConfig
framed rate ns overlap =
    settings rate ns overlap false zero32 (of_bits binary32 0x4020_0000) (of_bits binary32 0x3FA6_6666) (of_bits binary32 0x3A03_126F) (of_bits binary32 0x3F59_999A) (of_bits binary32 0x38D1_B717) 20 50000000 3 0

abbrev emphasised : Bool → Float → VadConfig
emphasised present emphasis =
    settings 16000 20000000 half present emphasis (of_bits binary32 0x4020_0000) (of_bits binary32 0x3FA6_6666) (of_bits binary32 0x3A03_126F) (of_bits binary32 0x3F59_999A) (of_bits binary32 0x38D1_B717) 20 50000000 3 0

abbrev levelled : Float → Float → Float → Float → Float → VadConfig
levelled activation release gate smoothing floor = settings 16000 20000000 half false zero32 activation release gate smoothing floor 20 50000000 3 0

abbrev limited : ℕ → ℕ → ℕ → ℕ → VadConfig
limited hangover padding frames start =
    settings 16000 20000000 half false zero32 (of_bits binary32 0x4020_0000) (of_bits binary32 0x3FA6_6666) (of_bits binary32 0x3A03_126F) (of_bits binary32 0x3F59_999A) (of_bits binary32 0x38D1_B717) hangover padding frames start

-- hop 8 at 8 kHz is accepted, hop 7 refused; release infinite
pub table_refusals :
    (refusal_of (framed 8000 1000000 zero32) ≡ 0)
    × (refusal_of (framed 8000 875000 zero32) ≡ 12)
    × (refusal_of (levelled (of_bits binary32 0x4020_0000) (inf false) zero32 zero32 one32) ≡ 6)
unfolding refusal_of outcome_of framing_refusals level_refusals limit_refusals first_of in_unit rate_in duration_in start_in frame_of frame_length_of frame_samples hop_of hop_length_of warmup_of warmup_frames_of round_of ceil_of mul sub div add sum neg round of_int of_bits le lt eq is_nan
table_refusals = (refl, refl, refl)

-- rates, and nanoseconds
rate_edges :
    (refusal_of (framed 7999 20000000 half) ≡ 1)
    × (refusal_of (framed 8000 20000000 half) ≡ 0)
    × (refusal_of (framed 48000 20000000 half) ≡ 0)
    × (refusal_of (framed 48001 20000000 half) ≡ 1)
    × (refusal_of (framed 16000 0 half) ≡ 2)
    × (refusal_of (framed 16000 1000000001 half) ≡ 2)
    × (refusal_of (framed 16000 1000000000 half) ≡ 11)
unfolding refusal_of outcome_of framing_refusals level_refusals limit_refusals first_of in_unit rate_in duration_in start_in frame_of frame_length_of frame_samples hop_of hop_length_of warmup_of warmup_frames_of round_of ceil_of mul sub div add sum neg round of_int of_bits le lt eq is_nan
rate_edges = (refl, refl, refl, refl, refl, refl, refl)

-- overlaps: −0, NaN, 1, the number just below it, which leaves hops of 1, an infinity, and the least negative number
overlap_edges :
    (refusal_of (framed 16000 20000000 (of_bits binary32 0x8000_0000)) ≡ 0)
    × (refusal_of (framed 16000 20000000 nan) ≡ 3)
    × (refusal_of (framed 16000 20000000 one32) ≡ 3)
    × (refusal_of (framed 16000 20000000 (of_bits binary32 0x3F7F_FFFF)) ≡ 12)
    × (refusal_of (framed 16000 20000000 (inf true)) ≡ 3)
    × (refusal_of (framed 16000 20000000 (of_bits binary32 0x8000_0001)) ≡ 3)
unfolding refusal_of outcome_of framing_refusals level_refusals limit_refusals first_of in_unit rate_in duration_in start_in frame_of frame_length_of frame_samples hop_of hop_length_of warmup_of warmup_frames_of round_of ceil_of mul sub div add sum neg round of_int of_bits le lt eq is_nan
overlap_edges = (refl, refl, refl, refl, refl, refl)

-- pre-emphasis: 0.97, just below 1, 1, a NaN, and a NaN that is not present
emphasis_edges :
    (refusal_of (emphasised true (of_bits binary32 0x3F78_51EC)) ≡ 0)
    × (refusal_of (emphasised true (of_bits binary32 0x3F7F_FFFF)) ≡ 0)
    × (refusal_of (emphasised true (of_bits binary32 0x8000_0000)) ≡ 0)
    × (refusal_of (emphasised true one32) ≡ 4)
    × (refusal_of (emphasised true nan) ≡ 4)
    × (refusal_of (emphasised false nan) ≡ 0)
unfolding refusal_of outcome_of framing_refusals level_refusals limit_refusals first_of in_unit rate_in duration_in start_in frame_of frame_length_of frame_samples hop_of hop_length_of warmup_of warmup_frames_of round_of ceil_of mul sub div add sum neg round of_int of_bits le lt eq is_nan
emphasis_edges = (refl, refl, refl, refl, refl, refl)

-- release: 1, just below it, NaN; activation: equal to release, below it, NaN, infinite
ratio_edges :
    (refusal_of (levelled (of_bits binary32 0x4020_0000) one32 zero32 zero32 one32) ≡ 0)
    × (refusal_of (levelled (of_bits binary32 0x4020_0000) (of_bits binary32 0x3F7F_FFFF) zero32 zero32 one32) ≡ 5)
    × (refusal_of (levelled (of_bits binary32 0x4020_0000) nan zero32 zero32 one32) ≡ 5)
    × (refusal_of (levelled one32 one32 zero32 zero32 one32) ≡ 0)
    × (refusal_of (levelled (of_bits binary32 0x3F7F_FFFF) one32 zero32 zero32 one32) ≡ 6)
    × (refusal_of (levelled nan one32 zero32 zero32 one32) ≡ 6)
    × (refusal_of (levelled (inf false) one32 zero32 zero32 one32) ≡ 6)
    × (refusal_of (levelled (inf false) (inf false) zero32 zero32 one32) ≡ 6)
unfolding refusal_of outcome_of framing_refusals level_refusals limit_refusals first_of in_unit rate_in duration_in start_in frame_of frame_length_of frame_samples hop_of hop_length_of warmup_of warmup_frames_of round_of ceil_of mul sub div add sum neg round of_int of_bits le lt eq is_nan
ratio_edges = (refl, refl, refl, refl, refl, refl, refl, refl)

-- gate: −0, the least negative number, infinite; smoothing: 1, −0; floor: both zeros, the smallest subnormal, negative, infinite, NaN
energy_edges :
    (refusal_of (levelled (of_bits binary32 0x4020_0000) one32 (of_bits binary32 0x8000_0000) zero32 one32) ≡ 0)
    × (refusal_of (levelled (of_bits binary32 0x4020_0000) one32 (of_bits binary32 0x8000_0001) zero32 one32) ≡ 7)
    × (refusal_of (levelled (of_bits binary32 0x4020_0000) one32 (inf false) zero32 one32) ≡ 7)
    × (refusal_of (levelled (of_bits binary32 0x4020_0000) one32 zero32 one32 one32) ≡ 8)
    × (refusal_of (levelled (of_bits binary32 0x4020_0000) one32 zero32 (of_bits binary32 0x8000_0000) one32) ≡ 0)
    × (refusal_of (levelled (of_bits binary32 0x4020_0000) one32 zero32 zero32 zero32) ≡ 9)
    × (refusal_of (levelled (of_bits binary32 0x4020_0000) one32 zero32 zero32 (of_bits binary32 0x8000_0000)) ≡ 9)
    × (refusal_of (levelled (of_bits binary32 0x4020_0000) one32 zero32 zero32 (of_bits binary32 0x0000_0001)) ≡ 0)
    × (refusal_of (levelled (of_bits binary32 0x4020_0000) one32 zero32 zero32 (of_bits binary32 0x8000_0001)) ≡ 9)
    × (refusal_of (levelled (of_bits binary32 0x4020_0000) one32 zero32 zero32 (inf false)) ≡ 9)
    × (refusal_of (levelled (of_bits binary32 0x4020_0000) one32 zero32 zero32 nan) ≡ 9)
unfolding refusal_of outcome_of framing_refusals level_refusals limit_refusals first_of in_unit rate_in duration_in start_in frame_of frame_length_of frame_samples hop_of hop_length_of warmup_of warmup_frames_of round_of ceil_of mul sub div add sum neg round of_int of_bits le lt eq is_nan
energy_edges = (refl, refl, refl, refl, refl, refl, refl, refl, refl, refl, refl)

-- 2,048 samples at 48 kHz, and 2,049
sample_edges :
    (refusal_of (framed 48000 42666667 half) ≡ 0)
    × (refusal_of (framed 48000 42687500 half) ≡ 11)
unfolding refusal_of outcome_of framing_refusals level_refusals limit_refusals first_of in_unit rate_in duration_in start_in frame_of frame_length_of frame_samples hop_of hop_length_of warmup_of warmup_frames_of round_of ceil_of mul sub div add sum neg round of_int of_bits le lt eq is_nan
sample_edges = (refl, refl)

-- minimum 0; hangover, padding, minimum and start at their limits, and past each of them
limit_edges :
    (refusal_of (limited 20 50000000 0 0) ≡ 10)
    × (refusal_of (limited 10000 1000000000 10000 9223372036854775807) ≡ 0)
    × (refusal_of (limited 10001 50000000 3 0) ≡ 13)
    × (refusal_of (limited 20 1000000001 3 0) ≡ 13)
    × (refusal_of (limited 20 50000000 10001 0) ≡ 13)
    × (refusal_of (limited 20 50000000 3 9223372036854775808) ≡ 13)
unfolding refusal_of outcome_of framing_refusals level_refusals limit_refusals first_of in_unit rate_in duration_in start_in frame_of frame_length_of frame_samples hop_of hop_length_of warmup_of warmup_frames_of round_of ceil_of mul sub div add sum neg round of_int of_bits le lt eq is_nan
limit_edges = (refl, refl, refl, refl, refl, refl)

-- the first that holds is told: 1 before 2, 3 before 9, 10 before 13
order :
    (refusal_of (framed 0 0 nan) ≡ 1)
    × (refusal_of (settings 16000 20000000 nan true nan nan nan nan nan nan 20 0 0 0) ≡ 3)
    × (refusal_of (limited 10001 50000000 0 0) ≡ 10)
unfolding refusal_of outcome_of framing_refusals level_refusals limit_refusals first_of in_unit rate_in duration_in start_in frame_of frame_length_of frame_samples hop_of hop_length_of warmup_of warmup_frames_of round_of ceil_of mul sub div add sum neg round of_int of_bits le lt eq is_nan
order = (refl, refl, refl)
