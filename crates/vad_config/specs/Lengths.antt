-- Document 01's 'Numbers worked out at opening'.
use Rattle.std.specs.Prelude.{ℕ, ◌+◌, ◌*◌, ◌/◌, ◌%◌, max, cond, ◌&&◌, pos, from_bits, Float}
use Rattle.std.specs.Float.{binary32, binary64}
use Rattle.std.specs.Float.Ieee.{of_int, add, sub, mul, div}
use Rattle.float.specs.Whole.{round_of, ceil_of}
use Rattle.float.specs.Numbers.{one32}
use Rattle.ranges.specs.Ranges.{rate_in}
use Rattle.vad_config.specs.Domain.{duration_in, start_in, received_in}

-- 'Frame length = (ns × rate + 500,000,000) div 10^9, at least 1.'
unfoldable pub frame_samples : ℕ → ℕ → ℕ
frame_samples rate ns = max 1 ((ns * rate + 500000000) / 1000000000)

-- no length, 0, where 1 or 2 refuses
unfoldable pub frame_length_of : ℕ → ℕ → ℕ
frame_length_of rate ns = cond (rate_in rate && duration_in ns) (frame_samples rate ns) 0

-- 'Hop = f32 product of length and (1 − overlap), rounded half away from zero, at least 1.'
unfoldable pub hop_length_of : ℕ → Float → ℕ
hop_length_of length overlap = max 1 (round_of (mul binary32 (of_int binary32 (pos length)) (sub binary32 one32 overlap)))

-- 0.3 of f64, which Rust's 300 ms in seconds are
abbrev pub warmup_seconds : Float
warmup_seconds = from_bits binary64 0x3FD3_3333_3333_3333

-- 'Warm-up = f64 quotient 0.3 / (hop / rate), rounded up, at least 1.'
unfoldable pub warmup_frames_of : ℕ → ℕ → ℕ
warmup_frames_of hop rate = max 1 (ceil_of (div binary64 warmup_seconds (div binary64 (of_int binary64 (pos hop)) (of_int binary64 (pos rate)))))

-- 'f64 seconds': Rust's `as_secs_f64` adds the whole seconds and the rest's part of one
unfoldable pub seconds_of : ℕ → Float
seconds_of ns = add binary64 (of_int binary64 (pos (ns / 1000000000))) (div binary64 (of_int binary64 (pos (ns % 1000000000))) (of_int binary64 (pos 1000000000)))

-- 'Padding = f64 seconds × rate, rounded half away.'
unfoldable pub padding_samples_of : ℕ → ℕ → ℕ
padding_samples_of ns rate = round_of (mul binary64 (seconds_of ns) (of_int binary64 (pos rate)))

-- 'Time of sample n = stream start + (n × 10^9 + rate div 2) div rate.'
unfoldable pub time_of : ℕ → ℕ → ℕ → ℕ
time_of start rate n = start + (n * 1000000000 + rate / 2) / rate

-- no time, 0, outside the domain
unfoldable pub time_of_sample_of : ℕ → ℕ → ℕ → ℕ
time_of_sample_of start rate n = cond (rate_in rate && start_in start && received_in n) (time_of start rate n) 0
