-- Document 01's 'Refusal numbers' 1 to 13: 'given exactly when', each test with its number, and the first that holds.
use Rattle.std.specs.Prelude.{ℕ, not, ◌&&◌, ◌||◌, List, [], ◌∷◌, ◌++◌, ◌==◌, is_nan, nat_lt, Result, ⊤}
use Rattle.std.specs.Float.Ieee.{lt}
use Rattle.std.specs.Float.Ieee.Scale.{finite}
use Rattle.refusals.specs.Refusals.{Case, refusing, first_of, number_in}
use Rattle.refusals.specs.declared.Refusal.{Refusal}
use Rattle.refusals.specs.declared.Refusal.TheVariants as why
use Rattle.vad_config.specs.declared.VadConfig.{VadConfig}
use Rattle.vad_config.specs.declared.Lengths.{Lengths}
use Rattle.float.specs.Numbers.{zero32, one32}
use Rattle.ranges.specs.Ranges.{rate_in}
use Rattle.ranges.specs.Sizes.{frame_most, warmup_most}
use Rattle.vad_config.specs.Domain.{in_unit, duration_in, start_in}
use Rattle.vad_config.specs.Lengths.{frame_length_of, hop_length_of, warmup_frames_of, padding_samples_of}

-- the lengths of a configuration
unfoldable pub frame_of : VadConfig → ℕ
frame_of c = frame_length_of c.sample_rate c.frame_duration

unfoldable pub hop_of : VadConfig → ℕ
hop_of c = hop_length_of (frame_of c) c.frame_overlap

unfoldable pub warmup_of : VadConfig → ℕ
warmup_of c = warmup_frames_of (hop_of c) c.sample_rate

unfoldable pub padding_of : VadConfig → ℕ
padding_of c = padding_samples_of c.speech_padding c.sample_rate

unfoldable pub lengths_of : VadConfig → Lengths
lengths_of c = record {
  frame_length = frame_of c;
  hop_length = hop_of c;
  warmup_frames = warmup_of c;
  padding_samples = padding_of c;
}

-- 1 'rate outside the domain'
-- 2 'frame duration outside the domain': its nanoseconds, the samples being 11
-- 3 '`frame_overlap` not in [0,1)'
-- 4 '`pre_emphasis` present and not in [0,1)'
unfoldable pub framing_refusals : VadConfig → List Case
framing_refusals c =
    refusing why.Rate (not (rate_in c.sample_rate))
    ∷ refusing why.FrameDuration (not (duration_in c.frame_duration))
    ∷ refusing why.FrameOverlap (not (in_unit c.frame_overlap))
    ∷ refusing why.PreEmphasis (c.has_pre_emphasis && not (in_unit c.pre_emphasis))
    ∷ []

-- 5 '`release_ratio` NaN or below 1'
-- 6 '`activation_ratio` not finite or below `release_ratio`'
-- 7 '`min_speech_energy` not finite or negative'
-- 8 '`noise_smoothing` not in [0,1)'
-- 9 '`energy_floor` not finite or not positive'
-- 10 '`min_speech_frames` is 0'
unfoldable pub level_refusals : VadConfig → List Case
level_refusals c =
    refusing why.ReleaseRatio (is_nan c.release_ratio || lt c.release_ratio one32)
    ∷ refusing why.ActivationRatio (not (finite c.activation_ratio) || lt c.activation_ratio c.release_ratio)
    ∷ refusing why.MinSpeechEnergy (not (finite c.min_speech_energy) || lt c.min_speech_energy zero32)
    ∷ refusing why.NoiseSmoothing (not (in_unit c.noise_smoothing))
    ∷ refusing why.EnergyFloor (not (finite c.energy_floor) || not (lt zero32 c.energy_floor))
    ∷ refusing why.MinSpeechFrames (c.min_speech_frames == 0)
    ∷ []

-- 11 'frame above 2,048 samples': asked only where 1 and 2 passed, so of document 01's length
-- 12 'warm-up above 300 frames'
-- 13 'padding, hangover, `min_speech_frames` or stream start above what the domain allows'
unfoldable pub limit_refusals : VadConfig → List Case
limit_refusals c =
    refusing why.FrameLength (nat_lt frame_most (frame_of c))
    ∷ refusing why.Warmup (nat_lt warmup_most (warmup_of c))
    ∷ refusing why.Limits (nat_lt 1000000000 c.speech_padding || nat_lt 10000 c.hangover_frames || nat_lt 10000 c.min_speech_frames || not (start_in c.stream_start_time))
    ∷ []

-- 'Order: opening 1 to 14': the first that holds. 14 speaks of what the host hands in at opening, which is no setting.
unfoldable pub outcome_of : VadConfig → Result ⊤ Refusal
outcome_of c = first_of (framing_refusals c ++ (level_refusals c ++ limit_refusals c))

-- its number, 0 where none holds
unfoldable pub refusal_of : VadConfig → ℕ
refusal_of c = number_in (outcome_of c)
