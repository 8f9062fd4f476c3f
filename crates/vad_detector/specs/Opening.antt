-- Opening and reset: document 01's refusals 1 to 14, and a state that has heard nothing.
use Rattle.std.specs.Prelude.{Bool, true, false, not, ◌&&◌, List, [], ◌∷◌, ℕ, T, eqb, length, Float, Result, ⊤}
use Rattle.std.specs.Float.{binary32}
use Rattle.std.specs.Float.Ieee.{fits}
use Rattle.float.specs.Numbers.{zero32}
use Rattle.vad_config.specs.Domain.{start_in}
use Rattle.std.specs.Result.{result_and}
use Rattle.refusals.specs.Refusals.{refusing, first_of, number_in, if_passed}
use Rattle.refusals.specs.declared.Refusal.{Refusal}
use Rattle.refusals.specs.declared.Refusal.TheVariants as why
use Rattle.vad_config.specs.Settings.{frame_of, lengths_of, outcome_of}
use Rattle.vad_config.specs.Config.{settings_of}
use Rattle.vad_config.specs.declared.VadConfig.{VadConfig}
use Rattle.vad_segments.specs.declared.Rules.{Rules}
use Rattle.vad_segments.specs.Setters.{fresh_track}
use Rattle.vad_state.specs.Arrays.{filled_of}
use Rattle.ranges.specs.Sizes.{frame_most, warmup_most}
use Rattle.vad_state.specs.State.{state_of, weights_in, window_of, sound_of}
use Rattle.vad_state.specs.declared.VadDetector.{VadDetector}
use Rattle.vad_detector.specs.Answers.{Opened}

-- 14: 'window length differs from the frame, an entry is not in [0,1], or the rise weight is not in [0.5,1]'
unfoldable pub weights_fit : ℕ → List Float → Float → Bool
weights_fit frame window rise = eqb (length window) frame && weights_in window rise

-- 'Order: opening 1 to 14'
unfoldable pub open_verdict : VadConfig → List Float → Float → Result ⊤ Refusal
open_verdict c window rise = result_and (outcome_of c) (first_of (refusing why.Window (not (weights_fit (frame_of c) window rise)) ∷ []))

-- its number, 0 where nothing is refused
unfoldable pub open_refusal : VadConfig → List Float → Float → ℕ
open_refusal c window rise = number_in (open_verdict c window rise)

unfoldable pub rules_of : VadConfig → Float → Rules
rules_of c rise = record { config = c; lengths = lengths_of c; speech_floor_rise = rise }

-- a state that holds no sound and no frame
abbrev pub blank_of : Rules → Bool → Float → List Float → VadDetector
blank_of r warming floor window =
    state_of
    record {
      rules = r;
      stream = record { carry_len = 0; carry_start = 0; processed_samples = 0; pre_emphasis_prev = zero32 };
      desk = record { warming = warming; held = 0; track = fresh_track floor };
    }
    (filled_of frame_most window)
    (filled_of frame_most [])
    (filled_of warmup_most [])

unfoldable pub fresh_of : Rules → List Float → VadDetector
fresh_of r window = blank_of r true r.config.energy_floor window

unfoldable pub zero_rules : Rules
zero_rules =
    record {
      config = settings_of 0 0 zero32 false zero32 zero32 zero32 zero32 zero32 zero32 0 0 0 0;
      lengths = record { frame_length = 0; hop_length = 0; warmup_frames = 0; padding_samples = 0 };
      speech_floor_rise = zero32;
    }

-- 'A refused opening returns an all-zero state'
unfoldable pub nothing_open : VadDetector
nothing_open = blank_of zero_rules false zero32 []

unfoldable pub open_of : VadConfig → List Float → Float → Opened
open_of c window rise =
    let v = open_verdict c window rise in
    record { outcome = v; detector = if_passed v (fresh_of (rules_of c rise) window) (λ r. nothing_open) }

-- what theorems over runs ask besides acceptance: that these are f32, as every number of that type is; a definition's number could be any
pub record Handed (c : VadConfig) (rise : Float) : Type 0 where
  pub floor_fits : T (fits binary32 c.energy_floor)
  pub smoothing_fits : T (fits binary32 c.noise_smoothing)
  pub rise_fits : T (fits binary32 rise)

-- ---- reset

-- all settings but the last, the stream's start, which is new
unfoldable pub restarted_of : VadConfig → ℕ → VadConfig
restarted_of c =
    settings_of c.sample_rate c.frame_duration c.frame_overlap c.has_pre_emphasis c.pre_emphasis
    c.activation_ratio c.release_ratio c.min_speech_energy c.noise_smoothing c.energy_floor
    c.hangover_frames c.speech_padding c.min_speech_frames

-- the settings with a new stream start; rows and talk are 0 again
unfoldable pub reset_to : VadDetector → ℕ → VadDetector
reset_to d start =
    let r = d.kept.rules in
    fresh_of (record { config = restarted_of r.config start; lengths = r.lengths; speech_floor_rise = r.speech_floor_rise }) (window_of d)

-- 'Reset 19, then 13 for the new start'
unfoldable pub reset_of : VadDetector → ℕ → Opened
reset_of d start =
    let v = first_of (refusing why.State (not (sound_of d)) ∷ refusing why.Limits (not (start_in start)) ∷ []) in
    record { outcome = v; detector = if_passed v (reset_to d start) (λ r. d) }
