-- The settings one by one, in the Rust's order.
use Rattle.std.specs.Prelude.{ℕ, Bool, Float}
use Rattle.vad_config.specs.declared.VadConfig.{VadConfig}

abbrev pub settings_of : ℕ → ℕ → Float → Bool → Float → Float → Float → Float → Float → Float → ℕ → ℕ → ℕ → ℕ → VadConfig
settings_of rate duration overlap emphasised emphasis activation release gate smoothing floor hangover padding least start =
    record {
      sample_rate = rate;
      frame_duration = duration;
      frame_overlap = overlap;
      has_pre_emphasis = emphasised;
      pre_emphasis = emphasis;
      activation_ratio = activation;
      release_ratio = release;
      min_speech_energy = gate;
      noise_smoothing = smoothing;
      energy_floor = floor;
      hangover_frames = hangover;
      speech_padding = padding;
      min_speech_frames = least;
      stream_start_time = start;
    }
