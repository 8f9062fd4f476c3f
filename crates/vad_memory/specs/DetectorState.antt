-- The detector's state as the host keeps it: numbers of 64 bits and floats, laid out as vad_layout says. A flag is 0 or 1; of a segment zeros stand where none is open.
use Rattle.std.specs.Prelude.{Bool, ◌&&◌, cond, List, [], ◌∷◌, ◌++◌, ℕ, leb, eqb, length, take, drop, get_or, Float, None, Option, Some}
use Rattle.std.specs.Float.{nan}
use Rattle.vad_layout.specs.Layout.{layout_name, numbers_most, floats_most, carry_first, warmup_first}
use Rattle.lists.specs.Flags.{flag_at, flag_word}
use Rattle.vad_config.specs.declared.VadConfig.{VadConfig}
use Rattle.vad_config.specs.declared.Lengths.{Lengths}
use Rattle.vad_segments.specs.Judging.{segment_for}
use Rattle.vad_segments.specs.declared.Rules.{Rules}
use Rattle.vad_segments.specs.declared.ActiveSegmentState.{ActiveSegmentState}
use Rattle.vad_segments.specs.declared.Track.{Track}
use Rattle.ranges.specs.Sizes.{frame_most, warmup_most}
use Rattle.vad_state.specs.State.{state_of}
use Rattle.vad_state.specs.declared.Stream.{Stream}
use Rattle.vad_state.specs.declared.Desk.{Desk}
use Rattle.vad_state.specs.declared.Kept.{Kept}
use Rattle.vad_state.specs.declared.VadDetector.{VadDetector}
use Rattle.vad_call.specs.declared.Tally.{Tally}

-- ---- from memory to a detector

abbrev pub word_at : List ℕ → ℕ → ℕ
word_at ns i = get_or ns i 0

abbrev pub float_at : List Float → ℕ → Float
float_at fs i = get_or fs i nan

abbrev pub rate_at : List ℕ → ℕ
rate_at ns = word_at ns 5

unfoldable pub config_at : List ℕ → List Float → VadConfig
config_at ns fs =
    record {
      sample_rate = rate_at ns;
      frame_duration = word_at ns 6;
      frame_overlap = float_at fs 4396;
      has_pre_emphasis = flag_at ns 7;
      pre_emphasis = float_at fs 4397;
      activation_ratio = float_at fs 4398;
      release_ratio = float_at fs 4399;
      min_speech_energy = float_at fs 4400;
      noise_smoothing = float_at fs 4401;
      energy_floor = float_at fs 4402;
      hangover_frames = word_at ns 8;
      speech_padding = word_at ns 9;
      min_speech_frames = word_at ns 10;
      stream_start_time = word_at ns 11;
    }

unfoldable pub lengths_at : List ℕ → Lengths
lengths_at ns =
    record {
      frame_length = word_at ns 12;
      hop_length = word_at ns 13;
      warmup_frames = word_at ns 14;
      padding_samples = word_at ns 15;
    }

unfoldable pub rules_at : List ℕ → List Float → Rules
rules_at ns fs = record { config = config_at ns fs; lengths = lengths_at ns; speech_floor_rise = float_at fs 4403 }

unfoldable pub stream_at : List ℕ → List Float → Stream
stream_at ns fs =
    record {
      carry_len = word_at ns 16;
      carry_start = word_at ns 17;
      processed_samples = word_at ns 18;
      pre_emphasis_prev = float_at fs 4404;
    }

unfoldable pub segment_at : List ℕ → List Float → ActiveSegmentState
segment_at ns fs =
    record {
      start_sample = word_at ns 25;
      last_end_sample = word_at ns 26;
      score_total = word_at ns 27;
      energy_sum = float_at fs 4406;
      loud_frames = word_at ns 28;
      silence_run = word_at ns 29;
    }

unfoldable pub active_at : List ℕ → List Float → Option ActiveSegmentState
active_at ns fs = cond (flag_at ns 24) (Some (segment_at ns fs)) None

unfoldable pub track_at : List ℕ → List Float → Track
track_at ns fs =
    record {
      noise_floor = float_at fs 4405;
      last_segment_end = word_at ns 21;
      rows_reported = word_at ns 22;
      talk_samples = word_at ns 23;
      active_segment = active_at ns fs;
    }

unfoldable pub desk_at : List ℕ → List Float → Desk
desk_at ns fs = record { warming = flag_at ns 19; held = word_at ns 20; track = track_at ns fs }

unfoldable pub kept_at : List ℕ → List Float → Kept
kept_at ns fs = record { rules = rules_at ns fs; stream = stream_at ns fs; desk = desk_at ns fs }

unfoldable pub detector_at : List ℕ → List Float → VadDetector
detector_at ns fs = state_of (kept_at ns fs) (take frame_most fs) (take frame_most (drop carry_first fs)) (take warmup_most (drop warmup_first fs))

unfoldable pub long_enough : List ℕ → List Float → Bool
long_enough ns fs = leb numbers_most (length ns) && leb floats_most (length fs)

-- long enough, of this layout, the rate in its 32 bits, and no flag above 1 (pre-emphasis, warming, a segment open): else the state is malformed
unfoldable pub readable : List ℕ → List Float → Bool
readable ns fs =
    long_enough ns fs
    && (eqb (word_at ns 0) layout_name
    && (leb (rate_at ns) 0xffff_ffff
    && (leb (word_at ns 7) 1 && (leb (word_at ns 19) 1 && leb (word_at ns 24) 1))))

-- ---- from a detector to memory, in the order of vad_layout

unfoldable pub tally_numbers : Tally → List ℕ
tally_numbers t = t.frames ∷ t.loud ∷ t.quiet ∷ t.rows ∷ []

unfoldable pub rule_numbers : Rules → List ℕ
rule_numbers r =
    r.config.sample_rate
    ∷ r.config.frame_duration
    ∷ flag_word r.config.has_pre_emphasis
    ∷ r.config.hangover_frames
    ∷ r.config.speech_padding
    ∷ r.config.min_speech_frames
    ∷ r.config.stream_start_time
    ∷ r.lengths.frame_length
    ∷ r.lengths.hop_length
    ∷ r.lengths.warmup_frames
    ∷ r.lengths.padding_samples
    ∷ []

unfoldable pub stream_numbers : Stream → List ℕ
stream_numbers s = s.carry_len ∷ s.carry_start ∷ s.processed_samples ∷ []

unfoldable pub open_word : Option ActiveSegmentState → ℕ
open_word None = 0
open_word (Some s) = 1

-- the open segment, or one of zeros
abbrev pub shown_of : Option ActiveSegmentState → ActiveSegmentState
shown_of a = segment_for a 0

unfoldable pub active_numbers : Option ActiveSegmentState → List ℕ
active_numbers a =
    let s = shown_of a in
    open_word a ∷ s.start_sample ∷ s.last_end_sample ∷ s.score_total ∷ s.loud_frames ∷ s.silence_run ∷ []

unfoldable pub desk_numbers : Desk → List ℕ
desk_numbers d =
    flag_word d.warming
    ∷ d.held
    ∷ d.track.last_segment_end
    ∷ d.track.rows_reported
    ∷ d.track.talk_samples
    ∷ active_numbers d.track.active_segment

unfoldable pub numbers_of : Kept → Tally → List ℕ
numbers_of k t = layout_name ∷ (tally_numbers t ++ (rule_numbers k.rules ++ (stream_numbers k.stream ++ desk_numbers k.desk)))

unfoldable pub singles_of : Kept → List Float
singles_of k =
    k.rules.config.frame_overlap
    ∷ k.rules.config.pre_emphasis
    ∷ k.rules.config.activation_ratio
    ∷ k.rules.config.release_ratio
    ∷ k.rules.config.min_speech_energy
    ∷ k.rules.config.noise_smoothing
    ∷ k.rules.config.energy_floor
    ∷ k.rules.speech_floor_rise
    ∷ k.stream.pre_emphasis_prev
    ∷ k.desk.track.noise_floor
    ∷ (shown_of k.desk.track.active_segment).energy_sum
    ∷ []

unfoldable pub floats_of : VadDetector → List Float
floats_of d = d.window ++ (d.carry ++ (d.warmup ++ singles_of d.kept))

-- memory beyond the state stays
unfoldable pub numbers_written : Kept → Tally → List ℕ → List ℕ
numbers_written k t ns = numbers_of k t ++ drop numbers_most ns

unfoldable pub floats_written : VadDetector → List Float → List Float
floats_written d fs = floats_of d ++ drop floats_most fs
