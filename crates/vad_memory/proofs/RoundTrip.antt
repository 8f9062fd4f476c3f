-- What is written is what is read at the next call. Assumes nothing.
use Rattle.vad_segments.specs.declared.ActiveSegmentState.{ActiveSegmentState}
use Rattle.std.specs.Prelude.{None, Option, Some}
use mathlib.Core.Path.{◌≡◌, refl, sym, ap, ◌∙◌}
use mathlib.Core.Bool.{true, cond}
use mathlib.Core.List.{List, ◌++◌, append_assoc}
use Prim.Native.Nat.{ℕ, ◌+◌, ◌≤◌}
use native.Mathlib.Omega.{arith}
use lib.Dec.{eqb}
use lib.ListN.{length, take, drop, length-append}
use lib.Seq.{take_at, drop_at, drop-drop, get_or-drop, length-take-le}
use lib.Ieee.{Float, nan}
use Rattle.vad_layout.specs.Layout.{numbers_most, floats_most}
use Rattle.vad_layout.proofs.InNumbers as in-numbers
use Rattle.vad_layout.proofs.InFloats as in-floats
use Rattle.vad_config.specs.declared.VadConfig.{VadConfig}
use Rattle.vad_segments.specs.Judging.{segment_for}
use Rattle.ranges.specs.Sizes.{frame_most, warmup_most}
use Rattle.vad_state.specs.declared.VadDetector.{VadDetector}
use Rattle.vad_call.specs.declared.Tally.{Tally}
use Rattle.lists.specs.Flags.{flag_at, flag_word}
use Rattle.lists.proofs.Flags.{flag_back, flag_small}
use Rattle.vad_memory.specs.DetectorState.{word_at, float_at, config_at, lengths_at, rules_at, stream_at, segment_at, active_at, track_at, desk_at, kept_at, detector_at, readable, tally_numbers, rule_numbers, stream_numbers, open_word, shown_of, active_numbers, desk_numbers, numbers_of, singles_of, floats_of, numbers_written, floats_written}
use Rattle.vad_memory.proofs.Parts.{part_length, parts, whole}
use Rattle.vad_memory.proofs.Put.{numbers_count, floats_count}

-- what the types of its arrays and u32 say of every detector that the code holds
pub record Shaped (d : VadDetector) : Type 0 where
  pub window : length d.window ≡ frame_most
  pub carry : length d.carry ≡ frame_most
  pub warmup : length d.warmup ≡ warmup_most
  pub rate : d.kept.rules.config.sample_rate ≤ 0xffff_ffff

-- ---- one flag

-- ---- a part from what stands at its places

config_from : (c : VadConfig) (ns : List ℕ) (fs : List Float)
    → word_at ns in-numbers.sample_rate_in ≡ c.sample_rate
    → word_at ns in-numbers.frame_duration_in ≡ c.frame_duration
    → word_at ns in-numbers.has_pre_emphasis_in ≡ flag_word c.has_pre_emphasis
    → word_at ns in-numbers.hangover_frames_in ≡ c.hangover_frames
    → word_at ns in-numbers.speech_padding_in ≡ c.speech_padding
    → word_at ns in-numbers.min_speech_frames_in ≡ c.min_speech_frames
    → word_at ns in-numbers.stream_start_time_in ≡ c.stream_start_time
    → float_at fs in-floats.frame_overlap_in ≡ c.frame_overlap
    → float_at fs in-floats.pre_emphasis_in ≡ c.pre_emphasis
    → float_at fs in-floats.activation_ratio_in ≡ c.activation_ratio
    → float_at fs in-floats.release_ratio_in ≡ c.release_ratio
    → float_at fs in-floats.min_speech_energy_in ≡ c.min_speech_energy
    → float_at fs in-floats.noise_smoothing_in ≡ c.noise_smoothing
    → float_at fs in-floats.energy_floor_in ≡ c.energy_floor
    → config_at ns fs ≡ c
unfolding config_at
config_from c ns fs e0 e1 e2 e3 e4 e5 e6 f0 f1 f2 f3 f4 f5 f6 =
    let flag : flag_at ns in-numbers.has_pre_emphasis_in ≡ c.has_pre_emphasis = ap (λ (w : ℕ). eqb w 1) e2 ∙ flag_back c.has_pre_emphasis in
    rw (e0, e1, flag, e3, e4, e5, e6, f0, f1, f2, f3, f4, f5, f6) refl

active_is : (a : Option ActiveSegmentState) → cond (eqb (open_word a) 1) (Some (shown_of a)) None ≡ a
unfolding open_word segment_for
active_is None = refl
active_is (Some s) = refl

-- a flag of the track too
active_small : (a : Option ActiveSegmentState) → open_word a ≤ 1
unfolding open_word
active_small None = omega arith
active_small (Some s) = omega arith

-- ---- the floats, one part after another
module _ (w c h s rest : List Float) (lw : length w ≡ frame_most) (lc : length c ≡ frame_most) (lh : length h ≡ warmup_most) where
  abbrev joined : List Float
  joined = (w ++ (c ++ (h ++ s))) ++ rest

  joined_window : take frame_most joined ≡ w
  joined_window = ap (take frame_most) (append_assoc w (c ++ (h ++ s)) rest) ∙ take_at w ((c ++ (h ++ s)) ++ rest) frame_most lw

  past_window : drop in-floats.carry joined ≡ c ++ ((h ++ s) ++ rest)
  past_window = ap (drop in-floats.carry) (append_assoc w (c ++ (h ++ s)) rest) ∙ drop_at w ((c ++ (h ++ s)) ++ rest) frame_most lw ∙ append_assoc c (h ++ s) rest

  joined_carry : take frame_most (drop in-floats.carry joined) ≡ c
  joined_carry = ap (take frame_most) past_window ∙ take_at c ((h ++ s) ++ rest) frame_most lc

  past_carry : drop in-floats.warmup joined ≡ h ++ (s ++ rest)
  past_carry = sym (drop-drop frame_most in-floats.carry joined) ∙ ap (drop in-floats.carry) past_window ∙ drop_at c ((h ++ s) ++ rest) frame_most lc ∙ append_assoc h s rest

  joined_warmup : take warmup_most (drop in-floats.warmup joined) ≡ h
  joined_warmup = ap (take warmup_most) past_carry ∙ take_at h (s ++ rest) warmup_most lh

  past_warmup : drop in-floats.singles joined ≡ s ++ rest
  past_warmup = sym (drop-drop warmup_most in-floats.warmup joined) ∙ ap (drop warmup_most) past_carry ∙ drop_at h (s ++ rest) warmup_most lh

  joined_single : (k : ℕ) → float_at joined (in-floats.singles + k) ≡ float_at (s ++ rest) k
  joined_single k = sym (get_or-drop in-floats.singles joined k nan) ∙ ap (λ (xs : List Float). float_at xs k) past_warmup

-- ---- the whole
module _ (d : VadDetector) (t : Tally) (ns : List ℕ) (fs : List Float) where
  abbrev segment : Option ActiveSegmentState
  segment = d.kept.desk.track.active_segment

  abbrev words : List ℕ
  words = numbers_of d.kept t ++ ns

  abbrev floats : List Float
  floats = floats_of d ++ fs

  single : Shaped d → (i : ℕ) → float_at floats (in-floats.singles + i) ≡ float_at (singles_of d.kept ++ fs) i
  unfolding floats_of
  single h i = joined_single d.window d.carry d.warmup (singles_of d.kept) fs h.window h.carry h.warmup i

  config_back : Shaped d → config_at words floats ≡ d.kept.rules.config
  unfolding numbers_of tally_numbers rule_numbers singles_of
  config_back h =
      config_from d.kept.rules.config words floats refl refl refl refl refl refl refl
      (single h 0)
      (single h 1)
      (single h 2)
      (single h 3)
      (single h 4)
      (single h 5)
      (single h 6)

  lengths_back : lengths_at words ≡ d.kept.rules.lengths
  unfolding lengths_at numbers_of tally_numbers rule_numbers
  lengths_back = refl

  rules_back : Shaped d → rules_at words floats ≡ d.kept.rules
  unfolding rules_at singles_of
  rules_back h = rw (config_back h, lengths_back, single h 7) refl

  stream_back : Shaped d → stream_at words floats ≡ d.kept.stream
  unfolding stream_at numbers_of tally_numbers rule_numbers stream_numbers singles_of
  stream_back h = rw (single h 8) refl

  segment_back : Shaped d → segment_at words floats ≡ shown_of segment
  unfolding segment_at numbers_of tally_numbers rule_numbers stream_numbers desk_numbers active_numbers singles_of
  segment_back h = rw (single h 10) refl

  active_back : Shaped d → active_at words floats ≡ segment
  unfolding active_at numbers_of tally_numbers rule_numbers stream_numbers desk_numbers active_numbers
  active_back h = rw (segment_back h) (active_is segment)

  track_back : Shaped d → track_at words floats ≡ d.kept.desk.track
  unfolding track_at numbers_of tally_numbers rule_numbers stream_numbers desk_numbers active_numbers singles_of
  track_back h = rw (active_back h, single h 9) refl

  desk_back : Shaped d → desk_at words floats ≡ d.kept.desk
  unfolding desk_at numbers_of tally_numbers rule_numbers stream_numbers desk_numbers active_numbers
  desk_back h = rw (flag_back d.kept.desk.warming, track_back h) refl

  -- the detector written is the detector read, whatever stands behind it
  pub detector_back : Shaped d → detector_at words floats ≡ d
  unfolding detector_at kept_at floats_of
  detector_back h =
      rw (
        rules_back h,
        stream_back h,
        desk_back h,
        joined_window d.window d.carry d.warmup (singles_of d.kept) fs h.window h.carry h.warmup,
        joined_carry d.window d.carry d.warmup (singles_of d.kept) fs h.window h.carry h.warmup,
        joined_warmup d.window d.carry d.warmup (singles_of d.kept) fs h.window h.carry h.warmup,
      ) refl

  -- and it is never taken for a malformed state
  pub readable_back : Shaped d → readable words floats ≡ true
  unfolding numbers_of tally_numbers rule_numbers stream_numbers desk_numbers active_numbers
  readable_back h =
      let many = numbers_count d.kept t in
      let more = length-append (numbers_of d.kept t) ns in
      let long = floats_count d h.window h.carry h.warmup in
      let longer = length-append (floats_of d) fs in
      whole words floats record {
        long = record { numbers = omega arith; floats = omega arith };
        layout = refl;
        rate = h.rate;
        emphasis = flag_small d.kept.rules.config.has_pre_emphasis;
        warming = flag_small d.kept.desk.warming;
        active = active_small segment;
      }

-- ---- as `put_detector` leaves it
module _ (d : VadDetector) (t : Tally) (ns : List ℕ) (fs : List Float) where
  pub written_back : Shaped d → detector_at (numbers_written d.kept t ns) (floats_written d fs) ≡ d
  unfolding numbers_written floats_written
  written_back h = detector_back d t (drop numbers_most ns) (drop floats_most fs) h

  pub written_readable : Shaped d → readable (numbers_written d.kept t ns) (floats_written d fs) ≡ true
  unfolding numbers_written floats_written
  written_readable h = readable_back d t (drop numbers_most ns) (drop floats_most fs) h

-- what the latest call counted
pub counted_back : (d : VadDetector) (t : Tally) (ns : List ℕ) → take 4 (drop 1 (numbers_written d.kept t ns)) ≡ tally_numbers t
unfolding numbers_written numbers_of tally_numbers
counted_back d t ns = refl

-- what is read from memory has the shape of the types
pub read_shaped : (ns : List ℕ) (fs : List Float) → readable ns fs ≡ true → Shaped (detector_at ns fs)
unfolding detector_at kept_at rules_at config_at
read_shaped ns fs h =
    let p = parts ns fs h in
    let long = p.long.floats in
    record {
      window = length-take-le frame_most fs (omega arith);
      carry = part_length fs frame_most in-floats.carry (omega arith);
      warmup = part_length fs warmup_most in-floats.warmup (omega arith);
      rate = p.rate;
    }
