-- Document 01's list of what makes a state malformed, clause by clause: a state is sound where none of them holds.
use Rattle.std.specs.Prelude.{Bool, true, false, not, ◌&&◌, ◌||◌, List, ℕ, ◌+◌, ◌*◌, leb, ltb, eqb, take, Float, None, Option, Some}
use Rattle.std.specs.Float.{binary32}
use Rattle.std.specs.Float.Ieee.{of_bits, lt, neg}
use Rattle.std.specs.Float.Ieee.Scale.{finite}
use Rattle.ranges.specs.Ranges.{within, all_within, in_domain}
use Rattle.float.specs.Numbers.{zero32, one32}
use Rattle.vad_config.specs.Domain.{received_in}
use Rattle.vad_config.specs.Settings.{lengths_of, refusal_of}
use Rattle.vad_config.specs.declared.Lengths.{Lengths}
use Rattle.vad_segments.specs.declared.Rules.{Rules}
use Rattle.vad_segments.specs.declared.ActiveSegmentState.{ActiveSegmentState}
use Rattle.vad_segments.specs.declared.Track.{Track}
use Rattle.vad_state.specs.declared.Stream.{Stream}
use Rattle.vad_state.specs.declared.Desk.{Desk}
use Rattle.vad_state.specs.declared.Kept.{Kept}
use Rattle.vad_state.specs.declared.VadDetector.{VadDetector}

-- 0.5, 131,072 and 2^60, by their bits
abbrev pub half32 : Float
half32 = of_bits binary32 0x3F00_0000

abbrev pub loudest32 : Float
loudest32 = of_bits binary32 0x4800_0000

abbrev pub total32 : Float
total32 = of_bits binary32 0x5D80_0000

-- a state whose window, carry and warm-up are lent
abbrev pub state_of : Kept → List Float → List Float → List Float → VadDetector
state_of k window carry warmup = record { kept = k; window = window; carry = carry; warmup = warmup }

-- ---- the used parts of the arrays

unfoldable pub window_of : VadDetector → List Float
window_of d = take d.kept.rules.lengths.frame_length d.window

unfoldable pub carried_of : VadDetector → List Float
carried_of d = take d.kept.stream.carry_len d.carry

unfoldable pub held_of : VadDetector → List Float
held_of d = take d.kept.desk.held d.warmup

-- ---- 'its settings fail 1 to 14 or a derived number it keeps isn't theirs'

-- 14: 'an entry is not in [0,1], or the rise weight is not in [0.5,1]'
unfoldable pub weights_in : List Float → Float → Bool
weights_in window rise = all_within zero32 window one32 && within half32 rise one32

unfoldable pub same_lengths : Lengths → Lengths → Bool
same_lengths l m =
    eqb l.frame_length m.frame_length
    && eqb l.hop_length m.hop_length
    && eqb l.warmup_frames m.warmup_frames
    && eqb l.padding_samples m.padding_samples

-- the window kept has the frame's length by its making, so of 14 its entries are left
unfoldable pub settings_sound : Rules → List Float → Bool
settings_sound r window =
    eqb (refusal_of r.config) 0
    && same_lengths r.lengths (lengths_of r.config)
    && weights_in (take r.lengths.frame_length window) r.speech_floor_rise

-- ---- 'the carry is a frame long or longer; carry start plus carry differs from samples received; a carried value isn't finite or exceeds 131,072; the last sample isn't finite or exceeds 65,536'
unfoldable pub carry_sound : ℕ → List Float → Stream → Bool
carry_sound frame carry s =
    ltb s.carry_len frame
    && eqb (s.carry_start + s.carry_len) s.processed_samples
    && all_within (neg loudest32) (take s.carry_len carry) loudest32
    && in_domain s.pre_emphasis_prev

-- ---- 'the noise floor isn't finite or is below `energy_floor`; received exceeds 2^40; last segment end exceeds received; talk total exceeds last segment end; row count exceeds received'
unfoldable pub track_sound : Float → ℕ → Track → Bool
track_sound least received t =
    finite t.noise_floor
    && not (lt t.noise_floor least)
    && received_in received
    && leb t.last_segment_end received
    && leb t.talk_samples t.last_segment_end
    && leb t.rows_reported received

-- ---- 'While warming: held frames reach the warm-up count, held × hop differs from carry start, a held energy isn't in [0, 131,072], or a segment is open'
unfoldable pub is_closed : Option ActiveSegmentState → Bool
is_closed None = true
is_closed (Some s) = false

unfoldable pub held_sound : Lengths → List Float → ℕ → Desk → Bool
held_sound l warmup start d =
    ltb d.held l.warmup_frames
    && eqb (d.held * l.hop_length) start
    && all_within zero32 (take d.held warmup) loudest32
    && is_closed d.track.active_segment

-- ---- 'With a segment open: its start is below the last segment end or above received (equal is sound), its last loud end exceeds received, loud count is 0 or above received, score above 1,024 × loud count, energy total not in [0, 2^60], silence run above hangover'
unfoldable pub segment_sound : ℕ → ℕ → ℕ → ActiveSegmentState → Bool
segment_sound hangover received last s =
    leb last s.start_sample
    && leb s.start_sample received
    && leb s.last_end_sample received
    && ltb 0 s.loud_frames
    && leb s.loud_frames received
    && leb s.score_total (1024 * s.loud_frames)
    && within zero32 s.energy_sum total32
    && leb s.silence_run hangover

unfoldable pub active_sound : ℕ → ℕ → ℕ → Option ActiveSegmentState → Bool
active_sound hangover received last None = true
active_sound hangover received last (Some s) = segment_sound hangover received last s

-- ---- 'A state is malformed when' one of these fails
unfoldable pub sound_of : VadDetector → Bool
sound_of d =
    let r = d.kept.rules in
    let s = d.kept.stream in
    let t = d.kept.desk.track in
    settings_sound r d.window
    && carry_sound r.lengths.frame_length d.carry s
    && track_sound r.config.energy_floor s.processed_samples t
    && (not d.kept.desk.warming || held_sound r.lengths d.warmup s.carry_start d.kept.desk)
    && active_sound r.config.hangover_frames s.processed_samples t.last_segment_end t.active_segment
