-- What a sound state is, part by part. Assumes nothing.
use Rattle.std.specs.Prelude.{None, Option, Some}
use mathlib.Core.Path.{◌≡◌, refl, sym, ap, ◌∙◌}
use mathlib.Core.Bool.{Bool, true, false, not, ◌&&◌, ◌||◌, true≢false}
use mathlib.Core.List.{List}
use Prim.Native.Nat.{ℕ, ◌+◌, ◌*◌, ◌≤◌, ◌<◌}
use native.Mathlib.Omega.{arith}
use borrow.Author.Tests.{not-true, lt-ltb, ltb-true, le-leb, leb-true, eq-eqb, eqb-true}
use lib.Dec.{leb, ltb, eqb}
use lib.ListN.{take}
use lib.Ieee.{Float, lt, neg}
use lib.Ieee.Scale.{finite}
use Rattle.lists.proofs.Tests.{both}
use Rattle.ranges.specs.Ranges.{within, all_within, in_domain}
use Rattle.float.specs.Numbers.{zero32}
use Rattle.vad_config.specs.Domain.{received_in}
use Rattle.vad_config.specs.Settings.{refusal_of, lengths_of}
use Rattle.vad_config.specs.declared.Lengths.{Lengths}
use Rattle.vad_config.proofs.Laws.{accepted, lengths_are}
use Rattle.vad_config.proofs.Laws as settled
use Rattle.vad_segments.specs.Rooms.{LengthsWithin, ActiveWithin, Within, positions_first, counts_first}
use Rattle.vad_segments.specs.declared.Rules.{Rules}
use Rattle.vad_segments.specs.declared.ActiveSegmentState.{ActiveSegmentState}
use Rattle.vad_segments.specs.declared.Track.{Track}
use Rattle.ranges.specs.Sizes.{frame_most, warmup_most, received_most}
use Rattle.vad_state.specs.State.{loudest32, total32, window_of, carried_of, held_of, weights_in, same_lengths, settings_sound, carry_sound, track_sound, is_closed, held_sound, segment_sound, active_sound, sound_of}
use Rattle.vad_state.specs.declared.Stream.{Stream}
use Rattle.vad_state.specs.declared.Desk.{Desk}
use Rattle.vad_state.specs.declared.VadDetector.{VadDetector}

-- 'With a segment open'
pub record SegmentIn (hangover received last : ℕ) (s : ActiveSegmentState) : Type 0 where
  pub after : last ≤ s.start_sample
  pub start : s.start_sample ≤ received
  pub loud_end : s.last_end_sample ≤ received
  pub some : 1 ≤ s.loud_frames
  pub count : s.loud_frames ≤ received
  pub score : s.score_total ≤ 1024 * s.loud_frames
  pub energy : within zero32 s.energy_sum total32 ≡ true
  pub silence : s.silence_run ≤ hangover

abbrev pub ActiveIn : ℕ → ℕ → ℕ → Option ActiveSegmentState → Type 0
ActiveIn hangover received last None = Unit {0}
ActiveIn hangover received last (Some s) = SegmentIn hangover received last s

-- 'While warming'
pub record HeldIn (d : VadDetector) : Type 0 where
  pub few : d.kept.desk.held < d.kept.rules.lengths.warmup_frames
  pub start : d.kept.desk.held * d.kept.rules.lengths.hop_length ≡ d.kept.stream.carry_start
  pub energies : all_within zero32 (held_of d) loudest32 ≡ true
  pub closed : d.kept.desk.track.active_segment ≡ None

pub record Sound (d : VadDetector) : Type 0 where
  pub settings : refusal_of d.kept.rules.config ≡ 0
  pub lengths : d.kept.rules.lengths ≡ lengths_of d.kept.rules.config
  pub handed : weights_in (window_of d) d.kept.rules.speech_floor_rise ≡ true
  pub short : d.kept.stream.carry_len < d.kept.rules.lengths.frame_length
  pub joined : d.kept.stream.carry_start + d.kept.stream.carry_len ≡ d.kept.stream.processed_samples
  pub carried : all_within (neg loudest32) (carried_of d) loudest32 ≡ true
  pub last : in_domain d.kept.stream.pre_emphasis_prev ≡ true
  pub floor_finite : finite d.kept.desk.track.noise_floor ≡ true
  pub floor : lt d.kept.desk.track.noise_floor d.kept.rules.config.energy_floor ≡ false
  pub received : d.kept.stream.processed_samples ≤ received_most
  pub ended : d.kept.desk.track.last_segment_end ≤ d.kept.stream.processed_samples
  pub talk : d.kept.desk.track.talk_samples ≤ d.kept.desk.track.last_segment_end
  pub rows : d.kept.desk.track.rows_reported ≤ d.kept.stream.processed_samples
  pub held : d.kept.desk.warming ≡ true → HeldIn d
  pub active : ActiveIn d.kept.rules.config.hangover_frames d.kept.stream.processed_samples d.kept.desk.track.last_segment_end d.kept.desk.track.active_segment

-- ---- each test, in its parts and whole
made : ℕ → ℕ → ℕ → ℕ → Lengths
made frame hop warmup padding = record { frame_length = frame; hop_length = hop; warmup_frames = warmup; padding_samples = padding }

pub same_parts : (l m : Lengths) → same_lengths l m ≡ true → l ≡ m
unfolding same_lengths made
same_parts l m h =
    let frame = eqb l.frame_length m.frame_length in
    let hop = eqb l.hop_length m.hop_length in
    let warmup = eqb l.warmup_frames m.warmup_frames in
    let t = both (frame && hop && warmup) (eqb l.padding_samples m.padding_samples) h in
    let u = both (frame && hop) warmup t.0 in
    let v = both frame hop u.0 in
    alike (eqb-true _ _ v.0) (eqb-true _ _ v.1) (eqb-true _ _ u.1) (eqb-true _ _ t.1)
  where
    alike : {a b c e f g h k : ℕ} → a ≡ b → c ≡ e → f ≡ g → h ≡ k → made a c f h ≡ made b e g k
    alike p q r s = rw (p, q, r, s)

pub same_whole : (l : Lengths) → same_lengths l l ≡ true
unfolding same_lengths
same_whole l = rw (eq-eqb l.frame_length _ refl, eq-eqb l.hop_length _ refl, eq-eqb l.warmup_frames _ refl, eq-eqb l.padding_samples _ refl)

pub settings_parts : (r : Rules) (window : List Float) → settings_sound r window ≡ true
    → (refusal_of r.config ≡ 0) × (r.lengths ≡ lengths_of r.config) × (weights_in (take r.lengths.frame_length window) r.speech_floor_rise ≡ true)
unfolding settings_sound
settings_parts r window h =
    let t = both (eqb (refusal_of r.config) 0 && same_lengths r.lengths (lengths_of r.config)) (weights_in (take r.lengths.frame_length window) r.speech_floor_rise) h in
    let u = both (eqb (refusal_of r.config) 0) (same_lengths r.lengths (lengths_of r.config)) t.0 in
    (eqb-true _ _ u.0, same_parts _ _ u.1, t.1)

pub settings_whole : (r : Rules) (window : List Float) → refusal_of r.config ≡ 0 → r.lengths ≡ lengths_of r.config → weights_in (take r.lengths.frame_length window) r.speech_floor_rise ≡ true
    → settings_sound r window ≡ true
unfolding settings_sound
settings_whole r window z l w = rw (eq-eqb _ _ z, w, ap (λ m. same_lengths r.lengths m) (sym l) ∙ same_whole r.lengths)

pub carry_parts : (frame : ℕ) (carry : List Float) (s : Stream) → carry_sound frame carry s ≡ true
    → (s.carry_len < frame) × (s.carry_start + s.carry_len ≡ s.processed_samples) × (all_within (neg loudest32) (take s.carry_len carry) loudest32 ≡ true) × (in_domain s.pre_emphasis_prev ≡ true)
unfolding carry_sound
carry_parts frame carry s h =
    let short = ltb s.carry_len frame in
    let joined = eqb (s.carry_start + s.carry_len) s.processed_samples in
    let carried = all_within (neg loudest32) (take s.carry_len carry) loudest32 in
    let t = both (short && joined && carried) (in_domain s.pre_emphasis_prev) h in
    let u = both (short && joined) carried t.0 in
    let v = both short joined u.0 in
    (ltb-true _ _ v.0, eqb-true _ _ v.1, u.1, t.1)

pub carry_whole : (frame : ℕ) (carry : List Float) (s : Stream) → s.carry_len < frame → s.carry_start + s.carry_len ≡ s.processed_samples → all_within (neg loudest32) (take s.carry_len carry) loudest32 ≡ true → in_domain s.pre_emphasis_prev ≡ true
    → carry_sound frame carry s ≡ true
unfolding carry_sound
carry_whole frame carry s t j c l = rw (lt-ltb _ _ t, eq-eqb _ _ j, c, l)

pub track_parts : (least : Float) (received : ℕ) (t : Track) → track_sound least received t ≡ true
    → (finite t.noise_floor ≡ true) × (lt t.noise_floor least ≡ false) × (received ≤ received_most) × (t.last_segment_end ≤ received) × (t.talk_samples ≤ t.last_segment_end) × (t.rows_reported ≤ received)
unfolding track_sound received_in
track_parts least received t h =
    let f = finite t.noise_floor in
    let n = not (lt t.noise_floor least) in
    let r = leb received received_most in
    let e = leb t.last_segment_end received in
    let k = leb t.talk_samples t.last_segment_end in
    let a = both (f && n && r && e && k) (leb t.rows_reported received) h in
    let b = both (f && n && r && e) k a.0 in
    let c = both (f && n && r) e b.0 in
    let g = both (f && n) r c.0 in
    let i = both f n g.0 in
    (i.0, not-true _ i.1, leb-true _ _ g.1, leb-true _ _ c.1, leb-true _ _ b.1, leb-true _ _ a.1)

pub track_whole : (least : Float) (received : ℕ) (t : Track) → finite t.noise_floor ≡ true → lt t.noise_floor least ≡ false → received ≤ received_most → t.last_segment_end ≤ received → t.talk_samples ≤ t.last_segment_end → t.rows_reported ≤ received
    → track_sound least received t ≡ true
unfolding track_sound received_in
track_whole least received t f n r e k o = rw (f, n, le-leb _ _ r, le-leb _ _ e, le-leb _ _ k, le-leb _ _ o)

pub closed_parts : (a : Option ActiveSegmentState) → is_closed a ≡ true → a ≡ None
unfolding is_closed
closed_parts None h = refl
closed_parts (Some s) h = absurd (true≢false (sym h))

pub closed_whole : (a : Option ActiveSegmentState) → a ≡ None → is_closed a ≡ true
unfolding is_closed
closed_whole a h = rw h

pub held_parts : (l : Lengths) (warmup : List Float) (start : ℕ) (d : Desk) → held_sound l warmup start d ≡ true
    → (d.held < l.warmup_frames) × (d.held * l.hop_length ≡ start) × (all_within zero32 (take d.held warmup) loudest32 ≡ true) × (d.track.active_segment ≡ None)
unfolding held_sound
held_parts l warmup start d h =
    let few = ltb d.held l.warmup_frames in
    let at = eqb (d.held * l.hop_length) start in
    let energies = all_within zero32 (take d.held warmup) loudest32 in
    let t = both (few && at && energies) (is_closed d.track.active_segment) h in
    let u = both (few && at) energies t.0 in
    let v = both few at u.0 in
    (ltb-true _ _ v.0, eqb-true _ _ v.1, u.1, closed_parts d.track.active_segment t.1)

pub held_whole : (l : Lengths) (warmup : List Float) (start : ℕ) (d : Desk) → d.held < l.warmup_frames → d.held * l.hop_length ≡ start → all_within zero32 (take d.held warmup) loudest32 ≡ true → d.track.active_segment ≡ None
    → held_sound l warmup start d ≡ true
unfolding held_sound
held_whole l warmup start d f s e c = rw (lt-ltb _ _ f, eq-eqb _ _ s, e, closed_whole d.track.active_segment c)

pub segment_parts : (hangover received last : ℕ) (s : ActiveSegmentState) → segment_sound hangover received last s ≡ true → SegmentIn hangover received last s
unfolding segment_sound
segment_parts hangover received last s h =
    let a = leb last s.start_sample in
    let b = leb s.start_sample received in
    let c = leb s.last_end_sample received in
    let e = ltb 0 s.loud_frames in
    let f = leb s.loud_frames received in
    let g = leb s.score_total (1024 * s.loud_frames) in
    let w = within zero32 s.energy_sum total32 in
    let t = both (a && b && c && e && f && g && w) (leb s.silence_run hangover) h in
    let u = both (a && b && c && e && f && g) w t.0 in
    let v = both (a && b && c && e && f) g u.0 in
    let x = both (a && b && c && e) f v.0 in
    let y = both (a && b && c) e x.0 in
    let z = both (a && b) c y.0 in
    let o = both a b z.0 in
    record {
      after = leb-true _ _ o.0;
      start = leb-true _ _ o.1;
      loud_end = leb-true _ _ z.1;
      some = ltb-true _ _ y.1;
      count = leb-true _ _ x.1;
      score = leb-true _ _ v.1;
      energy = u.1;
      silence = leb-true _ _ t.1;
    }

pub segment_whole : (hangover received last : ℕ) (s : ActiveSegmentState) → SegmentIn hangover received last s → segment_sound hangover received last s ≡ true
unfolding segment_sound
segment_whole hangover received last s p =
    rw (le-leb _ _ p.after, le-leb _ _ p.start, le-leb _ _ p.loud_end, lt-ltb _ _ p.some, le-leb _ _ p.count, le-leb _ _ p.score, p.energy, le-leb _ _ p.silence)

pub active_parts : (hangover received last : ℕ) (a : Option ActiveSegmentState) → active_sound hangover received last a ≡ true → ActiveIn hangover received last a
unfolding active_sound
active_parts hangover received last None h = tt
active_parts hangover received last (Some s) h = segment_parts hangover received last s h

pub active_whole : (hangover received last : ℕ) (a : Option ActiveSegmentState) → ActiveIn hangover received last a → active_sound hangover received last a ≡ true
unfolding active_sound
active_whole hangover received last None p = refl
active_whole hangover received last (Some s) p = segment_whole hangover received last s p

-- ---- a test that is asked only while warming
pub asked : (w t : Bool) → (not w || t) ≡ true → w ≡ true → t ≡ true
asked true t h e = h
asked false t h e = absurd (true≢false (sym e))

pub unasked : (w t : Bool) → (w ≡ true → t ≡ true) → (not w || t) ≡ true
unasked true t h = h refl
unasked false t h = refl

-- ---- the whole state
pub parts : (d : VadDetector) → sound_of d ≡ true → Sound d
unfolding sound_of window_of carried_of held_of
parts d h =
    let r = d.kept.rules in
    let s = d.kept.stream in
    let k = d.kept.desk in
    let received = s.processed_samples in
    let settings = settings_sound r d.window in
    let carry = carry_sound r.lengths.frame_length d.carry s in
    let track = track_sound r.config.energy_floor received k.track in
    let warm = held_sound r.lengths d.warmup s.carry_start k in
    let active = active_sound r.config.hangover_frames received k.track.last_segment_end k.track.active_segment in
    let t = both (settings && carry && track && (not k.warming || warm)) active h in
    let u = both (settings && carry && track) (not k.warming || warm) t.0 in
    let v = both (settings && carry) track u.0 in
    let w = both settings carry v.0 in
    let c = settings_parts r d.window w.0 in
    let p = carry_parts r.lengths.frame_length d.carry s w.1 in
    let o = track_parts r.config.energy_floor received k.track v.1 in
    record {
      settings = c.0;
      lengths = c.1;
      handed = c.2;
      short = p.0;
      joined = p.1;
      carried = p.2;
      last = p.3;
      floor_finite = o.0;
      floor = o.1;
      received = o.2;
      ended = o.3;
      talk = o.4;
      rows = o.5;
      held = λ on. (let q = held_parts r.lengths d.warmup s.carry_start k (asked k.warming warm u.1 on) in record { few = q.0; start = q.1; energies = q.2; closed = q.3 });
      active = active_parts r.config.hangover_frames received k.track.last_segment_end k.track.active_segment t.1;
    }

pub whole : (d : VadDetector) → Sound d → sound_of d ≡ true
unfolding sound_of window_of carried_of held_of
whole d s =
    let r = d.kept.rules in
    let k = d.kept.stream in
    let t = d.kept.desk.track in
    rw (
      settings_whole r d.window s.settings s.lengths s.handed,
      carry_whole r.lengths.frame_length d.carry k s.short s.joined s.carried s.last,
      track_whole r.config.energy_floor k.processed_samples t s.floor_finite s.floor s.received s.ended s.talk s.rows,
      unasked d.kept.desk.warming (held_sound r.lengths d.warmup k.carry_start d.kept.desk)
          (λ on. held_whole r.lengths d.warmup k.carry_start d.kept.desk (s.held on).few (s.held on).start (s.held on).energies (s.held on).closed),
      active_whole r.config.hangover_frames k.processed_samples t.last_segment_end t.active_segment s.active,
    )

-- ---- what follows: the lengths' bounds, and that no sum of a call passes 2^64
active_within : (hangover received last : ℕ) (a : Option ActiveSegmentState) → hangover ≤ 10000 → received ≤ received_most → ActiveIn hangover received last a → ActiveWithin positions_first counts_first a
active_within hangover received last None h r p = tt
active_within hangover received last (Some s) h r p = (omega (arith, p.start), omega (arith, p.loud_end), omega (arith, p.score, p.count), omega (arith, p.count), omega (arith, p.silence))

module _ (d : VadDetector) (s : Sound d) where
  pub frame_low : 1 ≤ d.kept.rules.lengths.frame_length
  frame_low = rw (s.lengths, (lengths_are d.kept.rules.config).0) (settled.frame_low d.kept.rules.config s.settings)

  pub frame_high : d.kept.rules.lengths.frame_length ≤ frame_most
  frame_high = rw (s.lengths, (lengths_are d.kept.rules.config).0) (settled.frame_high d.kept.rules.config s.settings)

  pub hop_low : 8 ≤ d.kept.rules.lengths.hop_length
  hop_low = rw (s.lengths, (lengths_are d.kept.rules.config).1) (settled.hop_low d.kept.rules.config s.settings)

  pub hop_high : d.kept.rules.lengths.hop_length ≤ d.kept.rules.lengths.frame_length
  hop_high = rw (s.lengths, (lengths_are d.kept.rules.config).0, (lengths_are d.kept.rules.config).1) (settled.hop_high d.kept.rules.config s.settings)

  pub warmup_high : d.kept.rules.lengths.warmup_frames ≤ warmup_most
  warmup_high = rw (s.lengths, (lengths_are d.kept.rules.config).2) (settled.warmup_high d.kept.rules.config s.settings)

  pub padding_high : d.kept.rules.lengths.padding_samples ≤ 48000
  padding_high = rw (s.lengths, (lengths_are d.kept.rules.config).3) (settled.padding_high d.kept.rules.config s.settings)

  pub lengths_within : LengthsWithin d.kept.rules.lengths
  lengths_within = (omega (arith, frame_high), omega (arith, hop_high, frame_high), omega (arith, padding_high))

  pub track_within : Within positions_first counts_first d.kept.desk.track
  track_within = (
    omega (arith, s.received, s.ended),
    omega (arith, s.received, s.rows),
    omega (arith, s.received, s.ended, s.talk),
    active_within d.kept.rules.config.hangover_frames d.kept.stream.processed_samples d.kept.desk.track.last_segment_end d.kept.desk.track.active_segment (accepted d.kept.rules.config s.settings).hangover_high s.received s.active,
  )
