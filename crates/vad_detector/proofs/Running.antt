-- What holds of every state of a run: more than document 01's list, which a call need not keep by itself. Assumes nothing.
use Rattle.std.specs.Prelude.{None}
use mathlib.Core.Path.{◌≡◌, refl, sym, ap, ◌∙◌, subst}
use mathlib.Core.Bool.{Bool, true, false, not, ◌&&◌, cond, true≢false}
use mathlib.Core.List.{List, []}
use Prim.Native.Nat.{ℕ, suc, ◌+◌, ◌-◌, ◌*◌, ◌≤◌, ◌<◌}
use native.Mathlib.Nat.{le_refl, add-mul, suc-mul, mul-le-mul_left, mul-le-mul_right, zero-mul}
use native.Mathlib.Decide.{dec_lt}
use native.Mathlib.Omega.{arith}
use borrow.Author.Tests.{ltb-true, leb-true}
use lib.Dec.{T, lit≤, eqb, ltb, eqb→eq}
use lib.IntN.{ℤ}
use lib.ListN.{length, length-append, length-drop}
use lib.Ieee.{Float, nan, inf, fin, of_bits, up, down, le, lt, eq}
use lib.Ieee.Fits.{and_l, and_r}
use lib.Ieee.Bits.{is_true}
use Rattle.lists.specs.Every.{Every}
use Rattle.lists.proofs.Every.{every_append, every_drop, every_map, every_both}
use Rattle.ranges.specs.Ranges.{within, all_within}
use Rattle.ranges.proofs.Laws.{all_within_lem}
use Rattle.float.proofs.Words.{T_of}
use Rattle.float.proofs.Bounds.{Mag, low_of_le}
use Rattle.float.specs.Numbers.{zero32, one32}
use Rattle.vad_config.specs.Settings.{refusal_of, lengths_of, frame_of, hop_of}
use Rattle.vad_config.specs.declared.Lengths.{Lengths}
use Rattle.vad_config.proofs.Laws.{Accepted, accepted, lengths_are, frame_high, hop_low, hop_high}
use Rattle.vad_config.proofs.Bounds.{unit_mag}
use Rattle.vad_frames.specs.Emphasis.{coefficient_of, emphasized}
use Rattle.vad_frames.specs.Grid.{taken, frames_of, energies_of, framed_of, carry_of, consumed_of}
use Rattle.vad_frames.proofs.Laws.{frame_starts, frames_within, frames_le, energies_length, consumed_le, carry_flushed, whole_consumed, carry_short}
use Rattle.vad_frames.proofs.Bounds.{emphasized_mag, last_mag, energies_low, energies_fit}
use Rattle.vad_segments.specs.Loudness.{seed_of}
use Rattle.vad_segments.specs.Judging.{floored_to, frames_at, call_track, ended_of, track_after}
use Rattle.vad_segments.specs.Positions.{holds_of}
use Rattle.vad_segments.proofs.Rooms.{FrameWithin}
use Rattle.vad_segments.specs.declared.Track.{Track}
use Rattle.lists.proofs.Tests.{either}
use Rattle.vad_segments.proofs.Ordered.{TrackOrdered, later_limit, call_ordered, call_rows_talk, frames_start, frames_energies, frames_length, frames_within as frames-inside}
use Rattle.vad_segments.proofs.Counts.{ActiveCounted, count_in, call_counted, call_count_grows}
use Rattle.vad_segments.proofs.Floor.{FloorRules, FloorHeld, EnergyIn, ActiveHeld, floor_kept_call, energy_kept_call, seed_held}
use Rattle.vad_classify.specs.Classify.{classified_of}
use Rattle.ranges.specs.Sizes.{frame_most, warmup_most, received_most}
use Rattle.vad_state.specs.State.{window_of, carried_of, held_of, weights_in, half32}
use Rattle.vad_call.proofs.Calls.{values_count}
use Rattle.vad_call.specs.Calls.{values_of, waiting_of, measured_from, measured_of, consumed_from, carry_after, stream_after, holding_with, holding_of, held_after, due_of, seeded_of, grid_start, frames_due, verdict_of, desk_after, joined_of, advanced_of}
use Rattle.vad_state.specs.declared.VadDetector.{VadDetector}
use Rattle.vad_state.specs.declared.Stream.{Stream}
use Rattle.vad_state.specs.declared.Desk.{Desk}
use Rattle.vad_state.proofs.Fills.{filled_take}

-- ---- what holds

-- while warming: the frames held are whole, and lie from the stream's start up to the carry
pub record Holding (d : VadDetector) : Type 0 where
  pub few : d.kept.desk.held < d.kept.rules.lengths.warmup_frames
  pub start : d.kept.desk.held * d.kept.rules.lengths.hop_length ≡ d.kept.stream.carry_start
  pub count : length (held_of d) ≡ d.kept.desk.held
  pub energies : Every EnergyIn (held_of d)
  pub closed : d.kept.desk.track.active_segment ≡ None
  -- 01's list lacks this: the last frame held ends in the sound received, so its end is never cut there
  pub whole : 1 ≤ d.kept.desk.held → d.kept.rules.lengths.frame_length ≤ d.kept.stream.carry_len + d.kept.rules.lengths.hop_length

pub record Running (d : VadDetector) : Type 0 where
  pub settings : refusal_of d.kept.rules.config ≡ 0
  pub lengths : d.kept.rules.lengths ≡ lengths_of d.kept.rules.config
  pub handed : weights_in (window_of d) d.kept.rules.speech_floor_rise ≡ true
  pub wide : length (window_of d) ≡ d.kept.rules.lengths.frame_length
  pub floors : FloorRules d.kept.rules
  pub carry_is : length (carried_of d) ≡ d.kept.stream.carry_len
  pub short : d.kept.stream.carry_len < d.kept.rules.lengths.frame_length
  pub joined : d.kept.stream.carry_start + d.kept.stream.carry_len ≡ d.kept.stream.processed_samples
  pub carried : Every (λ y. Mag y 131072 1) (carried_of d)
  pub last : Mag d.kept.stream.pre_emphasis_prev 65536 1
  pub received : d.kept.stream.processed_samples ≤ received_most
  pub ordered : TrackOrdered d.kept.stream.processed_samples d.kept.desk.track
  -- 01's list lacks this: it has rows at most the samples received, which a row of one sample can pass
  pub rows_talk : d.kept.desk.track.rows_reported ≤ d.kept.desk.track.talk_samples
  pub floor : FloorHeld d.kept.rules.config.energy_floor d.kept.desk.track.noise_floor
  pub energy : ActiveHeld d.kept.desk.track.active_segment
  pub counted : ActiveCounted d.kept.rules.config.hangover_frames d.kept.desk.track.active_segment
  -- each loud frame has used up a sample at least
  pub loud : count_in d.kept.desk.track.active_segment ≤ d.kept.stream.carry_start
  pub held : d.kept.desk.warming ≡ true → Holding d

-- ---- what is handed in

-- [0,1], compared as floats: −0 is in it
zero_size : (m : ℕ) (e : ℤ) → T (le zero32 (fin true m e)) → m * up e ≡ 0
unfolding le lt eq of_bits
zero_size m e l = let z = eqb→eq (0 * 1 * down e) (m * up e * 1) (and_l (eqb (0 * 1 * down e) (m * up e * 1)) (eqb (0 * 1 * down e) 0) l) in omega arith

unit_weight : (w : Float) → within zero32 w one32 ≡ true → Mag w 1 1
unit_weight w h = go w (and_l (le zero32 w) (le w one32) (T_of h)) (and_r (le zero32 w) (le w one32) (T_of h))
  where
    go : (w : Float) → T (le zero32 w) → T (le w one32) → Mag w 1 1
    go nan l u = unfold le lt eq of_bits in l
    go (inf true) l u = unfold le lt eq of_bits in l
    go (inf false) l u = unfold le lt eq of_bits in u
    go (fin true m e) l u = omega (arith, zero_size m e l)
    go (fin false m e) l u = low_of_le (fin false m e) one32 1 1 refl (unfold of_bits in (refl, refl)) u

pub handed_parts : (window : List Float) (rise : Float) → weights_in window rise ≡ true → Every (λ w. Mag w 1 1) window × T (le half32 rise) × T (le rise one32)
unfolding weights_in
handed_parts window rise h =
    let t = T_of h in
    let r = and_r (all_within zero32 window one32) (within half32 rise one32) t in (
      every_map _ _ unit_weight window (all_within_lem zero32 one32 window (is_true (all_within zero32 window one32) (and_l (all_within zero32 window one32) (within half32 rise one32) t))),
      and_l (le half32 rise) (le rise one32) r,
      and_r (le half32 rise) (le rise one32) r,
    )

-- 'a is 0 when absent'
coefficient_mag : (present : Bool) (a : Float) → (present ≡ true → Mag a 1 1) → Mag (coefficient_of present a) 1 1
unfolding coefficient_of of_bits
coefficient_mag true a h = h refl
coefficient_mag false a h = lit≤ tt

-- ---- the lengths
module _ (d : VadDetector) (r : Running d) where
  pub running_accepted : Accepted d.kept.rules.config
  running_accepted = accepted d.kept.rules.config r.settings

  frame_is : d.kept.rules.lengths.frame_length ≡ frame_of d.kept.rules.config
  frame_is = ap (λ (l : Lengths). l.frame_length) r.lengths ∙ (lengths_are d.kept.rules.config).0

  hop_is : d.kept.rules.lengths.hop_length ≡ hop_of d.kept.rules.config
  hop_is = ap (λ (l : Lengths). l.hop_length) r.lengths ∙ (lengths_are d.kept.rules.config).1

  pub hop_least : 8 ≤ d.kept.rules.lengths.hop_length
  hop_least = omega (arith, hop_is, hop_low d.kept.rules.config r.settings)

  pub hop_within : d.kept.rules.lengths.hop_length ≤ length (window_of d)
  hop_within = omega (arith, hop_is, frame_is, r.wide, hop_high d.kept.rules.config r.settings)

  pub window_least : 1 ≤ length (window_of d)
  window_least = omega (arith, hop_least, hop_within)

  pub window_most : length (window_of d) ≤ frame_most
  window_most = omega (arith, frame_is, r.wide, frame_high d.kept.rules.config r.settings)

  -- a frame held is whole: its end is not cut where the sound received ends
  pub held_whole : Holding d → (k : ℕ) → k < d.kept.desk.held → k * d.kept.rules.lengths.hop_length + d.kept.rules.lengths.frame_length ≤ d.kept.stream.processed_samples
  held_whole h k l =
      let n = d.kept.rules.lengths.hop_length in
      let next : suc k * n ≤ d.kept.desk.held * n = mul-le-mul_right n l in
      omega (arith, next, suc-mul k n, h.start, h.whole (omega arith), r.joined)

-- ---- the frames of a call
module _ (finish : Bool) (d : VadDetector) (xs : List Float) (r : Running d) where
  abbrev hop : ℕ
  hop = d.kept.rules.lengths.hop_length

  abbrev values : List Float
  values = values_of d xs

  -- as many frames as the call measures
  abbrev fresh : ℕ
  fresh = length (frames_of finish (length (window_of d)) hop values)

  abbrev consumed : ℕ
  consumed = consumed_from finish d values

  abbrev received : ℕ
  received = d.kept.stream.processed_samples + length xs

  pub values_length : length (values_of d xs) ≡ d.kept.stream.carry_len + length xs
  values_length = values_count d xs r.carry_is

  -- from the carry's start they reach as far as the sound received
  pub values_reach : d.kept.stream.carry_start + length (values_of d xs) ≡ d.kept.stream.processed_samples + length xs
  values_reach = omega (arith, values_length, r.joined)

  pub measured_count : length (measured_of finish d xs) ≡ length (waiting_of d) + length (frames_of finish (length (window_of d)) d.kept.rules.lengths.hop_length (values_of d xs))
  unfolding measured_of measured_from
  measured_count = omega (arith, length-append (waiting_of d) (energies_of finish (window_of d) hop values), energies_length finish (window_of d) hop values)

  -- the frames held lie before the carry, one hop after the other, so that those measured begin at the carry
  pub waiting_grid : grid_start d.kept + length (waiting_of d) * d.kept.rules.lengths.hop_length ≡ d.kept.stream.carry_start
  unfolding grid_start waiting_of
  waiting_grid = go d.kept.desk.warming r.held
    where
      go : (b : Bool) → (b ≡ true → Holding d) → cond b 0 d.kept.stream.carry_start + length (cond b (held_of d) []) * hop ≡ d.kept.stream.carry_start
      go true f = ap (λ (n : ℕ). 0 + n * hop) (f refl).count ∙ omega (arith, (f refl).start)
      go false f = omega arith

  pub measured_grid : grid_start d.kept + length (measured_of finish d xs) * d.kept.rules.lengths.hop_length
      ≡ d.kept.stream.carry_start + length (frames_of finish (length (window_of d)) d.kept.rules.lengths.hop_length (values_of d xs)) * d.kept.rules.lengths.hop_length
  measured_grid = ap (λ (n : ℕ). grid_start d.kept + n * hop) measured_count ∙ omega (arith, add-mul (length (waiting_of d)) fresh hop, waiting_grid)

  -- each frame judged lies in the sound received
  pub frames_lie : Every (FrameWithin (d.kept.stream.processed_samples + length xs)) (frames_due d.kept (d.kept.stream.processed_samples + length xs) (due_of finish d.kept (measured_of finish d xs)))
  unfolding frames_due due_of
  frames_lie = go (holding_of finish d.kept (measured_of finish d xs))
    where
      es : List Float
      es = measured_of finish d xs

      go : (b : Bool) → Every (FrameWithin received) (frames_at d.kept.rules.lengths received (grid_start d.kept) (cond b [] es))
      go true = frames-inside d.kept.rules.lengths received (grid_start d.kept) [] (omega (arith, waiting_grid, values_reach))
      go false =
          frames-inside d.kept.rules.lengths received (grid_start d.kept) es
          (omega (arith, measured_grid, values_reach, frames_within finish (length (window_of d)) hop (omega (arith, hop_least d r)) values))

  -- ---- what is used up, and what stays
  pub consumed_most : consumed_from finish d (values_of d xs) ≤ length (values_of d xs)
  unfolding consumed_from
  consumed_most = consumed_le finish (window_of d) hop values

  -- a frame uses up a sample at least
  consumed_counts : fresh ≤ consumed
  unfolding consumed_from
  consumed_counts = go finish
    where
      go : (b : Bool) → length (frames_of b (length (window_of d)) hop values) ≤ (framed_of b (window_of d) hop values).consumed
      go true = unfold framed_of consumed_of in frames_le true (length (window_of d)) hop (omega (arith, hop_least d r)) values
      go false =
          let n = length (frames_of false (length (window_of d)) hop values) in
          let e : (framed_of false (window_of d) hop values).consumed ≡ n * hop = unfold framed_of in whole_consumed (window_of d) hop values (omega (arith, hop_least d r)) (hop_within d r) in
          let m : n * 1 ≤ n * hop = mul-le-mul_left n (omega (arith, hop_least d r)) in
          omega arith

  consumed_whole : finish ≡ false → consumed ≡ fresh * hop
  unfolding consumed_from framed_of
  consumed_whole e = go finish e
    where
      go : (b : Bool) → b ≡ false → (framed_of b (window_of d) hop values).consumed ≡ length (frames_of b (length (window_of d)) hop values) * hop
      go true f = absurd (true≢false f)
      go false f = whole_consumed (window_of d) hop values (omega (arith, hop_least d r)) (hop_within d r)

  pub carry_left : length (carry_after finish d xs) ≡ length (values_of d xs) - consumed_from finish d (values_of d xs)
  unfolding carry_after
  carry_left = length-drop consumed values

  carry_short_of : length (carry_after finish d xs) < d.kept.rules.lengths.frame_length
  unfolding carry_after consumed_from carry_of
  carry_short_of = omega (arith, r.wide, go finish)
    where
      go : (b : Bool) → length (carry_of b (window_of d) hop values) < length (window_of d)
      go true = rw (carry_flushed (window_of d) hop values) (window_least d r)
      go false = carry_short (window_of d) hop values (omega (arith, hop_least d r)) (hop_within d r)

  -- a detect that measured a frame leaves a frame's length less a hop, or more
  carry_whole : finish ≡ false → 1 ≤ fresh → d.kept.rules.lengths.frame_length ≤ length (carry_after finish d xs) + hop
  unfolding taken
  carry_whole e l = go finish e l (consumed_whole e)
    where
      go : (b : Bool) → b ≡ false → 1 ≤ length (frames_of b (length (window_of d)) hop values) → consumed ≡ length (frames_of b (length (window_of d)) hop values) * hop
          → d.kept.rules.lengths.frame_length ≤ length (carry_after finish d xs) + hop
      go true f m c = absurd (true≢false f)
      go false f m c =
          let n = length (frames_of false (length (window_of d)) hop values) in
          let s = frame_starts false (length (window_of d)) hop (omega (arith, hop_least d r)) (n - 1) values (omega arith) in
          let room = leb-true (length (window_of d)) (length values - (n - 1) * hop) s.1 in
          let before : n * hop ≡ (n - 1) * hop + hop = ap (λ (k : ℕ). k * hop) (omega arith) ∙ suc-mul (n - 1) hop in
          omega (arith, room, before, c, carry_left, r.wide, s.0)

  waiting_count : Holding d → d.kept.desk.warming ≡ true → length (waiting_of d) ≡ d.kept.desk.held
  unfolding waiting_of held_of
  waiting_count k on = rw on k.count

  -- so the frames held stay whole
  carry_reaches : Holding d → d.kept.desk.warming ≡ true → finish ≡ false → 1 ≤ length (measured_of finish d xs) → d.kept.rules.lengths.frame_length ≤ length (carry_after finish d xs) + hop
  carry_reaches k on e some = elim (dec_lt 0 fresh) [
    | yes l ↦ carry_whole e l
    | no g ↦
        let none : fresh ≡ 0 = omega arith in
        let idle : consumed ≡ 0 = consumed_whole e ∙ ap (λ (n : ℕ). n * hop) none ∙ zero-mul hop in
        omega (arith, k.whole (omega (arith, measured_count, waiting_count k on)), carry_left, values_length)
  ]

-- ---- where frames begin

-- at the stream's start while frames are held, at the carry afterwards
pub grid_zero : (d : VadDetector) → d.kept.desk.warming ≡ true → grid_start d.kept ≡ 0
unfolding grid_start
grid_zero d on = rw on

pub grid_carry : (d : VadDetector) → d.kept.desk.warming ≡ false → grid_start d.kept ≡ d.kept.stream.carry_start
unfolding grid_start
grid_carry d off = rw off

-- frames begin where the grid does, or later
pub frames_from_lem : (d : VadDetector) (received : ℕ) (due : List Float) → Every (λ f. grid_start d.kept ≤ f.start_sample) (frames_due d.kept received due)
unfolding frames_due
frames_from_lem d received due = frames_start d.kept.rules.lengths received (grid_start d.kept) (grid_start d.kept) due (le_refl (grid_start d.kept))

-- ---- the track that a call begins with

-- the seed moves the floor alone
pub seeded_keeps : (d : VadDetector) (due : List Float)
    → ((seeded_of d.kept due).last_segment_end ≡ d.kept.desk.track.last_segment_end) × ((seeded_of d.kept due).rows_reported ≡ d.kept.desk.track.rows_reported)
    × ((seeded_of d.kept due).talk_samples ≡ d.kept.desk.track.talk_samples) × ((seeded_of d.kept due).active_segment ≡ d.kept.desk.track.active_segment)
unfolding seeded_of floored_to
seeded_keeps d due = go d.kept.desk.warming
  where
    t : Track
    t = d.kept.desk.track

    seeded : Track
    seeded = floored_to (seed_of d.kept.rules.config.energy_floor t.noise_floor due) t

    go : (b : Bool) → ((cond b seeded t).last_segment_end ≡ t.last_segment_end) × ((cond b seeded t).rows_reported ≡ t.rows_reported)
        × ((cond b seeded t).talk_samples ≡ t.talk_samples) × ((cond b seeded t).active_segment ≡ t.active_segment)
    go true = (refl, refl, refl, refl)
    go false = (refl, refl, refl, refl)

seeded_at : (n : ℕ) (d : VadDetector) (due : List Float) → TrackOrdered n d.kept.desk.track → TrackOrdered n (seeded_of d.kept due)
unfolding seeded_of floored_to
seeded_at n d due o =
    either (TrackOrdered n) d.kept.desk.warming (floored_to (seed_of d.kept.rules.config.energy_floor d.kept.desk.track.noise_floor due) d.kept.desk.track) d.kept.desk.track (record { ended = o.ended; talk = o.talk; active = o.active }) o

-- the sound received only grows
pub seeded_ordered : (d : VadDetector) (xs due : List Float) → Running d → TrackOrdered (d.kept.stream.processed_samples + length xs) (seeded_of d.kept due)
seeded_ordered d xs due r = later_limit d.kept.stream.processed_samples (d.kept.stream.processed_samples + length xs) (seeded_of d.kept due) (omega arith) (seeded_at d.kept.stream.processed_samples d due r.ordered)

seeded_floor : (d : VadDetector) (due : List Float) → Running d → Every EnergyIn due → FloorHeld d.kept.rules.config.energy_floor (seeded_of d.kept due).noise_floor
unfolding seeded_of floored_to
seeded_floor d due r h = go d.kept.desk.warming
  where
    least : Float
    least = d.kept.rules.config.energy_floor

    seeded : Track
    seeded = floored_to (seed_of least d.kept.desk.track.noise_floor due) d.kept.desk.track

    go : (b : Bool) → FloorHeld least (cond b seeded d.kept.desk.track).noise_floor
    go true = seed_held least d.kept.desk.track.noise_floor due r.floors.least r.floor h
    go false = r.floor

-- ---- held or judged
module _ (finish : Bool) (d : VadDetector) (es : List Float) where
  -- frames are held by a detect while warming, as long as they are fewer than the warm-up's
  pub holding_says : holding_of finish d.kept es ≡ true → (d.kept.desk.warming ≡ true) × (finish ≡ false) × (length es < d.kept.rules.lengths.warmup_frames)
  unfolding holding_of holding_with holds_of
  holding_says = go d.kept.desk.warming finish (ltb (length es) d.kept.rules.lengths.warmup_frames) (ltb-true (length es) d.kept.rules.lengths.warmup_frames)
    where
      go : (w f l : Bool) → (l ≡ true → length es < d.kept.rules.lengths.warmup_frames) → (w && (not f && l)) ≡ true → (w ≡ true) × (f ≡ false) × (length es < d.kept.rules.lengths.warmup_frames)
      go true false true k e = (refl, refl, k refl)
      go true false false k e = absurd (true≢false (sym e))
      go true true l k e = absurd (true≢false (sym e))
      go false f l k e = absurd (true≢false (sym e))

  pub held_all : holding_of finish d.kept es ≡ true → held_after finish d.kept es ≡ es
  unfolding held_after
  held_all e = rw e

  pub due_none : holding_of finish d.kept es ≡ true → due_of finish d.kept es ≡ []
  unfolding due_of
  due_none e = rw e

  pub held_in : (P : Float → Type 0) → Every P es → Every P (held_after finish d.kept es)
  unfolding held_after
  held_in P h = either (Every P) (holding_of finish d.kept es) es [] h tt

  pub due_in_lem : (P : Float → Type 0) → Every P es → Every P (due_of finish d.kept es)
  unfolding due_of
  due_in_lem P h = either (Every P) (holding_of finish d.kept es) [] es tt h

  pub due_most : length (due_of finish d.kept es) ≤ length es
  unfolding due_of
  due_most = either (λ ds. length ds ≤ length es) (holding_of finish d.kept es) [] es (omega arith) (le_refl (length es))

-- a call that only holds frames leaves the segment as it is
pub idle_active : (finish : Bool) (d : VadDetector) (received : ℕ) (due : List Float) → finish ≡ false → due ≡ [] → (verdict_of finish d.kept received due).track.active_segment ≡ d.kept.desk.track.active_segment
unfolding verdict_of classified_of call_track frames_due frames_at track_after ended_of
idle_active finish d received due e z =
    ap (λ (b : Bool). (verdict_of b d.kept received due).track.active_segment) e ∙ ap (λ (ds : List Float). (verdict_of false d.kept received ds).track.active_segment) z ∙ (seeded_keeps d []).3

-- ---- the state that a call leaves
abbrev pub ran_to : Bool → VadDetector → List Float → VadDetector
ran_to finish d xs =
    let es = measured_of finish d xs in
    let held = held_after finish d.kept es in
    let t = (verdict_of finish d.kept (d.kept.stream.processed_samples + length xs) (due_of finish d.kept es)).track in
    advanced_of d (stream_after finish d xs) (carry_after finish d xs) (desk_after (holding_of finish d.kept es) held t) held

-- its arrays are read back
module _ (d : VadDetector) (p : Stream) (carry : List Float) (desk : Desk) (held : List Float) where
  pub advanced_window : length (window_of d) ≡ d.kept.rules.lengths.frame_length → window_of (advanced_of d p carry desk held) ≡ window_of d
  unfolding window_of advanced_of joined_of
  advanced_window e = filled_take frame_most (window_of d) d.kept.rules.lengths.frame_length e

  pub advanced_carry : p.carry_len ≡ length carry → carried_of (advanced_of d p carry desk held) ≡ carry
  unfolding carried_of advanced_of joined_of
  advanced_carry e = filled_take frame_most carry p.carry_len (sym e)

  pub advanced_held : desk.held ≡ length held → held_of (advanced_of d p carry desk held) ≡ held
  unfolding held_of advanced_of joined_of
  advanced_held e = filled_take warmup_most held desk.held (sym e)

-- ---- a call that is not refused
module _ (finish : Bool) (d : VadDetector) (xs : List Float) (r : Running d) (h : Every (λ x. Mag x 65536 1) xs) where
  abbrev es : List Float
  es = measured_of finish d xs

  pub values_mag : Every (λ y. Mag y 131072 1) (values_of d xs)
  unfolding values_of
  values_mag =
      let c = d.kept.rules.config in
      let a = coefficient_of c.has_pre_emphasis c.pre_emphasis in
      let p = d.kept.stream.pre_emphasis_prev in
      let m = coefficient_mag c.has_pre_emphasis c.pre_emphasis (λ e. unit_mag c.pre_emphasis ((running_accepted d r).emphasis e)) in
      every_append (λ y. Mag y 131072 1) (carried_of d) (emphasized a p xs) r.carried (emphasized_mag a m p xs r.last h)

  waiting_held : Every EnergyIn (waiting_of d)
  unfolding waiting_of
  waiting_held = go d.kept.desk.warming (λ e. (r.held e).energies)
    where
      go : (b : Bool) → (b ≡ true → Every EnergyIn (held_of d)) → Every EnergyIn (cond b (held_of d) [])
      go true f = f refl
      go false f = tt

  -- every energy that a call measures, and each one held, is an f32 from +0 to 131,072
  pub energies_held : Every EnergyIn (measured_of finish d xs)
  unfolding measured_of measured_from
  energies_held =
      let w = window_of d in
      let m = (handed_parts w d.kept.rules.speech_floor_rise r.handed).0 in
      let n = d.kept.rules.lengths.hop_length in
      let vs = values_of d xs in
      let measured = energies_of finish w n vs in
      every_append EnergyIn (waiting_of d) measured waiting_held
      (every_both _ _ measured (energies_fit w m (window_least d r) (window_most d r) finish n vs values_mag) (energies_low w m (window_least d r) (window_most d r) finish n vs values_mag))

  -- frames judged before the call, and those held, are at most the samples before the carry
  judged_before : count_in d.kept.desk.track.active_segment + length (waiting_of d) ≤ d.kept.stream.carry_start
  unfolding waiting_of
  judged_before = go d.kept.desk.warming r.held
    where
      go : (b : Bool) → (b ≡ true → Holding d) → count_in d.kept.desk.track.active_segment + length (cond b (held_of d) []) ≤ d.kept.stream.carry_start
      go true f =
          let k = f refl in
          let none = ap count_in k.closed in
          let more : d.kept.desk.held * 1 ≤ d.kept.desk.held * d.kept.rules.lengths.hop_length = mul-le-mul_left d.kept.desk.held (omega (arith, hop_least d r)) in
          omega (arith, k.count, k.start, none, more)
      go false f = omega (arith, r.loud)

  module _ (room : d.kept.stream.processed_samples + length xs ≤ received_most) where
    abbrev limit : ℕ
    limit = d.kept.stream.processed_samples + length xs

    abbrev judged : List Float
    judged = due_of finish d.kept es

    due_held : Every (λ f. EnergyIn f.energy) (frames_due d.kept limit judged)
    unfolding frames_due
    due_held = frames_energies EnergyIn d.kept.rules.lengths limit (grid_start d.kept) judged (due_in_lem finish d es EnergyIn energies_held)

    abbrev track_after_lem : Track
    track_after_lem = (verdict_of finish d.kept limit judged).track

    after_ordered : TrackOrdered limit track_after_lem
    unfolding verdict_of classified_of
    after_ordered = call_ordered d.kept.rules limit (running_accepted d r) room finish (seeded_of d.kept judged) (frames_due d.kept limit judged) (seeded_ordered d xs judged r) (frames_lie finish d xs r)

    after_rows_talk : track_after_lem.rows_reported ≤ track_after_lem.talk_samples
    unfolding verdict_of classified_of
    after_rows_talk =
        let k = seeded_keeps d judged in
        call_rows_talk d.kept.rules limit (running_accepted d r) room finish (seeded_of d.kept judged) (frames_due d.kept limit judged) (seeded_ordered d xs judged r) (frames_lie finish d xs r) (omega (arith, k.1, k.2, r.rows_talk))

    after_floor : FloorHeld d.kept.rules.config.energy_floor track_after_lem.noise_floor
    unfolding verdict_of classified_of
    after_floor = floor_kept_call finish d.kept.rules limit (seeded_of d.kept judged) (frames_due d.kept limit judged) r.floors due_held (seeded_floor d judged r (due_in_lem finish d es EnergyIn energies_held))

    after_energy : ActiveHeld track_after_lem.active_segment
    unfolding verdict_of classified_of
    after_energy = energy_kept_call finish d.kept.rules limit (seeded_of d.kept judged) (frames_due d.kept limit judged) due_held (subst ActiveHeld (sym (seeded_keeps d judged).3) r.energy)

    after_counted : ActiveCounted d.kept.rules.config.hangover_frames track_after_lem.active_segment
    unfolding verdict_of classified_of
    after_counted = call_counted finish d.kept.rules limit (seeded_of d.kept judged) (frames_due d.kept limit judged) (subst (ActiveCounted d.kept.rules.config.hangover_frames) (sym (seeded_keeps d judged).3) r.counted)

    after_loud : count_in track_after_lem.active_segment ≤ d.kept.stream.carry_start + consumed_from finish d (values_of d xs)
    unfolding verdict_of classified_of frames_due
    after_loud =
        let same = ap count_in (seeded_keeps d judged).3 in
        let grown = call_count_grows finish d.kept.rules limit (seeded_of d.kept judged) (frames_due d.kept limit judged) in
        let many = frames_length d.kept.rules.lengths limit (grid_start d.kept) judged in
        omega (arith, same, grown, many, due_most finish d es, measured_count finish d xs r, consumed_counts finish d xs r, judged_before)

    -- a call that holds its frames
    after_holding : holding_of finish d.kept es ≡ true → Holding (ran_to finish d xs)
    unfolding advanced_of joined_of stream_after desk_after
    after_holding e =
        let says = holding_says finish d es e in
        let k = r.held says.0 in
        let all = ap length (held_all finish d es e) in
        let n = d.kept.rules.lengths.hop_length in
        let on = advanced_held d (stream_after finish d xs) (carry_after finish d xs) (desk_after (holding_of finish d.kept es) (held_after finish d.kept es) track_after_lem) (held_after finish d.kept es) refl in
        let from = grid_zero d says.0 in
        let grid : length (held_after finish d.kept es) * n ≡ d.kept.stream.carry_start + consumed_from finish d (values_of d xs) =
        ap (λ (i : ℕ). i * n) all ∙ omega (arith, from, measured_grid finish d xs r, consumed_whole finish d xs r says.1) in
        record {
          few = omega (arith, all, says.2);
          start = grid;
          count = ap length on;
          energies = subst (Every EnergyIn) (sym on) (held_in finish d es EnergyIn energies_held);
          closed = idle_active finish d limit judged says.1 (due_none finish d es e) ∙ k.closed;
          whole = λ some. carry_reaches finish d xs r k says.0 says.1 (omega (arith, all));
        }

    -- what holds of a state holds after a call
    pub ran_running : Running (ran_to finish d xs)
    unfolding advanced_of joined_of stream_after desk_after
    ran_running =
        let p = stream_after finish d xs in
        let c = carry_after finish d xs in
        let k = held_after finish d.kept es in
        let on = holding_of finish d.kept es in
        let desk = desk_after on k track_after_lem in
        let window = advanced_window d p c desk k r.wide in
        let carry = advanced_carry d p c desk k refl in
        record {
          settings = r.settings;
          lengths = r.lengths;
          handed = ap (λ (w : List Float). weights_in w d.kept.rules.speech_floor_rise) window ∙ r.handed;
          wide = ap length window ∙ r.wide;
          floors = r.floors;
          carry_is = ap length carry;
          short = carry_short_of finish d xs r;
          joined = omega (arith, carry_left finish d xs r, values_reach finish d xs r, consumed_most finish d xs r);
          carried = subst (Every (λ y. Mag y 131072 1)) (sym carry) (unfold carry_after in every_drop (λ y. Mag y 131072 1) (consumed_from finish d (values_of d xs)) (values_of d xs) values_mag);
          last = last_mag d.kept.stream.pre_emphasis_prev xs r.last h;
          received = room;
          ordered = after_ordered;
          rows_talk = after_rows_talk;
          floor = after_floor;
          energy = after_energy;
          counted = after_counted;
          loud = after_loud;
          held = after_holding;
        }
