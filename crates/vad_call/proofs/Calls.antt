-- What a call measures, holds, judges and reports, way by way. Assumes nothing.
use mathlib.Core.Path.{◌≡◌, refl, sym, ap, ◌∙◌}
use mathlib.Core.Bool.{Bool, true, false, not, ◌&&◌, cond, true≢false}
use mathlib.Core.List.{List, [], ◌∷◌, ◌++◌}
use Prim.Native.Nat.{ℕ, ◌+◌, ◌-◌, ◌≤◌, ◌<◌}
use native.Mathlib.Omega.{arith}
use borrow.Author.Tests.{lt-ltb, le-ltb, ltb-true}
use lib.Dec.{ltb, lit≤}
use lib.ListN.{length, take, drop, length-append, length-take, length-drop}
use lib.Seq.{sets, length-take-le}
use lib.Ieee.{Float}
use Rattle.vad_frames.specs.Emphasis.{coefficient_of, emphasized, last_of}
use Rattle.vad_frames.specs.Grid.{frames_of, energies_of, framed_of, carry_of}
use Rattle.vad_frames.specs.declared.Framed.{Framed}
use Rattle.vad_frames.proofs.Laws.{emphasized_length, frames_below, energies_length, consumed_le, carry_flushed, carry_short}
use Rattle.vad_row.specs.Rows.{room_of, flat}
use Rattle.vad_segments.specs.Judging.{floored_to, frames_at, call_rows}
use Rattle.vad_segments.specs.Loudness.{seed_of}
use Rattle.vad_segments.specs.Positions.{holds_of}
use Rattle.vad_segments.specs.Rooms.{Within, positions_first, counts_first}
use Rattle.vad_row.specs.declared.Row.{Row}
use Rattle.vad_segments.specs.declared.Track.{Track}
use Rattle.vad_row.proofs.Laws.{flat_length, room_enough}
use Rattle.vad_segments.proofs.Ordered.{call_rows_counted}
use Rattle.vad_classify.specs.Classify.{classified_of}
use Rattle.vad_classify.specs.declared.Classified.{Classified}
use Rattle.ranges.specs.Sizes.{frame_most, warmup_most, block_most}
use Rattle.vad_state.specs.State.{window_of, carried_of, held_of}
use Rattle.vad_call.specs.Calls.{values_most, energies_most, values_of, waiting_of, measured_from, measured_of, consumed_from, carry_after, stream_after, holding_with, holding_of, held_after, due_of, seeded_of, grid_start, frames_due, verdict_of, rows_due, refused_by, accepted_of, too_many, concluded_of, reported_in, ran_of, rows_of_call, written_of, tally_of, desk_after, advanced_of, joined_of, taken_of, settled_of, PartsFit}
use Rattle.vad_call.specs.Inside.{accepted_hearing, hearing_of}
use Rattle.std.specs.Prelude.{Result, Ok, Err, IfOk}
use Rattle.refusals.specs.declared.Refusal.{Refusal}
use Rattle.refusals.specs.declared.Refusal.TheVariants as why
use Rattle.vad_state.specs.declared.Stream.{Stream}
use Rattle.vad_state.specs.declared.Kept.{Kept}
use Rattle.vad_state.specs.declared.VadDetector.{VadDetector}
use Rattle.vad_call.specs.Answers.{Detected}
use Rattle.vad_call.specs.declared.Heard.{Heard}
use Rattle.vad_call.specs.declared.Outcome.{Outcome}
use Rattle.lists.proofs.Stores.{from_start}
use Rattle.vad_state.proofs.Fills.{take_again, put_back, put_rest, put_on}
use Rattle.vad_state.proofs.Parts.{Sound, frame_high, hop_low, hop_high, warmup_high}

-- ---- gather
pub values_count : (d : VadDetector) (xs : List Float) → length (carried_of d) ≡ d.kept.stream.carry_len → length (values_of d xs) ≡ d.kept.stream.carry_len + length xs
unfolding values_of
values_count d xs h =
    let a = coefficient_of d.kept.rules.config.has_pre_emphasis d.kept.rules.config.pre_emphasis in
    omega (arith, length-append (carried_of d) (emphasized a d.kept.stream.pre_emphasis_prev xs), h, emphasized_length a d.kept.stream.pre_emphasis_prev xs)

module _ (d : VadDetector) (xs : List Float) (long : length d.carry ≡ frame_most) (short : d.kept.stream.carry_len ≤ frame_most) where
  carried_length : length (carried_of d) ≡ d.kept.stream.carry_len
  unfolding carried_of
  carried_length = length-take-le d.kept.stream.carry_len d.carry (omega arith)

  pub values_length : length (values_of d xs) ≡ d.kept.stream.carry_len + length xs
  values_length = values_count d xs carried_length

-- the carry put first, then the block's values
pub gathered : (carry xs : List Float) (n : ℕ) (coeff previous : Float) (to whole last : List Float) → n ≤ length carry → n + length xs ≤ length to → whole ≡ sets to 0 (take n carry)
    → last ≡ sets (take (length whole - n) (drop n whole)) 0 (emphasized coeff previous xs)
    → take n whole ++ (last ++ drop (length whole - n) (drop n whole)) ≡ sets to 0 (take n carry ++ emphasized coeff previous xs)
gathered carry xs n coeff previous to whole last few room w l =
    let many = emphasized_length coeff previous xs in
    put_on to (take n carry) (emphasized coeff previous xs) whole last n (length-take-le n carry few) (omega arith) w l

-- they are the call's values
pub gathered_values : (d : VadDetector) (xs : List Float) (coeff : Float) → coeff ≡ coefficient_of d.kept.rules.config.has_pre_emphasis d.kept.rules.config.pre_emphasis
    → take d.kept.stream.carry_len d.carry ++ emphasized coeff d.kept.stream.pre_emphasis_prev xs ≡ values_of d xs
unfolding values_of carried_of
gathered_values d xs coeff e = ap (λ (c : Float). take d.kept.stream.carry_len d.carry ++ emphasized c d.kept.stream.pre_emphasis_prev xs) e

-- ---- waiting
module _ (d : VadDetector) where
  pub waiting_count : Sound d → length d.warmup ≡ warmup_most → cond d.kept.desk.warming d.kept.desk.held 0 ≡ length (waiting_of d)
  unfolding waiting_of held_of
  waiting_count s long = go d.kept.desk.warming refl
    where
      go : (b : Bool) → d.kept.desk.warming ≡ b → cond b d.kept.desk.held 0 ≡ length (cond b (take d.kept.desk.held d.warmup) [])
      go true on = let few = (s.held on).few in let high = warmup_high d s in sym (length-take-le d.kept.desk.held d.warmup (omega arith))
      go false off = refl

  -- fewer than the warm-up's count
  pub waiting_few : Sound d → length (waiting_of d) ≤ warmup_most
  unfolding waiting_of held_of
  waiting_few s = go d.kept.desk.warming refl
    where
      go : (b : Bool) → d.kept.desk.warming ≡ b → length (cond b (take d.kept.desk.held d.warmup) []) ≤ warmup_most
      go true on = let few = (s.held on).few in let high = warmup_high d s in let n = length-take d.kept.desk.held d.warmup in omega arith
      go false off = omega arith

  -- the part of the array that they are in
  pub waiting_part : (n : ℕ) → n ≡ length (waiting_of d) → take n d.warmup ≡ waiting_of d
  unfolding waiting_of held_of
  waiting_part n h = ap (λ (k : ℕ). take k d.warmup) h ∙ go d.kept.desk.warming
    where
      go : (b : Bool) → take (length (cond b (take d.kept.desk.held d.warmup) [])) d.warmup ≡ cond b (take d.kept.desk.held d.warmup) []
      go true = take_again d.kept.desk.held d.warmup
      go false = refl

-- ---- measure
-- a hop is 8 at least
frames_few : (finish : Bool) (n hop : ℕ) → 8 ≤ hop → (values : List Float) → length values ≤ values_most → length (frames_of finish n hop values) ≤ 384
frames_few finish n hop low values m = let most = frames_below finish n hop (omega arith) 8 values (lit≤ tt) low in omega arith

joined_length : (finish : Bool) (held w : List Float) (hop : ℕ) (values : List Float) → length (held ++ energies_of finish w hop values) ≡ length held + length (frames_of finish (length w) hop values)
joined_length finish held w hop values = length-append held (energies_of finish w hop values) ∙ ap (λ (k : ℕ). length held + k) (energies_length finish w hop values)

module _ (finish : Bool) (window : List Float) (n hop : ℕ) (low : 8 ≤ hop) (wide : n ≤ length window) (warmup : List Float) (held : ℕ) (few : held ≤ warmup_most) (there : held ≤ length warmup)
    (values : List Float) (m : length values ≤ values_most) where
  -- what `frame_values` asks of the rest of the energies
  pub frames_asked : (whole : List Float) → length whole ≡ energies_most → length (frames_of finish n hop values) ≤ length (take (length whole - held) (drop held whole))
  frames_asked whole e =
      let most = frames_few finish n hop low values m in
      let left = length-drop held whole in
      let room = length-take (length whole - held) (drop held whole) in
      omega arith

  joined_count : length (take held warmup ++ energies_of finish (take n window) hop values) ≡ held + length (frames_of finish (length (take n window)) hop values)
  joined_count = let h = length-take-le held warmup there in omega (arith, joined_length finish (take held warmup) (take n window) hop values)

  module _ (r : Framed) (e : r ≡ framed_of finish (take n window) hop values) where
    pub joined_few : held + r.frames ≤ energies_most
    unfolding framed_of
    joined_few = let most = frames_few finish (length (take n window)) hop low values m in let k = ap (λ (f : Framed). f.frames) e in omega arith

    pub joined_is : held + r.frames ≡ length (take held warmup ++ energies_of finish (take n window) hop values)
    unfolding framed_of
    joined_is = let k = ap (λ (f : Framed). f.frames) e in omega (arith, joined_count)

  -- those held put first, then the new ones
  pub joined_put : (to whole last : List Float) → length to ≡ energies_most → whole ≡ sets to 0 (take held warmup)
      → last ≡ sets (take (length whole - held) (drop held whole)) 0 (energies_of finish (take n window) hop values)
      → take held whole ++ (last ++ drop (length whole - held) (drop held whole)) ≡ sets to 0 (take held warmup ++ energies_of finish (take n window) hop values)
  joined_put to whole last room w l =
      let most = frames_few finish (length (take n window)) hop low values m in
      let many = energies_length finish (take n window) hop values in
      put_on to (take held warmup) (energies_of finish (take n window) hop values) whole last held (length-take-le held warmup there) (omega arith) w l

-- they are the call's energies, and the values that it uses up
pub joined_measured : (finish : Bool) (d : VadDetector) (held : ℕ) → held ≡ length (waiting_of d) → (values : List Float)
    → take held d.warmup ++ energies_of finish (take d.kept.rules.lengths.frame_length d.window) d.kept.rules.lengths.hop_length values ≡ measured_from finish d values
unfolding measured_from window_of
joined_measured finish d held h values = ap (λ (ws : List Float). ws ++ energies_of finish (window_of d) d.kept.rules.lengths.hop_length values) (waiting_part d held h)

pub framed_consumed : (finish : Bool) (d : VadDetector) (values : List Float)
    → (framed_of finish (take d.kept.rules.lengths.frame_length d.window) d.kept.rules.lengths.hop_length values).consumed ≡ consumed_from finish d values
unfolding consumed_from window_of
framed_consumed finish d values = refl

module _ (finish : Bool) (d : VadDetector) (s : Sound d) where
  pub measured_few : (values : List Float) → length values ≤ values_most → length (measured_from finish d values) ≤ energies_most
  unfolding measured_from
  measured_few values m =
      let hop = d.kept.rules.lengths.hop_length in
      let most = frames_few finish (length (window_of d)) hop (hop_low d s) values m in
      omega (arith, joined_length finish (waiting_of d) (window_of d) hop values, waiting_few d s)

module _ (finish : Bool) (d : VadDetector) (s : Sound d) (long : length d.window ≡ frame_most) where
  window_length : length (window_of d) ≡ d.kept.rules.lengths.frame_length
  unfolding window_of
  window_length = let high = frame_high d s in length-take-le d.kept.rules.lengths.frame_length d.window (omega arith)

  -- what stays fits its array
  pub carry_few : (xs : List Float) → length (carry_after finish d xs) ≤ frame_most
  unfolding carry_after consumed_from carry_of
  carry_few xs = go finish
    where
      hop : ℕ
      hop = d.kept.rules.lengths.hop_length

      go : (b : Bool) → length (carry_of b (window_of d) hop (values_of d xs)) ≤ frame_most
      go true = let none = ap length (carry_flushed (window_of d) d.kept.rules.lengths.hop_length (values_of d xs)) in omega arith
      go false =
          let low = hop_low d s in
          let high = hop_high d s in
          let most = frame_high d s in
          let wide = window_length in
          let less = carry_short (window_of d) d.kept.rules.lengths.hop_length (values_of d xs) (omega arith) (omega arith) in
          omega arith

-- ---- verdict and report
-- a new floor changes no position and no count
pub seeded_within : (k : Kept) (due : List Float) → Within positions_first counts_first k.desk.track → Within positions_first counts_first (seeded_of k due)
unfolding seeded_of floored_to
seeded_within k due w = go k.desk.warming
  where
    go : (b : Bool) → Within positions_first counts_first (cond {A = Track} b (floored_to (seed_of k.rules.config.energy_floor k.desk.track.noise_floor due) k.desk.track) k.desk.track)
    go true = w
    go false = w

seeded_rows : (k : Kept) (due : List Float) → (seeded_of k due).rows_reported ≡ k.desk.track.rows_reported
unfolding seeded_of floored_to
seeded_rows k due = go k.desk.warming
  where
    go : (b : Bool) → (cond {A = Track} b (floored_to (seed_of k.rules.config.energy_floor k.desk.track.noise_floor due) k.desk.track) k.desk.track).rows_reported ≡ k.desk.track.rows_reported
    go true = refl
    go false = refl

pub grid_low : (k : Kept) → k.stream.carry_start ≤ positions_first → grid_start k ≤ positions_first
unfolding grid_start
grid_low k low = go k.desk.warming
  where
    go : (b : Bool) → cond b 0 k.stream.carry_start ≤ positions_first
    go true = omega arith
    go false = low

module _ (finish : Bool) (k : Kept) (received : ℕ) (due : List Float) (t : Track) (e : t ≡ seeded_of k due) (first : ℕ) (f : first ≡ grid_start k) where
  pub verdict_is : (c : Classified) → c ≡ classified_of finish k.rules received t (frames_at k.rules.lengths received first due) → c ≡ verdict_of finish k received due
  unfolding verdict_of frames_due
  verdict_is c h = h ∙ rw (e, f)

  rows_are : call_rows finish k.rules received t (frames_at k.rules.lengths received first due) ≡ rows_due finish k received due
  unfolding rows_due frames_due
  rows_are = rw (e, f)

  module _ (needed : ℕ) (n : needed ≡ length (rows_due finish k received due)) where
    -- what `write_rows` asks of the lent slice
    pub rows_fit : (room : ℕ) → needed ≤ room_of room → length (flat (call_rows finish k.rules received t (frames_at k.rules.lengths received first due))) ≤ room
    rows_fit room h = rw rows_are (omega (arith, flat_length (rows_due finish k received due), room_enough needed room h))

  pub rows_put : (out last : List ℕ) → last ≡ sets out 0 (flat (call_rows finish k.rules received t (frames_at k.rules.lengths received first due))) → last ≡ sets out 0 (flat (rows_due finish k received due))
  rows_put out last h = h ∙ ap (λ (rs : List Row). sets out 0 (flat rs)) rows_are

-- no row, nothing written
pub rows_none : (rows : List Row) (out : List ℕ) → 0 ≡ length rows → out ≡ sets out 0 (flat rows)
unfolding flat
rows_none [] out h = refl
rows_none (r ∷ rs) out h = absurd (omega arith)

-- as many rows as the track counts more
pub rows_more : (finish : Bool) (k : Kept) (received : ℕ) (due : List Float) (c : Classified) → c ≡ verdict_of finish k received due
    → c.track.rows_reported ≡ k.desk.track.rows_reported + length (rows_due finish k received due)
unfolding verdict_of classified_of rows_due
rows_more finish k received due c e =
    ap (λ (x : Classified). x.track.rows_reported) e
    ∙ call_rows_counted k.rules received (seeded_of k due) (frames_due k received due) finish
    ∙ ap (λ (n : ℕ). n + length (call_rows finish k.rules received (seeded_of k due) (frames_due k received due))) (seeded_rows k due)

pub needed_due : (finish : Bool) (k : Kept) (received : ℕ) (due : List Float) (c : Classified) → c ≡ verdict_of finish k received due → (n : ℕ) → n ≡ c.track.rows_reported - k.desk.track.rows_reported
    → n ≡ length (rows_due finish k received due)
needed_due finish k received due c e n g = let more = rows_more finish k received due c e in omega arith

-- ---- judge
module _ (finish : Bool) (k : Kept) (es : List Float) (holds : Bool) (h : holds ≡ holding_with finish k (length es)) where
  -- the energies are held or judged, all of them
  pub due_is : (due : List Float) → due ≡ cond holds [] es → due ≡ due_of finish k es
  unfolding due_of holding_of
  due_is due u = u ∙ ap (λ (b : Bool). cond b [] es) h

  pub due_few : (due : List Float) → due ≡ cond holds [] es → length due ≤ length es
  due_few due u = rw u (go holds)
    where
      go : (b : Bool) → length (cond b [] es) ≤ length es
      go true = omega arith
      go false = omega arith

  module _ (due : List Float) (u : due ≡ cond holds [] es) (received : ℕ) (c : Classified) (e : c ≡ verdict_of finish k received due)
      (n : ℕ) (g : n ≡ c.track.rows_reported - k.desk.track.rows_reported) where
    needed_is : n ≡ length (rows_due finish k received (due_of finish k es))
    needed_is = needed_due finish k received due c e n g ∙ ap (λ (x : List Float). length (rows_due finish k received x)) (due_is due u)

    pub judged_needed : n ≡ length (rows_due finish k received (due_of finish k es))
    judged_needed = needed_is

    pub judged_verdict : c ≡ verdict_of finish k received (due_of finish k es)
    judged_verdict = e ∙ ap (verdict_of finish k received) (due_is due u)

    pub judged_refused : (room : ℕ) → room_of room < n → true ≡ too_many (rows_due finish k received (due_of finish k es)) room
    unfolding too_many
    judged_refused room l = rw (← needed_is, lt-ltb (room_of room) n l)

    pub judged_fits : (room : ℕ) → n ≤ room_of room → false ≡ too_many (rows_due finish k received (due_of finish k es)) room
    unfolding too_many
    judged_fits room l = rw (← needed_is, le-ltb (room_of room) n l)

    pub reported_refused : (out : List ℕ) → room_of (length out) < n → out ≡ reported_in (rows_due finish k received (due_of finish k es)) out
    unfolding reported_in too_many
    reported_refused out l = rw (← needed_is, lt-ltb (room_of (length out)) n l)

    pub reported_accepted : (out : List ℕ) → n ≤ room_of (length out) → (last : List ℕ) → last ≡ sets out 0 (flat (rows_due finish k received due))
        → last ≡ reported_in (rows_due finish k received (due_of finish k es)) out
    unfolding reported_in too_many
    reported_accepted out l last a = a ∙ rw (← needed_is, le-ltb (room_of (length out)) n l, due_is due u)

-- fewer are held than the warm-up's count
pub held_few : (finish : Bool) (d : VadDetector) (es : List Float) (holds : Bool) → holds ≡ holding_with finish d.kept (length es) → Sound d → length (cond holds es []) ≤ warmup_most
unfolding holding_with holds_of
held_few finish d es holds h s = go d.kept.desk.warming finish holds h
  where
    go : (w f b : Bool) → b ≡ (w && (not f && ltb (length es) d.kept.rules.lengths.warmup_frames)) → length (cond b es []) ≤ warmup_most
    go true false true t = let few : length es < d.kept.rules.lengths.warmup_frames = ltb-true _ _ (sym t) in let high = warmup_high d s in omega arith
    go true true true t = absurd (true≢false t)
    go false f true t = absurd (true≢false t)
    go w f false t = omega arith

-- what was judged, concluded
module _ (finish : Bool) (d : VadDetector) (es : List Float) (p : Stream) (carry : List Float) (room : ℕ) (refused : Bool) (t : refused ≡ too_many (rows_due finish d.kept p.processed_samples (due_of finish d.kept es)) room)
    (n : ℕ) (k : n ≡ length (rows_due finish d.kept p.processed_samples (due_of finish d.kept es))) where
  pub refused_concluded : refused ≡ true → (r : Detected) → r ≡ refused_by (why.Rows n) d → r ≡ concluded_of finish d p carry es room
  unfolding concluded_of
  refused_concluded on r a = a ∙ rw (sym t ∙ on, k)

  pub accepted_concluded : refused ≡ false → (holds : Bool) → holds ≡ holding_with finish d.kept (length es) → (held : List Float) → held ≡ cond holds es [] → (c : Classified)
      → c ≡ verdict_of finish d.kept p.processed_samples (due_of finish d.kept es) → (r : Detected) → r ≡ accepted_of d p carry holds held c n → r ≡ concluded_of finish d p carry es room
  unfolding concluded_of holding_of held_after
  accepted_concluded off holds h held g c e r a = a ∙ rw (sym t ∙ off, k, e, g, h)

-- ---- concluded
-- the energies held, as many as are counted
held_length : (holds : Bool) (frames : ℕ) (es : List Float) → frames ≡ length es → cond holds frames 0 ≡ length (cond holds es [])
held_length true frames es e = e
held_length false frames es e = refl

held_part : (holds : Bool) (frames : ℕ) (energies : List Float) → take (cond holds frames 0) energies ≡ cond holds (take (frames - 0) energies) []
held_part true frames energies = sym (from_start frames energies)
held_part false frames energies = refl

module _ (d : VadDetector) (p : Stream) (frames : ℕ) (o : Outcome) (consumed : ℕ) (values energies : List Float) where
  refused_settled : settled_of (Err (why.Rows o.needed)) values energies d ≡ refused_by (why.Rows o.needed) d
  unfolding settled_of
  refused_settled = refl

  accepted_settled : (held : List Float) → cond o.holds frames 0 ≡ length held → take (cond o.holds frames 0) energies ≡ held
      → settled_of (Ok (accepted_hearing d.kept p frames o consumed)) values energies d ≡ accepted_of d p (take p.carry_len (drop consumed values)) o.holds held o.classified o.needed
  unfolding settled_of taken_of accepted_hearing accepted_of advanced_of desk_after
  accepted_settled held b c = ap (λ (xs : List Float). made (cond o.holds frames 0) xs) c ∙ ap (λ (n : ℕ). made n held) b
    where
      made : ℕ → List Float → Detected
      made n xs =
          record {
            outcome = Ok (tally_of o.classified o.needed);
            detector = joined_of d (record { rules = d.kept.rules; stream = p; desk = record { warming = o.holds; held = n; track = o.classified.track } }) (take p.carry_len (drop consumed values)) xs;
          }

-- what `concluded` answers, settled
module _ (finish : Bool) (d : VadDetector) (p : Stream) (frames : ℕ) (consumed : ℕ) (values energies : List Float) (room : ℕ) (o : Outcome)
    (t : o.refused ≡ too_many (rows_due finish d.kept p.processed_samples (due_of finish d.kept (take (frames - 0) energies))) room)
    (n : o.needed ≡ length (rows_due finish d.kept p.processed_samples (due_of finish d.kept (take (frames - 0) energies))))
    (h : o.holds ≡ holding_with finish d.kept (length (take (frames - 0) energies)))
    (v : o.classified ≡ verdict_of finish d.kept p.processed_samples (due_of finish d.kept (take (frames - 0) energies)))
    (many : frames ≡ length (take (frames - 0) energies)) where
  heard_concluded : settled_of (hearing_of d.kept p frames o consumed) values energies d ≡ concluded_of finish d p (take p.carry_len (drop consumed values)) (take (frames - 0) energies) room
  unfolding hearing_of
  heard_concluded = go o.refused refl
    where
      es : List Float
      es = take (frames - 0) energies

      carry : List Float
      carry = take p.carry_len (drop consumed values)

      go : (b : Bool) → o.refused ≡ b → settled_of (cond b (Err (why.Rows o.needed)) (Ok (accepted_hearing d.kept p frames o consumed))) values energies d ≡ concluded_of finish d p carry es room
      go true on = refused_concluded finish d es p carry room o.refused t o.needed n on (settled_of (Err (why.Rows o.needed)) values energies d) (refused_settled d p frames o consumed values energies)
      go false off =
          accepted_concluded finish d es p carry room o.refused t o.needed n off o.holds h (cond o.holds es []) refl o.classified v (settled_of (Ok (accepted_hearing d.kept p frames o consumed)) values energies d)
          (accepted_settled d p frames o consumed values energies (cond o.holds es []) (held_length o.holds frames es many) (held_part o.holds frames energies))

  -- where the new carry and the energies held stand
  heard_fits : Sound d → consumed + p.carry_len ≤ values_most → p.carry_len ≤ frame_most → IfOk (hearing_of d.kept p frames o consumed) PartsFit
  unfolding hearing_of accepted_hearing
  heard_fits s most short = go o.refused
    where
      go : (b : Bool) → IfOk (cond b (Err (why.Rows o.needed)) (Ok (accepted_hearing d.kept p frames o consumed))) PartsFit
      go true = tt
      go false =
          let few = held_few finish d (take (frames - 0) energies) o.holds h s in
          let held = held_length o.holds frames (take (frames - 0) energies) many in
          (most, short, omega arith)

-- the numbers after the call
module _ (d : VadDetector) (p : Stream) (frames : ℕ) (o : Outcome) (consumed : ℕ) (values energies : List Float) (e : p.carry_start ≡ d.kept.stream.carry_start + consumed) where
  heard_kept : IfOk (hearing_of d.kept p frames o consumed) (λ h. (h.kept ≡ (settled_of (hearing_of d.kept p frames o consumed) values energies d).detector.kept) × (h.kept.stream.carry_start ≡ d.kept.stream.carry_start + h.consumed))
  unfolding hearing_of accepted_hearing settled_of taken_of joined_of
  heard_kept = go o.refused
    where
      heard : Bool → Result Heard Refusal
      heard b = cond b (Err (why.Rows o.needed)) (Ok (accepted_hearing d.kept p frames o consumed))

      go : (b : Bool) → IfOk (heard b) (λ h. (h.kept ≡ (settled_of (heard b) values energies d).detector.kept) × (h.kept.stream.carry_start ≡ d.kept.stream.carry_start + h.consumed))
      go true = tt
      go false = (refl, e)

-- ---- run
-- the carry and the block fit the array of values
pub total_few : (d : VadDetector) → Sound d → (n : ℕ) → n ≤ block_most → d.kept.stream.carry_len + n ≤ values_most
total_few d s n l = let short = s.short in let high = frame_high d s in omega arith

module _ (finish : Bool) (d : VadDetector) (s : Sound d) (xs : List Float) (most : length xs ≤ block_most) (wide : length d.window ≡ frame_most) (long : length d.carry ≡ frame_most)
    (blank values : List Float) (b : length blank ≡ values_most) (v : values ≡ sets blank 0 (values_of d xs)) where
  pub values_many : length (values_of d xs) ≡ d.kept.stream.carry_len + length xs
  values_many = let short = s.short in let high = frame_high d s in values_length d xs long (omega arith)

  pub values_back : take (d.kept.stream.carry_len + length xs - 0) values ≡ values_of d xs
  values_back =
      let few = total_few d s (length xs) most in
      from_start (d.kept.stream.carry_len + length xs) values ∙ ap (take (d.kept.stream.carry_len + length xs)) v ∙ put_back blank (values_of d xs) (d.kept.stream.carry_len + length xs) values_many (omega arith)

  module _ (consumed : ℕ) (c : consumed ≡ consumed_from finish d (take (d.kept.stream.carry_len + length xs - 0) values)) where
    pub consumed_is : consumed ≡ consumed_from finish d (values_of d xs)
    consumed_is = c ∙ ap (consumed_from finish d) values_back

    pub consumed_few : consumed ≤ d.kept.stream.carry_len + length xs
    unfolding consumed_from
    consumed_few = let le = consumed_le finish (window_of d) d.kept.rules.lengths.hop_length (values_of d xs) in omega (arith, consumed_is, values_many)

    pub carry_back : take (d.kept.stream.carry_len + length xs - consumed) (drop consumed values) ≡ carry_after finish d xs
    unfolding carry_after
    carry_back =
        let few = total_few d s (length xs) most in
        ap (λ (ys : List Float). take (d.kept.stream.carry_len + length xs - consumed) (drop consumed ys)) v
        ∙ put_rest blank (values_of d xs) consumed (d.kept.stream.carry_len + length xs) values_many (omega arith) consumed_few
        ∙ ap (λ (k : ℕ). drop k (values_of d xs)) consumed_is

    pub carry_count : d.kept.stream.carry_len + length xs - consumed ≡ length (take (d.kept.stream.carry_len + length xs - consumed) (drop consumed values))
    unfolding carry_after
    carry_count =
        let back = ap length carry_back in
        let left = length-drop (consumed_from finish d (values_of d xs)) (values_of d xs) in
        omega (arith, consumed_is, values_many)

    pub carry_fits : length (take (d.kept.stream.carry_len + length xs - consumed) (drop consumed values)) ≤ frame_most
    carry_fits = rw carry_back (carry_few finish d s wide xs)

    module _ (to energies : List Float) (t : length to ≡ energies_most) (e : energies ≡ sets to 0 (measured_from finish d (take (d.kept.stream.carry_len + length xs - 0) values)))
        (frames : ℕ) (f : frames ≡ length (measured_from finish d (take (d.kept.stream.carry_len + length xs - 0) values))) where
      pub frames_fit : frames ≤ energies_most
      frames_fit =
          let few = total_few d s (length xs) most in
          let n = length-take (d.kept.stream.carry_len + length xs - 0) values in
          let m = measured_few finish d s (take (d.kept.stream.carry_len + length xs - 0) values) (omega arith) in
          omega arith

      pub energies_back : take (frames - 0) energies ≡ measured_of finish d xs
      unfolding measured_of
      energies_back =
          let fit = frames_fit in
          from_start frames energies
          ∙ ap (take frames) e
          ∙ put_back to (measured_from finish d (take (d.kept.stream.carry_len + length xs - 0) values)) frames (sym f) (omega arith)
          ∙ ap (measured_from finish d) values_back

      pub frames_count : frames ≡ length (take (frames - 0) energies)
      unfolding measured_of
      frames_count = f ∙ ap (λ (ys : List Float). length (measured_from finish d ys)) values_back ∙ sym (ap length energies_back)

      pub ran_is : (last : Float) → last ≡ last_of d.kept.stream.pre_emphasis_prev xs → (room : ℕ) (r : Detected) (p : Stream)
          → r ≡ concluded_of finish d p (take (d.kept.stream.carry_len + length xs - consumed) (drop consumed values)) (take (frames - 0) energies) room
          → p ≡ record {
            carry_len = d.kept.stream.carry_len + length xs - consumed;
            carry_start = d.kept.stream.carry_start + consumed;
            processed_samples = d.kept.stream.processed_samples + length xs;
            pre_emphasis_prev = last;
          }
          → r ≡ ran_of finish d xs room
      unfolding ran_of stream_after
      ran_is last l room r p h far =
          let left : d.kept.stream.carry_len + length xs - consumed ≡ length (carry_after finish d xs) = carry_count ∙ ap length carry_back in
          h ∙ rw (far, l, carry_back, left, energies_back, consumed_is)

      pub written_is : (out last : List ℕ) → last ≡ reported_in (rows_due finish d.kept (d.kept.stream.processed_samples + length xs) (due_of finish d.kept (take (frames - 0) energies))) out → last ≡ written_of finish d xs out
      unfolding written_of rows_of_call
      written_is out last h = h ∙ rw energies_back

-- ---- hear
module _ (finish : Bool) (d : VadDetector) (s : Sound d) (xs : List Float) (most : length xs ≤ block_most) (wide : length d.window ≡ frame_most) (long : length d.carry ≡ frame_most)
    (blank values : List Float) (b : length blank ≡ values_most) (v : values ≡ sets blank 0 (values_of d xs)) (f : Framed) (c : f.consumed ≡ consumed_from finish d (take (d.kept.stream.carry_len + length xs - 0) values))
    (to energies : List Float) (t : length to ≡ energies_most) (e : energies ≡ sets to 0 (measured_from finish d (take (d.kept.stream.carry_len + length xs - 0) values)))
    (g : f.frames ≡ length (measured_from finish d (take (d.kept.stream.carry_len + length xs - 0) values))) (last : Float) (l : last ≡ last_of d.kept.stream.pre_emphasis_prev xs) (o : Outcome)
    (n : o.needed ≡ length (rows_due finish d.kept (d.kept.stream.processed_samples + length xs) (due_of finish d.kept (take (f.frames - 0) energies))))
    (h : o.holds ≡ holding_with finish d.kept (length (take (f.frames - 0) energies)))
    (k : o.classified ≡ verdict_of finish d.kept (d.kept.stream.processed_samples + length xs) (due_of finish d.kept (take (f.frames - 0) energies))) where
  far : Stream
  far =
      record {
        carry_len = d.kept.stream.carry_len + length xs - f.consumed;
        carry_start = d.kept.stream.carry_start + f.consumed;
        processed_samples = d.kept.stream.processed_samples + length xs;
        pre_emphasis_prev = last;
      }

  module _ (out rows : List ℕ) (refused : o.refused ≡ too_many (rows_due finish d.kept (d.kept.stream.processed_samples + length xs) (due_of finish d.kept (take (f.frames - 0) energies))) (length out))
      (written : rows ≡ reported_in (rows_due finish d.kept (d.kept.stream.processed_samples + length xs) (due_of finish d.kept (take (f.frames - 0) energies))) out) where
    ran_heard : settled_of (hearing_of d.kept far f.frames o f.consumed) values energies d ≡ ran_of finish d xs (length out)
    unfolding far
    ran_heard =
        ran_is finish d s xs most wide long blank values b v f.consumed c to energies t e f.frames g last l (length out) (settled_of (hearing_of d.kept far f.frames o f.consumed) values energies d) far
        (heard_concluded finish d far f.frames f.consumed values energies (length out) o refused n h k (frames_count finish d s xs most wide long blank values b v f.consumed c to energies t e f.frames g)) refl

    -- all that the contract says
    pub heard_is : (r : Result Heard Refusal) (p : Stream) → r ≡ hearing_of d.kept p f.frames o f.consumed
        → p ≡ record {
          carry_len = d.kept.stream.carry_len + length xs - f.consumed;
          carry_start = d.kept.stream.carry_start + f.consumed;
          processed_samples = d.kept.stream.processed_samples + length xs;
          pre_emphasis_prev = last;
        }
        → (ran_of finish d xs (length out) ≡ settled_of r values energies d)
        × (IfOk r (λ h. (h.kept ≡ (ran_of finish d xs (length out)).detector.kept) × (h.kept.stream.carry_start ≡ d.kept.stream.carry_start + h.consumed))
        × (IfOk r PartsFit × (rows ≡ written_of finish d xs out)))
    unfolding far
    heard_is r p is at =
        let few = total_few d s (length xs) most in
        let used = consumed_few finish d s xs most wide long blank values b v f.consumed c in
        let count = carry_count finish d s xs most wide long blank values b v f.consumed c in
        let short = carry_fits finish d s xs most wide long blank values b v f.consumed c in
        rw (is, at) (
          sym ran_heard,
          (
            rw ran_heard at (heard_kept d far f.frames o f.consumed values energies refl),
            (
              heard_fits finish d far f.frames f.consumed values energies (length out) o refused n h k (frames_count finish d s xs most wide long blank values b v f.consumed c to energies t e f.frames g) s (omega arith) (omega arith),
              written_is finish d s xs most wide long blank values b v f.consumed c to energies t e f.frames g out rows written,
            ),
          ),
        )

-- ---- taken
pub settled_refused : (r : Refusal) (values energies : List Float) (d : VadDetector) → record { outcome = Err r; detector = d } ≡ settled_of (Err r) values energies d
unfolding settled_of refused_by
settled_refused r values energies d = refl

module _ (h : Heard) (values energies : List Float) (d : VadDetector) where
  -- the parts as they are lent
  pub taken_lent : (after : VadDetector) → after ≡ joined_of d h.kept (take (h.consumed + h.kept.stream.carry_len - h.consumed) (drop h.consumed values)) (take (h.kept.desk.held - 0) energies)
      → record { outcome = Ok h.tally; detector = after } ≡ taken_of h values energies d
  unfolding taken_of
  taken_lent after e =
      let n : h.consumed + h.kept.stream.carry_len - h.consumed ≡ h.kept.stream.carry_len = omega arith in
      rw (e, n, from_start h.kept.desk.held energies)

  pub settled_accepted : (after : VadDetector) → after ≡ joined_of d h.kept (take (h.consumed + h.kept.stream.carry_len - h.consumed) (drop h.consumed values)) (take (h.kept.desk.held - 0) energies)
      → record { outcome = Ok h.tally; detector = after } ≡ settled_of (Ok h) values energies d
  unfolding settled_of
  settled_accepted = taken_lent
