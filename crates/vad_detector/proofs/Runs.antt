-- From an accepted opening every state is sound: refusal 19 never comes in a run of calls. Assumes nothing.
use Rattle.vad_segments.specs.declared.ActiveSegmentState.{ActiveSegmentState}
use Rattle.std.specs.Prelude.{None, Option, Some}
use mathlib.Core.Path.{◌≡◌, refl, sym, ap, ◌∙◌, subst}
use mathlib.Core.Logic.{◌⊎◌, inl, inr, ⊎_elim}
use mathlib.Core.Bool.{Bool, true, false, not, ◌&&◌, ◌||◌, cond, true≢false}
use mathlib.Core.List.{List, [], ◌∷◌, ◌++◌}
use Prim.Native.Nat.{ℕ, ◌+◌, ◌*◌, ◌≤◌}
use native.Mathlib.Nat.{zero-mul}
use native.Mathlib.Omega.{arith}
use borrow.Author.Tests.{le-ltb}
use lib.Dec.{T, lit<, lit≤, ltb}
use lib.ListN.{length}
use lib.Ieee.{Float, nan, inf, fin, of_bits, up, down, le, lt, neg}
use lib.Ieee.Scale.{finite}
use lib.Ieee.Fits.{and_i}
use lib.Ieee.Bits.{is_true}
use lib.Ieee.Positive.{positive, above_of_le, le→cross}
use Rattle.lists.specs.Every.{Every}
use Rattle.lists.proofs.Every.{every_map}
use Rattle.ranges.specs.Ranges.{rate_in, within, limit, in_domain}
use Rattle.ranges.proofs.Laws.{within_all, clean_mags}
use Rattle.float.proofs.Bounds.{Mag, le_of_mag}
use Rattle.float.specs.Numbers.{zero32}
use Rattle.vad_config.specs.Domain.{start_in}
use Rattle.std.specs.Prelude.{Result, Ok, Err, ⊤}
use Rattle.refusals.specs.Refusals.{Case, refusing, first_of, number_in, if_passed}
use Rattle.refusals.specs.declared.Refusal.TheVariants as why
use Rattle.refusals.proofs.First.{without, never, skip, last_case, none_refused, number_some}
use Rattle.vad_config.specs.Settings.{framing_refusals, level_refusals, limit_refusals, refusal_of, lengths_of, frame_of, hop_of, warmup_of, padding_of, outcome_of}
use Rattle.vad_config.specs.declared.VadConfig.{VadConfig}
use Rattle.vad_config.specs.declared.Lengths.{Lengths}
use Rattle.vad_config.proofs.Laws.{accepted, lengths_are, frame_low, warmup_low}
use Rattle.vad_segments.specs.Setters.{fresh_track}
use Rattle.vad_segments.specs.declared.Rules.{Rules}
use Rattle.vad_row.specs.declared.Row.{Row}
use Rattle.vad_segments.proofs.Ordered.{ActiveOrdered}
use Rattle.vad_segments.proofs.Counts.{ActiveCounted, count_in}
use Rattle.vad_segments.proofs.Floor.{FloorRules, ActiveHeld, floor_rules, floor_is_finite, least_held, energy_in, total_in}
use Rattle.ranges.specs.Sizes.{frame_most, block_most, received_most}
use Rattle.vad_state.specs.State.{loudest32, total32, window_of, carried_of, held_of, weights_in, settings_sound, sound_of}
use Rattle.vad_detector.specs.Opening.{open_refusal, rules_of, fresh_of, zero_rules, nothing_open, open_of, Handed, restarted_of, reset_to, reset_of, open_verdict}
use Rattle.vad_call.specs.Calls.{too_many, rows_due, refused_by, accepted_of, concluded_of, ran_of, measured_of, stream_after, due_of, holding_of, carry_after, held_after, verdict_of}
use Rattle.vad_call.specs.Checks.{block_refusals, check_of}
use Rattle.vad_detector.specs.Entries.{detect_of, flush_of}
use Rattle.vad_detector.specs.Readings.{read_of, undecided_read, analyzed_read, rows_read, talk_read, floor_read, segment_read}
use Rattle.vad_detector.specs.Run.{Call, Detect, Flush, Reset, next, number_of, play, none_counted}
use Rattle.vad_state.specs.declared.VadDetector.{VadDetector}
use Rattle.vad_call.specs.Answers.{Detected}
use Rattle.refusals.specs.declared.Refusal.{Refusal}
use Rattle.vad_state.proofs.Parts.{ActiveIn, HeldIn, Sound, whole}
use Rattle.vad_state.proofs.Fills.{filled_take}
use Rattle.vad_detector.proofs.Answers.{checked, open_parts}
use Rattle.vad_detector.proofs.Running.{Holding, Running, handed_parts, ran_to, ran_running}

-- ---- what holds in a run is sound

-- both ends of a range
ranged : (low x high : Float) → T (le low x) × T (le x high) → within low x high ≡ true
ranged low x high h = is_true (le low x && le x high) (and_i (le low x) (le x high) h.0 h.1)

carried_in : (y : Float) → Mag y 131072 1 → within (neg loudest32) y loudest32 ≡ true
carried_in y h = ranged (neg loudest32) y loudest32 (le_of_mag y loudest32 131072 1 (lit< tt) (unfold of_bits in (refl, refl)) h)

last_in : (x : Float) → Mag x 65536 1 → in_domain x ≡ true
unfolding in_domain
last_in x h = ranged (neg limit) x limit (le_of_mag x limit 65536 1 (lit< tt) (unfold of_bits in (refl, refl)) h)

not_under : (least x : Float) → T (positive least) → T (finite x) → T (le least x) → lt x least ≡ false
unfolding lt
not_under nan x p f l = absurd p
not_under (inf s) x p f l = absurd p
not_under (fin true m e) x p f l = absurd p
not_under (fin false m e) nan p f l = absurd f
not_under (fin false m e) (inf s) p f l = absurd f
not_under (fin false m e) (fin true n i) p f l = absurd (above_of_le (fin false m e) (fin true n i) p l)
not_under (fin false m e) (fin false n i) p f l =
    le-ltb (n * up i * down e) (m * up e * down i) (le→cross (fin false m e) (fin false n i) p (above_of_le (fin false m e) (fin false n i) p l) l)

active_in : (hangover received last start : ℕ) (a : Option ActiveSegmentState) → ActiveOrdered last received a → ActiveCounted hangover a → ActiveHeld a → count_in a ≤ start → start ≤ received → ActiveIn hangover received last a
active_in hangover received last start None o c e n l = tt
active_in hangover received last start (Some s) o c e n l = record {
  after = o.0;
  start = o.1;
  loud_end = o.2;
  some = c.1;
  count = omega arith;
  score = c.0;
  energy = ranged zero32 s.energy_sum total32 (total_in s.energy_sum e);
  silence = c.2;
}

held_in : (d : VadDetector) → Holding d → HeldIn d
held_in d k = record {
  few = k.few;
  start = k.start;
  energies = within_all zero32 loudest32 (held_of d) (every_map _ _ (λ e i. ranged zero32 e loudest32 (energy_in e i)) (held_of d) k.energies);
  closed = k.closed;
}

pub running_is_sound : (d : VadDetector) → Running d → Sound d
running_is_sound d r =
    let t = d.kept.desk.track in
    let least = d.kept.rules.config.energy_floor in
    let found = floor_is_finite least t.noise_floor r.floors.least r.floor in
    record {
      settings = r.settings;
      lengths = r.lengths;
      handed = r.handed;
      short = r.short;
      joined = r.joined;
      carried = within_all (neg loudest32) loudest32 (carried_of d) (every_map _ _ carried_in (carried_of d) r.carried);
      last = last_in d.kept.stream.pre_emphasis_prev r.last;
      floor_finite = is_true (finite t.noise_floor) found;
      floor = not_under least t.noise_floor r.floors.least.1 found r.floor.1;
      received = r.received;
      ended = r.ordered.ended;
      talk = r.ordered.talk;
      rows = omega (arith, r.rows_talk, r.ordered.talk, r.ordered.ended);
      held = λ on. held_in d (r.held on);
      active = active_in d.kept.rules.config.hangover_frames d.kept.stream.processed_samples t.last_segment_end d.kept.stream.carry_start t.active_segment r.ordered.active r.counted r.energy r.loud (omega (arith, r.joined));
    }

pub running_sound : (d : VadDetector) → Running d → sound_of d ≡ true
running_sound d r = whole d (running_is_sound d r)

-- ---- opening

-- a state that has heard nothing
pub fresh_window : (r : Rules) (window : List Float) → length window ≡ r.lengths.frame_length → window_of (fresh_of r window) ≡ window
unfolding window_of fresh_of
fresh_window r window e = filled_take frame_most window r.lengths.frame_length e

fresh_holding : (r : Rules) (window : List Float) → 1 ≤ r.lengths.warmup_frames → Holding (fresh_of r window)
unfolding fresh_of fresh_track held_of
fresh_holding r window l = record {
  few = l;
  start = zero-mul r.lengths.hop_length;
  count = refl;
  energies = tt;
  closed = refl;
  whole = λ some. absurd (omega arith);
}

zero_mag : Mag zero32 65536 1
unfolding of_bits
zero_mag = lit≤ tt

fresh_running : (r : Rules) (window : List Float) → refusal_of r.config ≡ 0 → r.lengths ≡ lengths_of r.config → length window ≡ r.lengths.frame_length → weights_in window r.speech_floor_rise ≡ true → FloorRules r
    → Running (fresh_of r window)
unfolding fresh_of fresh_track carried_of
fresh_running r window z l w h f =
    let c = r.config in
    let on = fresh_window r window w in
    let frame = ap (λ (m : Lengths). m.frame_length) l ∙ (lengths_are c).0 in
    let warmup = ap (λ (m : Lengths). m.warmup_frames) l ∙ (lengths_are c).2 in
    record {
      settings = z;
      lengths = l;
      handed = ap (λ (v : List Float). weights_in v r.speech_floor_rise) on ∙ h;
      wide = ap length on ∙ w;
      floors = f;
      carry_is = refl;
      short = omega (arith, frame, frame_low c z);
      joined = refl;
      carried = tt;
      last = zero_mag;
      received = omega arith;
      ordered = record { ended = omega arith; talk = omega arith; active = tt };
      rows_talk = omega arith;
      floor = least_held c.energy_floor f.least;
      energy = tt;
      counted = tt;
      loud = omega arith;
      held = λ e. fresh_holding r window (omega (arith, warmup, warmup_low c z));
    }

pub opened_is : (c : VadConfig) (window : List Float) (rise : Float) → open_refusal c window rise ≡ 0 → (open_of c window rise).detector ≡ fresh_of (rules_of c rise) window
unfolding open_of open_refusal
opened_is c window rise z = ap (λ (v : Result ⊤ Refusal). if_passed {A = VadDetector} v (fresh_of (rules_of c rise) window) (λ r. nothing_open)) (none_refused _ z)

pub open_running : (c : VadConfig) (window : List Float) (rise : Float) → open_refusal c window rise ≡ 0 → Handed c rise → Running (open_of c window rise).detector
unfolding open_of rules_of
open_running c window rise z f =
    let p = open_parts c window rise z in
    let a = accepted c p.0 in
    let h = handed_parts window rise p.2 in
    subst Running (sym (opened_is c window rise z))
    (fresh_running (rules_of c rise) window p.0 refl (p.1 ∙ sym (lengths_are c).0) p.2 (floor_rules (rules_of c rise) a f.floor_fits f.smoothing_fits f.rise_fits h.1 h.2))

-- ---- reset

-- a refusal 13 for the new start alone is asked of the settings again
later_start : (a b : Bool) → (a || not b) ≡ false → (s : Bool) → s ≡ true → (a || not s) ≡ false
later_start true b e s h = absurd (true≢false e)
later_start false b e s h = rw h

restarted_settings : (c : VadConfig) (start : ℕ) → start_in start ≡ true → refusal_of c ≡ 0 → refusal_of (restarted_of c start) ≡ 0
unfolding refusal_of outcome_of framing_refusals level_refusals limit_refusals restarted_of frame_of hop_of warmup_of
restarted_settings c start s z =
    let most = ltb 1000000000 c.speech_padding || ltb 10000 c.hangover_frames || ltb 10000 c.min_speech_frames in
    let tests = framing_refusals c ++ (level_refusals c ++ (refusing why.FrameLength (ltb 2048 (frame_of c)) ∷ refusing why.Warmup (ltb 300 (warmup_of c)) ∷ [])) in
    let l = last_case tests (refusing why.Limits (most || not (start_in c.stream_start_time))) (none_refused _ z) in
    ap (λ (v : Result ⊤ Refusal). number_in v) (l.1 (refusing why.Limits (most || not (start_in start))) (later_start most (start_in c.stream_start_time) l.0 (start_in start) s))

restarted_lengths : (c : VadConfig) (start : ℕ) → lengths_of (restarted_of c start) ≡ lengths_of c
unfolding lengths_of restarted_of frame_of hop_of warmup_of padding_of
restarted_lengths c start = refl

reset_to_running : (d : VadDetector) (start : ℕ) → start_in start ≡ true → Running d → Running (reset_to d start)
unfolding reset_to restarted_of
reset_to_running d start s r =
    let c = d.kept.rules.config in
    fresh_running _ (window_of d) (restarted_settings c start s r.settings) (r.lengths ∙ sym (restarted_lengths c start)) r.wide r.handed
    (record { least = r.floors.least; smoothing = r.floors.smoothing; rise = r.floors.rise })

-- ---- how calls end: with 0 and a new state, or with a refusal and the state that was given

-- what 15, 16 and 17 let through
pub record Clean (d : VadDetector) (xs : List Float) : Type 0 where
  pub sound : sound_of d ≡ true
  pub short : length xs ≤ block_most
  pub samples : Every (λ x. Mag x 65536 1) xs
  pub room : d.kept.stream.processed_samples + length xs ≤ received_most

abbrev pub Ends : (premise : Type 0) → ℕ → VadDetector → VadDetector → VadDetector → Type 0
Ends premise number given new after = (premise × (number ≡ 0) × (after ≡ new)) ⊎ ((number ≡ 0 → ⊥) × (after ≡ given))

pub check_clean : (d : VadDetector) (xs : List Float) → check_of d xs ≡ Ok tt → Clean d xs
check_clean d xs h = let c = checked d xs h in record { sound = c.sound; short = c.short; samples = clean_mags xs c.clean; room = c.fits }

-- 18 or 0
ran_ends : (finish : Bool) (d : VadDetector) (xs : List Float) (room : ℕ)
    → ((number_in (ran_of finish d xs room).outcome ≡ 0) × ((ran_of finish d xs room).detector ≡ ran_to finish d xs)) ⊎ ((number_in (ran_of finish d xs room).outcome ≡ 18) × ((ran_of finish d xs room).detector ≡ d))
unfolding ran_of concluded_of refused_by accepted_of stream_after
ran_ends finish d xs room = go (too_many rows room)
  where
    rows : List Row
    rows = rows_due finish d.kept (d.kept.stream.processed_samples + length xs) (due_of finish d.kept (measured_of finish d xs))

    stuck : Detected
    stuck = refused_by (why.Rows (length rows)) d

    done : Detected
    done = accepted_of d (stream_after finish d xs) (carry_after finish d xs) (holding_of finish d.kept (measured_of finish d xs)) (held_after finish d.kept (measured_of finish d xs)) (verdict_of finish d.kept (d.kept.stream.processed_samples + length xs) (due_of finish d.kept (measured_of finish d xs))) (length rows)

    go : (b : Bool) → ((number_in (cond b stuck done).outcome ≡ 0) × ((cond b stuck done).detector ≡ ran_to finish d xs)) ⊎ ((number_in (cond b stuck done).outcome ≡ 18) × ((cond b stuck done).detector ≡ d))
    go true = inr (refl, refl)
    go false = inl (refl, refl)

pub detect_ends : (d : VadDetector) (xs : List Float) (room : ℕ) → Ends (Clean d xs) (number_in (detect_of d xs room).outcome) d (ran_to false d xs) (detect_of d xs room).detector
unfolding detect_of refused_by
detect_ends d xs room = go (check_of d xs) refl
  where
    ran : Detected
    ran = ran_of false d xs room

    then : Result ⊤ Refusal → Detected
    then v = if_passed v ran (λ r. refused_by r d)

    go : (v : Result ⊤ Refusal) → check_of d xs ≡ v → Ends (Clean d xs) (number_in (then v).outcome) d (ran_to false d xs) (then v).detector
    go (Ok x) e = ⊎_elim (λ k. inl (check_clean d xs e, k.0, k.1)) (λ k. inr (λ z. absurd (omega (arith, k.0, z)), k.1)) (ran_ends false d xs room)
    go (Err r) e = inr (number_some r, refl)

pub flush_ends : (d : VadDetector) (room : ℕ) → Ends (sound_of d ≡ true) (number_in (flush_of d room).outcome) d (ran_to true d []) (flush_of d room).detector
unfolding flush_of refused_by
flush_ends d room = go (sound_of d) refl
  where
    ran : Detected
    ran = ran_of true d [] room

    go : (b : Bool) → sound_of d ≡ b → Ends (sound_of d ≡ true) (number_in (cond b ran (refused_by why.State d)).outcome) d (ran_to true d []) (cond b ran (refused_by why.State d)).detector
    go true e = ⊎_elim (λ k. inl (e, k.0, k.1)) (λ k. inr (λ z. absurd (omega (arith, k.0, z)), k.1)) (ran_ends true d [] room)
    go false e = inr (λ z. absurd (omega arith), refl)

pub reset_ends : (d : VadDetector) (start : ℕ) → Ends ((sound_of d ≡ true) × (start_in start ≡ true)) (number_in (reset_of d start).outcome) d (reset_to d start) (reset_of d start).detector
unfolding reset_of first_of
reset_ends d start = go (sound_of d) (start_in start) refl refl
  where
    verdict : Bool → Bool → Result ⊤ Refusal
    verdict a b = first_of (refusing why.State (not a) ∷ refusing why.Limits (not b) ∷ [])

    go : (a b : Bool) → sound_of d ≡ a → start_in start ≡ b → Ends ((sound_of d ≡ true) × (start_in start ≡ true)) (number_in (verdict a b)) d (reset_to d start) (if_passed {A = VadDetector} (verdict a b) (reset_to d start) (λ r. d))
    go true true e f = inl ((e, f), refl, refl)
    go true false e f = inr (λ z. absurd (omega arith), refl)
    go false b e f = inr (λ z. absurd (omega arith), refl)

-- in the form of a call's answer it has the same number
none_counted_number : (v : Result ⊤ Refusal) → number_in (none_counted v) ≡ number_in v
none_counted_number (Ok x) = refl
none_counted_number (Err r) = refl

pub reset_number : (d : VadDetector) (start : ℕ) → number_of d (Reset start) ≡ number_in (reset_of d start).outcome
unfolding number_of
reset_number d start = none_counted_number (reset_of d start).outcome

-- ---- the calls keep it
pub detect_running : (d : VadDetector) (xs : List Float) (room : ℕ) → Running d → Running (detect_of d xs room).detector
detect_running d xs room r = ⊎_elim (λ k. subst Running (sym k.2) (ran_running false d xs r k.0.samples k.0.room)) (λ k. subst Running (sym k.1) r) (detect_ends d xs room)

pub flush_running : (d : VadDetector) (room : ℕ) → Running d → Running (flush_of d room).detector
flush_running d room r = ⊎_elim (λ k. subst Running (sym k.2) (ran_running true d [] r tt (omega (arith, r.received)))) (λ k. subst Running (sym k.1) r) (flush_ends d room)

pub reset_running : (d : VadDetector) (start : ℕ) → Running d → Running (reset_of d start).detector
reset_running d start r = ⊎_elim (λ k. subst Running (sym k.2) (reset_to_running d start k.0.1 r)) (λ k. subst Running (sym k.1) r) (reset_ends d start)

pub next_running : (d : VadDetector) (k : Call) → Running d → Running (next d k)
unfolding next refused_by
next_running d (Detect xs room) r = detect_running d xs room r
next_running d (Flush room) r = flush_running d room r
next_running d (Reset start) r = reset_running d start r

pub play_running : (ks : List Call) (d : VadDetector) → Running d → Running (play d ks)
unfolding play
play_running [] d r = r
play_running (k ∷ ks) d r = play_running ks (next d k) (next_running d k r)

-- from an accepted opening, over any calls, refused ones among them
pub run_running : (c : VadConfig) (window : List Float) (rise : Float) (ks : List Call) → open_refusal c window rise ≡ 0 → Handed c rise → Running (play (open_of c window rise).detector ks)
run_running c window rise ks z f = play_running ks (open_of c window rise).detector (open_running c window rise z f)

-- every state is sound
pub run_sound : (c : VadConfig) (window : List Float) (rise : Float) (ks : List Call) → open_refusal c window rise ≡ 0 → Handed c rise → sound_of (play (open_of c window rise).detector ks) ≡ true
run_sound c window rise ks z f = running_sound (play (open_of c window rise).detector ks) (run_running c window rise ks z f)

-- ---- 19

-- a call that ran is refused by 18 or not at all
ran_taken : (finish : Bool) (d : VadDetector) (xs : List Float) (room : ℕ) → number_in (ran_of finish d xs room).outcome ≡ 19 → ⊥
ran_taken finish d xs room e = ⊎_elim (λ k. absurd (omega (arith, k.0, e))) (λ k. absurd (omega (arith, k.0, e))) (ran_ends finish d xs room)

-- where the state is sound, what is left of a chain has no 19
rest_taken : (d : VadDetector) (cs : List Case) → sound_of d ≡ true → without 19 cs ≡ true → number_in (first_of (refusing why.State (not (sound_of d)) ∷ cs)) ≡ 19 → ⊥
rest_taken d cs h w e = never 19 cs w (λ z. absurd (omega arith)) (sym (ap (λ (v : Result ⊤ Refusal). number_in v) (skip (refusing why.State (not (sound_of d))) cs (ap not h))) ∙ e)

-- a sound state is not refused by 19
pub sound_taken : (d : VadDetector) (k : Call) → sound_of d ≡ true → number_of d k ≡ 19 → ⊥
unfolding number_of detect_of check_of flush_of reset_of refused_by
sound_taken d (Detect xs room) h = go (check_of d xs) (rest_taken d (block_refusals d.kept.stream.processed_samples xs) h refl)
  where
    go : (v : Result ⊤ Refusal) → (number_in v ≡ 19 → ⊥) → number_in (if_passed v (ran_of false d xs room) (λ r. refused_by r d)).outcome ≡ 19 → ⊥
    go (Ok x) f = ran_taken false d xs room
    go (Err r) f = f
sound_taken d (Flush room) h = rw (number_of, h) (ran_taken true d [] room)
sound_taken d (Reset start) h = λ e. rest_taken d (refusing why.Limits (not (start_in start)) ∷ []) h refl (sym (reset_number d start) ∙ e)

-- no call of a run is refused by 19
pub never_malformed : (c : VadConfig) (window : List Float) (rise : Float) (ks : List Call) (k : Call) → open_refusal c window rise ≡ 0 → Handed c rise → number_of (play (open_of c window rise).detector ks) k ≡ 19 → ⊥
never_malformed c window rise ks k z f = sound_taken (play (open_of c window rise).detector ks) k (run_sound c window rise ks z f)

-- every call on a malformed state is
pub malformed_refused : (d : VadDetector) (k : Call) → sound_of d ≡ false → number_of d k ≡ 19
unfolding number_of detect_of check_of first_of flush_of reset_of refused_by
malformed_refused d (Detect xs room) h = rw (number_of, h)
malformed_refused d (Flush room) h = rw (number_of, h)
malformed_refused d (Reset start) h = rw (number_of, h)

-- 'A refused opening returns an all-zero state. Later calls on it .. are refused by 19'
pub nothing_malformed : sound_of nothing_open ≡ false
unfolding sound_of nothing_open settings_sound zero_rules refusal_of outcome_of first_of framing_refusals rate_in
nothing_malformed = refl

pub nothing_refused : (k : Call) → number_of nothing_open k ≡ 19
nothing_refused k = malformed_refused nothing_open k nothing_malformed

-- a call on a malformed state returns it
pub malformed_stays : (d : VadDetector) (k : Call) → sound_of d ≡ false → next d k ≡ d
unfolding next refused_by
malformed_stays d (Detect xs room) h = ⊎_elim (λ k. absurd (true≢false (sym k.0.sound ∙ h))) (λ k. k.1) (detect_ends d xs room)
malformed_stays d (Flush room) h = ⊎_elim (λ k. absurd (true≢false (sym k.0 ∙ h))) (λ k. k.1) (flush_ends d room)
malformed_stays d (Reset start) h = ⊎_elim (λ k. absurd (true≢false (sym k.0.0 ∙ h))) (λ k. k.1) (reset_ends d start)

pub malformed_played : (ks : List Call) (d : VadDetector) → sound_of d ≡ false → play d ks ≡ d
unfolding play
malformed_played [] d h = refl
malformed_played (k ∷ ks) d h = ap (λ (n : VadDetector). play n ks) (malformed_stays d k h) ∙ malformed_played ks d h

refused_is : (c : VadConfig) (window : List Float) (rise : Float) → (open_refusal c window rise ≡ 0 → ⊥) → (open_of c window rise).detector ≡ nothing_open
unfolding open_of open_refusal
refused_is c window rise h = go (open_verdict c window rise) h
  where
    go : (v : Result ⊤ Refusal) → (number_in v ≡ 0 → ⊥) → if_passed {A = VadDetector} v (fresh_of (rules_of c rise) window) (λ r. nothing_open) ≡ nothing_open
    go (Ok x) g = absurd (g refl)
    go (Err r) g = refl

-- .. however many come after a refused opening
pub refused_run : (c : VadConfig) (window : List Float) (rise : Float) (ks : List Call) (k : Call) → (open_refusal c window rise ≡ 0 → ⊥) → number_of (play (open_of c window rise).detector ks) k ≡ 19
refused_run c window rise ks k h =
    ap (λ (d : VadDetector). number_of d k) (ap (λ (d : VadDetector). play d ks) (refused_is c window rise h) ∙ malformed_played ks nothing_open nothing_malformed) ∙ nothing_refused k

-- 'and readings of any malformed state, are refused by 19'
pub malformed_unread : (d : VadDetector) → sound_of d ≡ false
    → (number_in (undecided_read d) ≡ 19) × (number_in (analyzed_read d) ≡ 19) × (number_in (rows_read d) ≡ 19) × (number_in (talk_read d) ≡ 19) × (number_in (floor_read d) ≡ 19) × (number_in (segment_read d) ≡ 19)
unfolding undecided_read analyzed_read rows_read talk_read floor_read segment_read read_of
malformed_unread d h = (rw h, rw h, rw h, rw h, rw h, rw h)
