-- What an opening and a call answer, and what a call leaves in the rows, way by way. Assumes nothing.
use mathlib.Core.Path.{◌≡◌, refl, sym, ap, ◌∙◌}
use mathlib.Core.Bool.{Bool, true, false, not, ◌&&◌, true≢false}
use mathlib.Core.List.{List, [], ◌∷◌}
use Prim.Native.Nat.{ℕ, ◌+◌, ◌≤◌}
use native.Mathlib.Nat.{le_trans, le_of_eq}
use borrow.Author.Tests.{not-false, ltb-false, leb-true, eqb-true}
use lib.Dec.{ltb, eqb}
use lib.ListN.{length}
use lib.Ieee.{Float}
use Rattle.std.specs.Prelude.{Result, Ok, Err, ⊤, is_err}
use Rattle.std.specs.Result.{result_and}
use Rattle.lists.proofs.Tests.{both}
use Rattle.refusals.specs.Refusals.{refusing, first_of, number_in, if_passed}
use Rattle.refusals.specs.declared.Refusal.TheVariants as why
use Rattle.refusals.proofs.First.{here, last, passed, none_refused, number_tells, ok_or_err}
use Rattle.ranges.specs.Ranges.{clean_of}
use Rattle.vad_config.specs.Domain.{received_in}
use Rattle.vad_config.specs.Settings.{outcome_of, refusal_of, lengths_of, frame_of}
use Rattle.vad_config.specs.declared.VadConfig.{VadConfig}
use Rattle.vad_config.specs.declared.Lengths.{Lengths}
use Rattle.vad_config.proofs.Laws.{lengths_are, frame_high}
use Rattle.ranges.specs.Sizes.{block_most, received_most, frame_most}
use Rattle.vad_state.specs.State.{weights_in, sound_of}
use Rattle.vad_detector.specs.Opening.{weights_fit, open_verdict, open_refusal, rules_of, fresh_of, nothing_open, open_of}
use Rattle.vad_call.specs.Calls.{refused_by, ran_of, written_of}
use Rattle.vad_call.specs.Checks.{check_of}
use Rattle.vad_detector.specs.Entries.{detect_of, detect_rows, flush_of, flush_rows}
use Rattle.vad_state.specs.declared.VadDetector.{VadDetector}
use Rattle.refusals.specs.declared.Refusal.{Refusal}
use Rattle.vad_call.specs.Answers.{Detected}
use Rattle.vad_detector.specs.Answers.{Opened}

-- ---- opening

module _ (c : VadConfig) (window : List Float) (rise : Float) where
  pub refused_settings : {r : Refusal} → outcome_of c ≡ Err r → open_verdict c window rise ≡ Err r
  unfolding open_verdict
  refused_settings h = rw h

  module _ (z : outcome_of c ≡ Ok tt) (l : Lengths) (e : l ≡ lengths_of c) (t : Bool) (h : t ≡ weights_fit l.frame_length window rise) where
    handed : t ≡ weights_fit (frame_of c) window rise
    handed = h ∙ ap (λ (m : Lengths). weights_fit m.frame_length window rise) e ∙ ap (λ (n : ℕ). weights_fit n window rise) (lengths_are c).0

    pub refused_handed : t ≡ false → Err why.Window ≡ open_verdict c window rise
    unfolding open_verdict
    refused_handed f = sym (rw z (here (refusing why.Window (not (weights_fit (frame_of c) window rise))) [] (ap not (sym handed ∙ f))))

    pub refused_none : t ≡ true → Ok tt ≡ open_verdict c window rise
    unfolding open_verdict
    refused_none f = sym (rw z (last (refusing why.Window (not (weights_fit (frame_of c) window rise))) (ap not (sym handed ∙ f))))

  module _ (v : Result ⊤ Refusal) (e : v ≡ open_verdict c window rise) where
    pub open_refused : is_err v ≡ true → (d : VadDetector) → d ≡ nothing_open → record { outcome = v; detector = d } ≡ open_of c window rise
    unfolding open_of
    open_refused z d h = rw (← e, h) (go v z)
      where
        go : (u : Result ⊤ Refusal) → is_err u ≡ true → ◌≡◌ {A = Opened} (record { outcome = u; detector = nothing_open }) (record { outcome = u; detector = if_passed {A = VadDetector} u (fresh_of (rules_of c rise) window) (λ r. nothing_open) })
        go (Ok x) k = absurd (true≢false (sym k))
        go (Err r) k = refl

    pub open_taken : is_err v ≡ false → (l : Lengths) → l ≡ lengths_of c → (d : VadDetector) → d ≡ fresh_of (record { config = c; lengths = l; speech_floor_rise = rise }) window → record { outcome = v; detector = d } ≡ open_of c window rise
    unfolding open_of rules_of
    open_taken z l m d h = rw (← e, h, m) (go v z)
      where
        go : (u : Result ⊤ Refusal) → is_err u ≡ false
            → ◌≡◌ {A = Opened} (record { outcome = u; detector = fresh_of (record { config = c; lengths = lengths_of c; speech_floor_rise = rise }) window }) (record { outcome = u; detector = if_passed {A = VadDetector} u (fresh_of (record { config = c; lengths = lengths_of c; speech_floor_rise = rise }) window) (λ r. nothing_open) })
        go (Ok x) k = refl
        go (Err r) k = absurd (true≢false k)

    -- as code asks it
    pub open_passed : is_err v ≡ false → open_refusal c window rise ≡ 0
    unfolding open_refusal
    open_passed z = ap (λ (u : Result ⊤ Refusal). number_in u) (sym e) ∙ eqb-true _ 0 (number_tells v ∙ ap not z)

  -- an opening that is not refused
  pub open_parts : open_refusal c window rise ≡ 0 → (refusal_of c ≡ 0) × (length window ≡ frame_of c) × (weights_in window rise ≡ true)
  unfolding open_refusal open_verdict refusal_of weights_fit
  open_parts z = go (outcome_of c) refl (none_refused _ z)
    where
      go : (v : Result ⊤ Refusal) → outcome_of c ≡ v → result_and v (first_of (refusing why.Window (not (eqb (length window) (frame_of c) && weights_in window rise)) ∷ [])) ≡ Ok tt
          → (number_in (outcome_of c) ≡ 0) × (length window ≡ frame_of c) × (weights_in window rise ≡ true)
      go (Err r) e k = absurd (ok_or_err (sym k))
      go (Ok x) e k =
          let p = both _ _ (not-false _ (passed (refusing why.Window (not (eqb (length window) (frame_of c) && weights_in window rise))) [] k).0) in
          (ap (λ (u : Result ⊤ Refusal). number_in u) e, eqb-true _ _ p.0, p.1)

  -- its window fits
  pub window_short : open_refusal c window rise ≡ 0 → length window ≤ frame_most
  window_short h = let p = open_parts h in le_trans (le_of_eq p.1) (frame_high c p.0)

-- ---- the check of a block

-- what a check that refuses nothing has found
pub record Checked (d : VadDetector) (xs : List Float) : Type 0 where
  pub sound : sound_of d ≡ true
  pub short : length xs ≤ block_most
  pub clean : length xs ≤ clean_of xs
  pub fits : d.kept.stream.processed_samples + length xs ≤ received_most

pub checked : (d : VadDetector) (xs : List Float) → check_of d xs ≡ Ok tt → Checked d xs
unfolding check_of received_in
checked d xs h =
    let long = refusing why.Block (ltb block_most (length xs)) in
    let unclean = refusing (why.Sample (clean_of xs)) (ltb (clean_of xs) (length xs)) in
    let far = refusing why.Received (not (received_in (d.kept.stream.processed_samples + length xs))) in
    let a = passed (refusing why.State (not (sound_of d))) (long ∷ unclean ∷ far ∷ []) h in
    let b = passed long (unclean ∷ far ∷ []) a.1 in
    let c = passed unclean (far ∷ []) b.1 in
    let e = passed far [] c.1 in
    record { sound = not-false _ a.0; short = ltb-false _ _ b.0; clean = ltb-false _ _ c.0; fits = leb-true _ _ (not-false _ e.0) }

-- ---- detect

module _ (d : VadDetector) (xs : List Float) where
  pub detect_refused : {r : Refusal} → check_of d xs ≡ Err r → (room : ℕ) (a : Detected) → a ≡ refused_by r d → a ≡ detect_of d xs room
  unfolding detect_of
  detect_refused e room a h = h ∙ rw e

  pub detect_ran : check_of d xs ≡ Ok tt → (room : ℕ) (a : Detected) → a ≡ ran_of false d xs room → a ≡ detect_of d xs room
  unfolding detect_of
  detect_ran e room a h = h ∙ rw e

  pub rows_kept : {r : Refusal} → check_of d xs ≡ Err r → (out : List ℕ) → out ≡ detect_rows d xs out
  unfolding detect_rows
  rows_kept e out = rw e

  pub rows_written : check_of d xs ≡ Ok tt → (out last : List ℕ) → last ≡ written_of false d xs out → last ≡ detect_rows d xs out
  unfolding detect_rows
  rows_written e out last h = h ∙ rw e

-- ---- flush

module _ (d : VadDetector) (t : Bool) (e : t ≡ sound_of d) where
  pub flush_refused : t ≡ false → (room : ℕ) (a : Detected) → a ≡ refused_by why.State d → a ≡ flush_of d room
  unfolding flush_of
  flush_refused z room a h = h ∙ rw (← e, z)

  pub flush_ran : t ≡ true → (room : ℕ) (a : Detected) → a ≡ ran_of true d [] room → a ≡ flush_of d room
  unfolding flush_of
  flush_ran z room a h = h ∙ rw (← e, z)

  pub flushed_kept : t ≡ false → (out : List ℕ) → out ≡ flush_rows d out
  unfolding flush_rows
  flushed_kept z out = rw (← e, z)

  pub flushed_written : t ≡ true → (out last : List ℕ) → last ≡ written_of true d [] out → last ≡ flush_rows d out
  unfolding flush_rows
  flushed_written z out last h = h ∙ rw (← e, z)
