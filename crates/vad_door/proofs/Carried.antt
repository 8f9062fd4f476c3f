-- From call to call: after every call the memory holds the very detector that vad_detector has answered, so a run through the door is a run of the detector.
-- The round trip through memory is handed in; assumes nothing else.
use mathlib.Core.Path.{◌≡◌, refl, sym, ap, subst, ◌∙◌}
use mathlib.Core.Logic.{⊎_elim}
use mathlib.Core.Bool.{Bool, true, false, ◌&&◌, cond}
use mathlib.Core.List.{List, [], ◌∷◌}
use Prim.Native.Nat.{ℕ, ◌≤◌}
use native.Mathlib.Omega.{arith}
use borrow.Author.Tests.{eqb-false}
use lib.Dec.{eqb}
use lib.ListN.{length, length-take}
use lib.Ieee.{Float}
use Rattle.std.specs.Prelude.{Result, Ok, Err, ⊤}
use Rattle.refusals.specs.Refusals.{number_in, if_passed}
use Rattle.refusals.specs.declared.Refusal.{Refusal}
use Rattle.vad_config.specs.declared.VadConfig.{VadConfig}
use Rattle.vad_config.proofs.Laws.{accepted}
use Rattle.vad_segments.specs.declared.Rules.{Rules}
use Rattle.ranges.specs.Sizes.{frame_most, warmup_most}
use Rattle.vad_state.specs.State.{window_of}
use Rattle.vad_state.specs.declared.VadDetector.{VadDetector}
use Rattle.vad_state.proofs.Parts.{Sound, parts}
use Rattle.vad_state.proofs.Fills.{filled_length}
use Rattle.vad_call.specs.Calls.{measured_of, carry_after, holding_with, holding_of, held_after, joined_of, advanced_of, tally_in}
use Rattle.vad_call.specs.Answers.{Detected}
use Rattle.vad_call.proofs.Calls.{carry_few, held_few}
use Rattle.vad_detector.specs.Opening.{open_verdict, open_refusal, rules_of, fresh_of, zero_rules, nothing_open, open_of, restarted_of, reset_to, reset_of}
use Rattle.vad_detector.specs.Entries.{detect_of, flush_of}
use Rattle.vad_detector.specs.Run.{Call, Detect, Flush, Reset, next, number_of, play, answered}
use Rattle.vad_detector.proofs.Answers.{open_parts, window_short}
use Rattle.vad_detector.proofs.Running.{ran_to}
use Rattle.vad_detector.proofs.Runs.{Ends, detect_ends, flush_ends, reset_ends, reset_number}
use Rattle.vad_memory.proofs.RoundTrip.{Shaped, written_back, written_readable, read_shaped}
use Rattle.vad_memory.specs.DetectorState.{detector_at, long_enough, readable, numbers_written, floats_written}
use Rattle.vad_door.specs.DetectorDoor.{open_numbers, open_floats, call_numbers, call_floats, numbers_after, floats_after}

-- ---- every call keeps the shape that memory needs

window_few : (d : VadDetector) → Shaped d → length (window_of d) ≤ frame_most
unfolding window_of
window_few d s = let n = length-take d.kept.rules.lengths.frame_length d.window in let wide = s.window in omega arith

fresh_shaped : (r : Rules) (window : List Float) → length window ≤ frame_most → r.config.sample_rate ≤ 0xffff_ffff → Shaped (fresh_of r window)
unfolding fresh_of
fresh_shaped r window few rate =
    record { window = filled_length frame_most window few; carry = filled_length frame_most [] (omega arith); warmup = filled_length warmup_most [] (omega arith); rate = rate }

nothing_shaped : Shaped nothing_open
unfolding nothing_open zero_rules
nothing_shaped =
    record { window = filled_length frame_most [] (omega arith); carry = filled_length frame_most [] (omega arith); warmup = filled_length warmup_most [] (omega arith); rate = omega arith }

-- a refused opening's state too
pub open_shaped : (c : VadConfig) (window : List Float) (rise : Float) → Shaped (open_of c window rise).detector
unfolding open_of open_refusal rules_of
open_shaped c window rise = go (open_verdict c window rise) refl
  where
    go : (v : Result ⊤ Refusal) → open_verdict c window rise ≡ v → Shaped (if_passed v (fresh_of (rules_of c rise) window) (λ r. nothing_open))
    go (Ok x) h =
        let none : open_refusal c window rise ≡ 0 = ap (λ (v : Result ⊤ Refusal). number_in v) h in
        let rate = (accepted c (open_parts c window rise none).0).rate_high in
        fresh_shaped (rules_of c rise) window (window_short c window rise none) (omega arith)
    go (Err r) h = nothing_shaped

held_length : (finish : Bool) (d : VadDetector) → Sound d → (es : List Float) → length (held_after finish d.kept es) ≤ warmup_most
unfolding held_after holding_of
held_length finish d s es = held_few finish d es (holding_with finish d.kept (length es)) refl s

pub ran_shaped : (finish : Bool) (d : VadDetector) (xs : List Float) → Sound d → Shaped d → Shaped (ran_to finish d xs)
unfolding advanced_of joined_of
ran_shaped finish d xs s h = record {
  window = filled_length frame_most (window_of d) (window_few d h);
  carry = filled_length frame_most (carry_after finish d xs) (carry_few finish d s h.window xs);
  warmup = filled_length warmup_most (held_after finish d.kept (measured_of finish d xs)) (held_length finish d s (measured_of finish d xs));
  rate = h.rate;
}

module _ (premise : Type 0) (number : ℕ) (d new after : VadDetector) (e : Ends premise number d new after) where
  -- a refused call answers the state that it was given
  given : (number ≡ 0 → ⊥) → after ≡ d
  given z = ⊎_elim (λ k. absurd (z k.1)) (λ k. k.1) e

  ends_shaped : Shaped d → (premise → Shaped new) → Shaped after
  ends_shaped s f = ⊎_elim (λ k. subst Shaped (sym k.2) (f k.0)) (λ k. subst Shaped (sym k.1) s) e

module _ (d : VadDetector) (h : Shaped d) where
  pub detect_shaped : (xs : List Float) (room : ℕ) → Shaped (detect_of d xs room).detector
  detect_shaped xs room = ends_shaped _ _ _ _ _ (detect_ends d xs room) h (λ k. ran_shaped false d xs (parts d k.sound) h)

  pub flush_shaped : (room : ℕ) → Shaped (flush_of d room).detector
  flush_shaped room = ends_shaped _ _ _ _ _ (flush_ends d room) h (λ k. ran_shaped true d [] (parts d k) h)

  reset_to_shaped : (start : ℕ) → Shaped (reset_to d start)
  unfolding reset_to restarted_of
  reset_to_shaped start = fresh_shaped _ (window_of d) (window_few d h) h.rate

  pub reset_shaped : (start : ℕ) → Shaped (reset_of d start).detector
  reset_shaped start = ends_shaped _ _ _ _ _ (reset_ends d start) h (λ k. reset_to_shaped start)

-- ---- through the door

module _ (c : VadConfig) (window : List Float) (rise : Float) (ns : List ℕ) (fs : List Float) (long : long_enough ns fs ≡ true) where
  pub open_readable : readable (open_numbers c window rise ns fs) (open_floats c window rise ns fs) ≡ true
  unfolding open_numbers open_floats
  open_readable = rw long (written_readable (open_of c window rise).detector _ ns fs (open_shaped c window rise))

  pub open_carried : detector_at (open_numbers c window rise ns fs) (open_floats c window rise ns fs) ≡ (open_of c window rise).detector
  unfolding open_numbers open_floats
  open_carried = rw long (written_back (open_of c window rise).detector _ ns fs (open_shaped c window rise))

module _ (ns : List ℕ) (fs : List Float) (good : readable ns fs ≡ true) where
  abbrev d : VadDetector
  d = detector_at ns fs

  module _ (f : VadDetector → Detected) (s : Shaped (f d).detector) where
    abbrev p : Detected
    p = f d

    call_readable : readable (call_numbers ns fs f) (call_floats ns fs f) ≡ true
    unfolding call_numbers call_floats
    call_readable = go (readable ns fs && eqb (number_in p.outcome) 0)
      where
        go : (b : Bool) → readable (cond b (numbers_written p.detector.kept (tally_in p.outcome) ns) ns) (cond b (floats_written p.detector fs) fs) ≡ true
        go true = written_readable p.detector (tally_in p.outcome) ns fs s
        go false = good

    call_carried : ((number_in p.outcome ≡ 0 → ⊥) → p.detector ≡ d) → detector_at (call_numbers ns fs f) (call_floats ns fs f) ≡ p.detector
    unfolding call_numbers call_floats
    call_carried same = rw good (go (eqb (number_in p.outcome) 0) (eqb-false (number_in p.outcome) 0))
      where
        go : (b : Bool) → (b ≡ false → number_in p.outcome ≡ 0 → ⊥) → detector_at (cond b (numbers_written p.detector.kept (tally_in p.outcome) ns) ns) (cond b (floats_written p.detector fs) fs) ≡ p.detector
        go true f = written_back p.detector (tally_in p.outcome) ns fs s
        go false f = sym (same (f refl))

  shape : Shaped d
  shape = read_shaped ns fs good

  -- no call turns memory that can be read into memory that cannot, and a refused call's answer stands there too
  pub detect_readable : (xs : List Float) (room : ℕ) → let f = answered (Detect xs room) in readable (call_numbers ns fs f) (call_floats ns fs f) ≡ true
  detect_readable xs room = call_readable (answered (Detect xs room)) (detect_shaped d shape xs room)

  pub detect_carried : (xs : List Float) (room : ℕ) → let f = answered (Detect xs room) in detector_at (call_numbers ns fs f) (call_floats ns fs f) ≡ (f d).detector
  detect_carried xs room = call_carried (answered (Detect xs room)) (detect_shaped d shape xs room) (given _ _ _ _ _ (detect_ends d xs room))

  pub flush_readable : (room : ℕ) → let f = answered (Flush room) in readable (call_numbers ns fs f) (call_floats ns fs f) ≡ true
  flush_readable room = call_readable (answered (Flush room)) (flush_shaped d shape room)

  pub flush_carried : (room : ℕ) → let f = answered (Flush room) in detector_at (call_numbers ns fs f) (call_floats ns fs f) ≡ (f d).detector
  flush_carried room = call_carried (answered (Flush room)) (flush_shaped d shape room) (given _ _ _ _ _ (flush_ends d room))

  pub reset_readable : (start : ℕ) → let f = answered (Reset start) in readable (call_numbers ns fs f) (call_floats ns fs f) ≡ true
  reset_readable start = call_readable (answered (Reset start)) (reset_shaped d shape start)

  pub reset_carried : (start : ℕ) → let f = answered (Reset start) in detector_at (call_numbers ns fs f) (call_floats ns fs f) ≡ (reset_of d start).detector
  unfolding number_of
  reset_carried start = call_carried (answered (Reset start)) (reset_shaped d shape start) (λ z. given _ _ _ _ _ (reset_ends d start) (λ n. z (reset_number d start ∙ n)))

  next_readable : (k : Call) → readable (call_numbers ns fs (answered k)) (call_floats ns fs (answered k)) ≡ true
  next_readable (Detect xs room) = detect_readable xs room
  next_readable (Flush room) = flush_readable room
  next_readable (Reset start) = reset_readable start

  next_carried : (k : Call) → detector_at (call_numbers ns fs (answered k)) (call_floats ns fs (answered k)) ≡ next d k
  unfolding next
  next_carried (Detect xs room) = detect_carried xs room
  next_carried (Flush room) = flush_carried room
  next_carried (Reset start) = reset_carried start

-- a run through the door is a run of the detector
pub run_carried : (ks : List Call) (ns : List ℕ) (fs : List Float) → readable ns fs ≡ true
    → (readable (numbers_after ns fs ks) (floats_after ns fs ks) ≡ true) × (detector_at (numbers_after ns fs ks) (floats_after ns fs ks) ≡ play (detector_at ns fs) ks)
unfolding numbers_after floats_after play
run_carried [] ns fs good = (good, refl)
run_carried (k ∷ ks) ns fs good =
    let rest = run_carried ks (call_numbers ns fs (answered k)) (call_floats ns fs (answered k)) (next_readable ns fs good k) in
    (rest.0, rest.1 ∙ ap (λ (d : VadDetector). play d ks) (next_carried ns fs good k))

-- .. from the opening on, whether it was refused or not
pub opened_carried : (c : VadConfig) (window : List Float) (rise : Float) (ns : List ℕ) (fs : List Float) → long_enough ns fs ≡ true → (ks : List Call)
    → let ms = open_numbers c window rise ns fs in let gs = open_floats c window rise ns fs in detector_at (numbers_after ms gs ks) (floats_after ms gs ks) ≡ play (open_of c window rise).detector ks
opened_carried c window rise ns fs long ks =
    (run_carried ks (open_numbers c window rise ns fs) (open_floats c window rise ns fs) (open_readable c window rise ns fs long)).1
    ∙ ap (λ (d : VadDetector). play d ks) (open_carried c window rise ns fs long)
