-- 'a state that an accepted call returns holds zeros' past the used parts of its arrays. Assumes nothing.
use mathlib.Core.Path.{◌≡◌, refl, sym, ap, ◌∙◌, subst}
use mathlib.Core.Logic.{⊎_elim}
use mathlib.Core.Bool.{Bool, true, false}
use mathlib.Core.List.{List, [], ◌∷◌}
use Prim.Native.Nat.{◌+◌}
use native.Mathlib.Omega.{arith}
use lib.ListN.{length, length-take}
use lib.Ieee.{Float}
use Rattle.vad_config.specs.declared.VadConfig.{VadConfig}
use Rattle.vad_config.proofs.Laws.{lengths_are}
use Rattle.vad_segments.specs.declared.Rules.{Rules}
use Rattle.ranges.specs.Sizes.{frame_most, warmup_most}
use Rattle.vad_state.specs.State.{window_of, carried_of, held_of, sound_of}
use Rattle.vad_state.specs.Arrays.{filled_of}
use Rattle.vad_detector.specs.Opening.{rules_of, fresh_of, open_of, Handed, reset_to, open_refusal}
use Rattle.vad_call.specs.Calls.{refused_by, measured_of, carry_after, stream_after, holding_of, held_after, due_of, verdict_of, desk_after, joined_of, advanced_of}
use Rattle.vad_detector.specs.Run.{Call, Detect, Flush, Reset, next, number_of, play}
use Rattle.vad_state.specs.declared.VadDetector.{VadDetector}
use Rattle.vad_state.specs.declared.Stream.{Stream}
use Rattle.vad_state.specs.declared.Desk.{Desk}
use Rattle.vad_state.proofs.Parts.{parts, frame_high}
use Rattle.vad_detector.proofs.Answers.{open_parts}
use Rattle.vad_detector.proofs.Running.{Running, ran_to, advanced_window, advanced_carry, advanced_held}
use Rattle.vad_detector.proofs.Runs.{opened_is, fresh_window, detect_ends, flush_ends, reset_ends, open_running, next_running, reset_number}

pub record ZerosPast (d : VadDetector) : Type 0 where
  pub window : d.window ≡ filled_of frame_most (window_of d)
  pub carry : d.carry ≡ filled_of frame_most (carried_of d)
  pub warmup : d.warmup ≡ filled_of warmup_most (held_of d)

-- a sound state's frame is no longer than the array of its window
pub sound_wide : (d : VadDetector) → length d.window ≡ frame_most → sound_of d ≡ true → length (window_of d) ≡ d.kept.rules.lengths.frame_length
unfolding window_of
sound_wide d e h = omega (arith, length-take d.kept.rules.lengths.frame_length d.window, frame_high d (parts d h))

advanced_zeros : (d : VadDetector) (p : Stream) (carry : List Float) (desk : Desk) (held : List Float) → p.carry_len ≡ length carry → desk.held ≡ length held → length (window_of d) ≡ d.kept.rules.lengths.frame_length → ZerosPast (advanced_of d p carry desk held)
unfolding advanced_of joined_of
advanced_zeros d p carry desk held n m e = record {
  window = ap (filled_of frame_most) (sym (advanced_window d p carry desk held e));
  carry = ap (filled_of frame_most) (sym (advanced_carry d p carry desk held n));
  warmup = ap (filled_of warmup_most) (sym (advanced_held d p carry desk held m));
}

ran_zeros : (finish : Bool) (d : VadDetector) (xs : List Float) → length (window_of d) ≡ d.kept.rules.lengths.frame_length → ZerosPast (ran_to finish d xs)
unfolding stream_after desk_after
ran_zeros finish d xs e =
    let k = d.kept in
    let es = measured_of finish d xs in
    let held = held_after finish k es in
    let t = (verdict_of finish k (k.stream.processed_samples + length xs) (due_of finish k es)).track in
    advanced_zeros d (stream_after finish d xs) (carry_after finish d xs) (desk_after (holding_of finish k es) held t) held refl refl e

fresh_zeros : (r : Rules) (window : List Float) → length window ≡ r.lengths.frame_length → ZerosPast (fresh_of r window)
unfolding fresh_of carried_of held_of
fresh_zeros r window e = record { window = ap (filled_of frame_most) (sym (fresh_window r window e)); carry = refl; warmup = refl }

pub open_zeros : (c : VadConfig) (window : List Float) (rise : Float) → open_refusal c window rise ≡ 0 → ZerosPast (open_of c window rise).detector
unfolding open_of rules_of
open_zeros c window rise z = subst ZerosPast (sym (opened_is c window rise z)) (fresh_zeros (rules_of c rise) window ((open_parts c window rise z).1 ∙ sym (lengths_are c).0))

-- a call gives a state with zeros, or is refused and returns the one that it was given
next_zeros : (d : VadDetector) (k : Call) → (sound_of d ≡ true → length (window_of d) ≡ d.kept.rules.lengths.frame_length) → ((number_of d k ≡ 0 → ⊥) → ZerosPast d) → ZerosPast (next d k)
unfolding next refused_by number_of reset_to
next_zeros d (Detect xs room) w f = ⊎_elim (λ e. subst ZerosPast (sym e.2) (ran_zeros false d xs (w e.0.sound))) (λ e. subst ZerosPast (sym e.1) (f e.0)) (detect_ends d xs room)
next_zeros d (Flush room) w f = ⊎_elim (λ e. subst ZerosPast (sym e.2) (ran_zeros true d [] (w e.0))) (λ e. subst ZerosPast (sym e.1) (f e.0)) (flush_ends d room)
next_zeros d (Reset start) w f = ⊎_elim (λ e. subst ZerosPast (sym e.2) (fresh_zeros _ (window_of d) (w e.0.0))) (λ e. subst ZerosPast (sym e.1) (f (λ z. e.0 (sym (reset_number d start) ∙ z)))) (reset_ends d start)

-- an accepted call on any state whose window is an array of 2,048, as every state's is
pub zeros_kept : (d : VadDetector) (k : Call) → length d.window ≡ frame_most → number_of d k ≡ 0 → ZerosPast (next d k)
zeros_kept d k l z = next_zeros d k (sound_wide d l) (λ no. absurd (no z))

-- so every state of a run has them
pub play_zeros : (ks : List Call) (d : VadDetector) → Running d → ZerosPast d → ZerosPast (play d ks)
unfolding play
play_zeros [] d r h = h
play_zeros (k ∷ ks) d r h = play_zeros ks (next d k) (next_running d k r) (next_zeros d k (λ s. r.wide) (λ no. h))

pub run_zeros : (c : VadConfig) (window : List Float) (rise : Float) (ks : List Call) → open_refusal c window rise ≡ 0 → Handed c rise → ZerosPast (play (open_of c window rise).detector ks)
run_zeros c window rise ks z f = play_zeros ks (open_of c window rise).detector (open_running c window rise z f) (open_zeros c window rise z)
