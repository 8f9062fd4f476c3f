use mathlib.Core.Path.{◌≡◌, sym, ap, ◌∙◌}
use mathlib.Core.Bool.{false, ◌&&◌}
use lib.Dec.{eqb}
use Rattle.std.proofs.Common.{rules}
use Rattle.lists.proofs.Tests.{both}
use Rattle.vad_config.specs.Settings.{refusal_of, lengths_of}
use Rattle.vad_state.specs.State.{same_lengths, settings_sound}
use Rattle.vad_state.proofs.Parts.{same_parts}
use Rattle.vad_state.proofs.Tests.{frame_short, same_joined}
use borrow.Author.Tests.{eqb-true, eq-eqb}
use Rattle.vad_config.proofs.Laws.{accepted_by, refused_by}
use Rattle.vad_state.proofs.settings_sound.Goals.{Then-eq, then-is_ok, else-is_ok}
use Rattle.vad_state.proofs.settings_sound.Goals as goal

asked : (c : Then-eq) → let r = c.args.rules in c.if-is_ok.value ≡ (eqb (refusal_of r.config) 0 && same_lengths r.lengths (lengths_of r.config))
asked c =
    let r = c.args.rules in
    elim c.if-is_ok.branch [
      | then-is_ok w ↦ w.value-is ∙ w.eq.ensures ∙ same_joined _ _ ∙ ap (same_lengths r.lengths) w.lengths_of.ensures ∙ simp (eq-eqb _ _ (accepted_by c.args.rules.config c.validate.ensures c.is_ok.ensures.value w.if-is_ok.true))
      | else-is_ok w ↦ w.value-is ∙ simp (w.if-is_ok.false, refused_by c.args.rules.config c.validate.ensures c.is_ok.ensures.value w.if-is_ok.false)
    ]

pub slice_bounds-weights_in-end : goal.slice_bounds-weights_in-end
slice_bounds-weights_in-end c =
    let r = c.args.rules in
    let set = both (eqb (refusal_of r.config) 0) (same_lengths r.lengths (lengths_of r.config)) (sym (asked c) ∙ c.if-eq.true) in
    let short = frame_short r (eqb-true _ _ set.0) (same_parts _ _ set.1) in
    search rules

pub returns-then-eq : goal.returns-then-eq
unfolding settings_sound
returns-then-eq c = simp (sym (asked (goal.at.returns-then-eq c).Then-eq) ∙ c.if-eq.true) c.weights_in.ensures

pub returns-else-eq : goal.returns-else-eq
unfolding settings_sound
returns-else-eq c =
    let r = c.args.rules in
    elim c.if-is_ok.branch [
      | then-is_ok w ↦
          let other : same_lengths r.lengths (lengths_of r.config) ≡ false = sym (w.value-is ∙ w.eq.ensures ∙ same_joined _ _ ∙ ap (same_lengths r.lengths) w.lengths_of.ensures) ∙ c.if-eq.false in
          c.if-eq.false ∙ simp (eq-eqb _ _ (accepted_by c.args.rules.config c.validate.ensures c.is_ok.ensures.value w.if-is_ok.true), other)
      | else-is_ok w ↦
          c.if-eq.false ∙ simp (refused_by c.args.rules.config c.validate.ensures c.is_ok.ensures.value w.if-is_ok.false)
    ]
