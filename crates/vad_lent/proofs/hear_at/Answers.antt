use mathlib.Core.Path.{◌≡◌, refl, ap, subst, ◌∙◌}
use lib.ListN.{length}
use Prim.Native.Nat.{◌+◌}
use Rattle.std.specs.Prelude.{IfOk}
use Rattle.vad_state.specs.State.{state_of, sound_of}
use Rattle.vad_state.specs.declared.VadDetector.{VadDetector}
use Rattle.vad_state.proofs.Parts.{parts, frame_high}
use Rattle.vad_call.specs.Calls.{ran_of, written_of, settled_of}
use Rattle.vad_lent.specs.Lent.{state_at}
use Rattle.vad_lent.proofs.Laws.{state_lent, ran_tallied, ran_arrays, kept_told}
use Rattle.vad_lent.proofs.hear_at.Goals.{After-lent_in}
use Rattle.vad_lent.proofs.hear_at.Goals as goal

-- the state by the parts that are lent
abbrev state : After-lent_in → VadDetector
state w = state_of w.args.kept w.lent_in.result.window.now w.lent_in.result.carry.now w.lent_in.result.warmup.now

same : (w : After-lent_in) → state w ≡ state_at w.args.kept w.args.floats.now
same w =
    let lent = w.lent_in in
    state_lent w.args.kept w.args.floats.now lent.result.window.now lent.result.carry.now lent.result.warmup.now lent.ensures.window_value lent.ensures.carry_value lent.ensures.warmup_value

pub hear-hearing-requires : goal.hear-hearing-requires
hear-hearing-requires c =
    record { arrays_value = ap sound_of (same (goal.at.hear-hearing-requires c).After-lent_in) ∙ c.requires.floats_value; values_len = (refl, refl); samples_len_bound = (c.requires.singles_first_in_bounds.1, c.requires.singles_first_in_bounds.2) }

pub settle_at-requires : goal.settle_at-requires
unfolding state_at
settle_at-requires c =
    let h = c.hear-hearing in
    record { singles_first_in_bounds = (c.requires.singles_first_in_bounds.0, frame_high (state_at c.args.kept c.args.floats.now) (parts (state_at c.args.kept c.args.floats.now) c.requires.floats_value)); carry_len_bound = h.ensures.carry_len_bound }

pub returns : goal.returns
returns c =
    let h = c.hear-hearing in
    let s = c.args in
    let fs = s.floats.now in
    let xs = s.samples.now in
    let room = length s.rows.now in
    let values = h.new.values in
    let energies = h.new.energies in
    let ran = ran_of s.finish (state_at s.kept fs) xs room in
    let ends : ran ≡ settled_of h.result values energies (state_at s.kept fs) = subst (λ (d : VadDetector). ran_of s.finish d xs room ≡ settled_of h.result values energies d) (same (goal.at.returns c).After-lent_in) h.ensures.rows_value in record { refusal_value = (ran_tallied s.kept fs values energies h.result ran ends, kept_told _ s.kept.stream.carry_start h.result (subst (λ (d : VadDetector). IfOk h.result (λ x. (x.kept ≡ (ran_of s.finish d xs room).detector.kept) × (x.kept.stream.carry_start ≡ s.kept.stream.carry_start + x.consumed))) (same (goal.at.returns c).After-lent_in) h.ensures.kept_value)); floats_left = ran_arrays s.kept fs values energies h.result ran ends _ c.settle_at.ensures; rows_left = h.ensures.rows_left ∙ ap (λ (d : VadDetector). written_of s.finish d xs s.rows.now) (same (goal.at.returns c).After-lent_in) }
