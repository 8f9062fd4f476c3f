use mathlib.Core.Path.{◌≡◌, sym, ◌∙◌}
use mathlib.Core.Bool.{true}
use native.Mathlib.Omega.{arith}
use Rattle.refusals.specs.Refusals.{first_of}
use Rattle.vad_state.specs.State.{state_of, sound_of}
use Rattle.vad_state.specs.declared.VadDetector.{VadDetector}
use Rattle.vad_state.proofs.Parts.{parts}
use Rattle.vad_call.specs.Checks.{check_of}
use Rattle.vad_call.proofs.checks.check.Goals.{Else-not-sound_lent}
use Rattle.vad_call.proofs.checks.check.Goals as goal

-- the state whose arrays are lent
abbrev state : Else-not-sound_lent → VadDetector
state k = state_of k.args.kept k.args.arrays.window.now k.args.arrays.carry.now k.args.arrays.warmup.now

sound : (k : Else-not-sound_lent) → sound_of (state k) ≡ true
sound k = sym k.sound_lent.ensures ∙ k.if-not-sound_lent.false

pub returns-then-not-sound_lent : goal.returns-then-not-sound_lent
unfolding check_of first_of
returns-then-not-sound_lent c = simp (sym c.sound_lent.ensures ∙ c.if-not-sound_lent.true)

pub block_refusal-requires : goal.block_refusal-requires
block_refusal-requires c = let p = parts _ (sound (goal.at.block_refusal-requires c).Else-not-sound_lent) in omega arith

pub returns : goal.returns
unfolding check_of first_of
returns c = simp (sound (goal.at.returns c).Else-not-sound_lent) c.block_refusal.ensures
