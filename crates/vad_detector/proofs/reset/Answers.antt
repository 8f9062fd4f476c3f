use mathlib.Core.Path.{◌≡◌, sym, ◌∙◌}
use mathlib.Core.Bool.{true, false}
use Rattle.vad_config.specs.Domain.{start_in}
use Rattle.refusals.specs.Refusals.{first_of}
use Rattle.vad_state.specs.State.{sound_of}
use Rattle.vad_detector.specs.Opening.{reset_of}
use Rattle.vad_detector.proofs.reset.Goals.{Else-not-sound}
use Rattle.vad_detector.proofs.reset.Goals as goal

taken : (k : Else-not-sound) → sound_of k.args.detector ≡ true
taken k = sym k.sound.ensures ∙ k.if-not-sound.false

pub returns-then-not-sound : goal.returns-then-not-sound
unfolding reset_of first_of
returns-then-not-sound c = simp (sym c.sound.ensures ∙ c.if-not-sound.true)

pub returns-then-not-start_allowed : goal.returns-then-not-start_allowed
unfolding reset_of first_of
returns-then-not-start_allowed c =
    let late : start_in c.args.stream_start_time ≡ false = sym c.start_allowed.ensures ∙ c.if-not-start_allowed.true in
    simp (taken (goal.at.returns-then-not-start_allowed c).Else-not-sound, late)

pub restarted-requires : goal.restarted-requires
restarted-requires c = taken (goal.at.restarted-requires c).Else-not-sound

pub returns : goal.returns
unfolding reset_of first_of
returns c =
    let early : start_in c.args.stream_start_time ≡ true = sym c.start_allowed.ensures ∙ c.if-not-start_allowed.false in
    simp (taken (goal.at.returns c).Else-not-sound, early, c.restarted.ensures)
