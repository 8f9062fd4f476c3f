use mathlib.Core.Path.{◌≡◌, sym, ◌∙◌}
use mathlib.Core.Bool.{true}
use native.Mathlib.Omega.{arith}
use lib.ListN.{length}
use Rattle.vad_state.specs.State.{sound_of}
use Rattle.vad_state.proofs.Parts.{parts}
use Rattle.vad_detector.proofs.Answers.{flush_refused, flush_ran, flushed_kept, flushed_written}
use Rattle.vad_detector.proofs.flush.Goals.{Else-not-sound}
use Rattle.vad_detector.proofs.flush.Goals as goal

taken : (k : Else-not-sound) → sound_of k.args.detector ≡ true
taken k = sym k.sound.ensures ∙ k.if-not-sound.false

pub returns-then-not-sound : goal.returns-then-not-sound
returns-then-not-sound c =
    let s = c.args in
    let t = c.sound in
    let malformed = c.if-not-sound.true in record { value = flush_refused s.detector t.result t.ensures malformed (length s.rows.now) c.refused.result c.refused.ensures; rows_left = flushed_kept s.detector t.result t.ensures malformed s.rows.now }

pub run-requires : goal.run-requires
run-requires c =
    let so_far = (parts _ (taken (goal.at.run-requires c).Else-not-sound)).received in
    record { detector_value = taken (goal.at.run-requires c).Else-not-sound; samples_len_bound = (omega arith, omega (arith, so_far)) }

pub returns : goal.returns
returns c =
    let s = c.args in
    let t = c.sound in
    let sound = c.if-not-sound.false in record { value = flush_ran s.detector t.result t.ensures sound (length s.rows.now) c.run.result c.run.ensures.value; rows_left = flushed_written s.detector t.result t.ensures sound s.rows.now c.run.new.rows c.run.ensures.rows_left }
