use Rattle.std.proofs.Common.{◌≡◌, rules, ◌∙◌, sym}
use Rattle.std.specs.Prelude.{Err}
use Rattle.vad_detector.proofs.Answers.{refused_settings, refused_handed, refused_none}
use Rattle.vad_detector.proofs.opening_refusal.Goals as goal

pub returns-in_err-validate : goal.returns-in_err-validate
returns-in_err-validate c =
    let s = c.args in
    let gone : c.from_residual.result ≡ Err c.in_err-validate.field-0.0 = search rules in
    gone ∙ sym (refused_settings s.config s.window.now s.speech_floor_rise (sym c.validate.ensures ∙ c.in_err-validate.was))

pub returns-then-not-weights_fit : goal.returns-then-not-weights_fit
returns-then-not-weights_fit c =
    let s = c.args in
    let l = c.lengths_of-lengths in
    let h = c.weights_fit in
    refused_handed s.config s.window.now s.speech_floor_rise (sym c.validate.ensures ∙ c.in_ok-validate.was) l.result l.ensures h.result h.ensures (c.if-not-weights_fit.true)

pub returns : goal.returns
returns c =
    let s = c.args in
    let l = c.lengths_of-lengths in
    let h = c.weights_fit in
    refused_none s.config s.window.now s.speech_floor_rise (sym c.validate.ensures ∙ c.in_ok-validate.was) l.result l.ensures h.result h.ensures (c.if-not-weights_fit.false)
