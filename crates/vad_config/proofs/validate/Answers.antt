use Rattle.std.proofs.Common.{◌≡◌, rules, ◌∙◌, sym}
use Rattle.std.specs.Prelude.{Err}
use Rattle.vad_config.proofs.First.{in_framing, in_levels, in_limits}
use Rattle.vad_config.proofs.validate.Goals as goal

pub returns-in_err-framing : goal.returns-in_err-framing
returns-in_err-framing c =
    let gone : c.from_residual.result ≡ Err c.in_err-framing.field-0.0 = search rules in
    gone ∙ sym (in_framing _ (sym c.framing.ensures ∙ c.in_err-framing.was))

pub returns-in_err-levels : goal.returns-in_err-levels
returns-in_err-levels c =
    let gone : c.from_residual-in_err-levels.result ≡ Err c.in_err-levels.field-0.0 = search rules in
    gone ∙ sym (in_levels _ (sym c.framing.ensures ∙ c.in_ok-framing.was) (sym c.levels.ensures ∙ c.in_err-levels.was))

pub returns : goal.returns
returns c = c.limits.ensures ∙ sym (in_limits _ (sym c.framing.ensures ∙ c.in_ok-framing.was) (sym c.levels.ensures ∙ c.in_ok-levels.was))
