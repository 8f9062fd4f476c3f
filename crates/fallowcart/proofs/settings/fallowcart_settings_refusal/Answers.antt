use mathlib.Core.Path.{ap, ◌∙◌}
use Rattle.refusals.specs.Refusals.{number_in}
use Rattle.std.specs.Prelude.{Result, ⊤}
use Rattle.refusals.specs.declared.Refusal.{Refusal}
use Rattle.vad_config.specs.Settings.{outcome_of, refusal_of}
use Rattle.fallowcart.proofs.settings.fallowcart_settings_refusal.Goals as goal

pub returns : goal.returns
unfolding refusal_of
returns c = c.number_in.ensures ∙ ap (λ (v : Result ⊤ Refusal). number_in v) (c.validate.ensures ∙ ap outcome_of c.collected.ensures)
