-- The three runs of tests, one after the other. Assumes nothing.
use Rattle.std.proofs.Common.{◌≡◌, ◌++◌, ◌∙◌}
use Rattle.std.specs.Prelude.{Ok, Err}
use Rattle.refusals.specs.Refusals.{first_of}
use Rattle.refusals.specs.declared.Refusal.{Refusal}
use Rattle.refusals.proofs.First.{first_found, first_none}
use Rattle.vad_config.specs.declared.VadConfig.{VadConfig}
use Rattle.vad_config.specs.Settings.{framing_refusals, level_refusals, limit_refusals, outcome_of}

module _ (c : VadConfig) where
  pub in_framing : {r : Refusal} → first_of (framing_refusals c) ≡ Err r → outcome_of c ≡ Err r
  unfolding outcome_of
  in_framing = first_found (framing_refusals c) (level_refusals c ++ limit_refusals c)

  module _ (h : first_of (framing_refusals c) ≡ Ok tt) where
    after_framing : outcome_of c ≡ first_of (level_refusals c ++ limit_refusals c)
    unfolding outcome_of
    after_framing = first_none (framing_refusals c) (level_refusals c ++ limit_refusals c) h

    pub in_levels : {r : Refusal} → first_of (level_refusals c) ≡ Err r → outcome_of c ≡ Err r
    in_levels g = after_framing ∙ first_found (level_refusals c) (limit_refusals c) g

    pub in_limits : first_of (level_refusals c) ≡ Ok tt → outcome_of c ≡ first_of (limit_refusals c)
    in_limits g = after_framing ∙ first_none (level_refusals c) (limit_refusals c) g
