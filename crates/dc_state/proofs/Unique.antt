-- Two answers that meet a contract are equal: each contract is an equation.
use mathlib.Core.Path.{◌≡◌}
use mathlib.Core.Bool.{Bool}
use lib.Ieee.{Float}
use Rattle.std.specs.Prelude.{Result, ⊤}
use Rattle.refusals.specs.declared.Refusal.{Refusal}
use Rattle.float.specs.Fused.{fused_of}
use Rattle.float.proofs.Unique.{only}
use Rattle.dc_state.specs.Biquad.{or_nan, output_of, next_of}
use Rattle.dc_state.specs.Settings.{outcome_of, sound_of}
use Rattle.dc_state.specs.declared.biquad.BiquadCoefficients.{BiquadCoefficients}
use Rattle.dc_state.specs.declared.biquad.BiquadState.{BiquadState}
use Rattle.dc_state.specs.declared.PreprocessingConfig.{PreprocessingConfig}
use Rattle.dc_state.specs.declared.DcHighPassFilter.{DcHighPassFilter}

pub validate_unique : (c : PreprocessingConfig) (first second : BiquadCoefficients) (r q : Result ⊤ Refusal) → r ≡ outcome_of c first second → q ≡ outcome_of c first second → r ≡ q
validate_unique c first second r q = only

pub sound_unique : (f : DcHighPassFilter) (r q : Bool) → r ≡ sound_of f → q ≡ sound_of f → r ≡ q
sound_unique f r q = only

pub fused_unique : (a b c r q : Float) → r ≡ or_nan (fused_of a b c) → q ≡ or_nan (fused_of a b c) → r ≡ q
fused_unique a b c r q = only

-- the step, by value and lent: the memory and the output
pub step_unique : (c : BiquadCoefficients) (s r q : BiquadState) (x y z : Float) → (r ≡ next_of c s x) × (y ≡ output_of c s x) → (q ≡ next_of c s x) × (z ≡ output_of c s x) → (r ≡ q) × (y ≡ z)
step_unique c s r q x y z h k = (only h.0 k.0, only h.1 k.1)
