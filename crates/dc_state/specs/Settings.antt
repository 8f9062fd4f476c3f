-- Refusals 20 to 24 and 27: which settings, coefficients and states are taken. Floats are compared as floats, so a NaN is in no range, and −0 is in [−2,0].
use Rattle.std.specs.Prelude.{Bool, not, ◌&&◌, List, [], ◌∷◌, ℕ, eqb, pos, Float, Result, ⊤}
use Rattle.std.specs.Float.{binary32}
use Rattle.std.specs.Float.Ieee.{of_bits, of_int, le, lt, div, neg}
use Rattle.std.specs.Float.Ieee.Scale.{finite}
use Rattle.refusals.specs.Refusals.{Case, refusing, first_of, number_in}
use Rattle.refusals.specs.declared.Refusal.{Refusal}
use Rattle.refusals.specs.declared.Refusal.TheVariants as why
use Rattle.float.specs.Numbers.{zero32, one32}
use Rattle.ranges.specs.Ranges.{within, rate_in}
use Rattle.dc_state.specs.declared.biquad.BiquadCoefficients.{BiquadCoefficients}
use Rattle.dc_state.specs.declared.biquad.BiquadState.{BiquadState}
use Rattle.dc_state.specs.declared.HighpassOrder.{HighpassOrder}
use Rattle.dc_state.specs.declared.HighpassOrder.TheVariants.{SecondOrder, FourthOrder}
use Rattle.dc_state.specs.declared.PreprocessingConfig.{PreprocessingConfig}
use Rattle.dc_state.specs.declared.DcHighPassFilter.{DcHighPassFilter}

-- 2 and 20, by their bits
abbrev pub two : Float
two = of_bits binary32 0x4000_0000

abbrev pub twenty : Float
twenty = of_bits binary32 0x41A0_0000

-- 21: 'cutoff not finite or below 20'
abbrev pub cutoff_taken : Float → Bool
cutoff_taken cutoff = finite cutoff && le twenty cutoff

-- 22: 'cutoff not below half the rate'
abbrev pub below_half : Float → ℕ → Bool
below_half cutoff rate = lt cutoff (div binary32 (of_int binary32 (pos rate)) two)

-- 23: '`dc_bias_alpha` not in (0,1)'
abbrev pub alpha_taken : Float → Bool
alpha_taken alpha = lt zero32 alpha && lt alpha one32

-- 24: 'b0, b2 in [0,1], b1 in [-2,0], a1 in [-2,2], a2 in [-1,1]'
unfoldable pub stage_taken : BiquadCoefficients → Bool
stage_taken c =
    within zero32 c.b0 one32 && within zero32 c.b2 one32 && within (neg two) c.b1 zero32 && within (neg two) c.a1 two && within (neg one32) c.a2 one32

-- 'a stage in use': the order alone says which
unfoldable pub stages_taken : HighpassOrder → BiquadCoefficients → BiquadCoefficients → Bool
stages_taken SecondOrder first second = stage_taken first
stages_taken FourthOrder first second = stage_taken first && stage_taken second

-- 'filter opening 20 to 24'; 20: 'rate outside the domain'
unfoldable pub setting_refusals : PreprocessingConfig → BiquadCoefficients → BiquadCoefficients → List Case
setting_refusals c first second =
    refusing why.FilterRate (not (rate_in c.sample_rate_hz))
    ∷ refusing why.FilterCutoff (not (cutoff_taken c.highpass_cutoff_hz))
    ∷ refusing why.FilterHalfRate (not (below_half c.highpass_cutoff_hz c.sample_rate_hz))
    ∷ refusing why.FilterAlpha (not (alpha_taken c.dc_bias_alpha))
    ∷ refusing why.FilterCoefficient (not (stages_taken c.highpass_order first second))
    ∷ []

-- the first that refuses
unfoldable pub outcome_of : PreprocessingConfig → BiquadCoefficients → BiquadCoefficients → Result ⊤ Refusal
outcome_of c first second = first_of (setting_refusals c first second)

-- its number, and 0 where nothing is refused
unfoldable pub refusal_of : PreprocessingConfig → BiquadCoefficients → BiquadCoefficients → ℕ
refusal_of c first second = number_in (outcome_of c first second)

unfoldable pub remembers_finite : BiquadState → Bool
remembers_finite s = finite s.x1 && finite s.x2 && finite s.y1 && finite s.y2

-- 27: 'filter state malformed: its settings fail 20 to 24, or a remembered number isn't finite'. Each is looked at, those of an unused second stage too.
unfoldable pub sound_of : DcHighPassFilter → Bool
sound_of f =
    eqb (refusal_of f.config f.first.coeffs f.second.coeffs) 0 && finite f.dc_bias && remembers_finite f.first.state && remembers_finite f.second.state
