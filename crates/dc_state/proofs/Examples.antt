-- Settings at the edges of refusals 20 to 24, computed from the definitions.
use mathlib.Core.Path.{◌≡◌, refl}
use mathlib.Core.Bool.{Bool, true, false}
use Prim.Native.Nat.{ℕ}
use lib.Ieee.{binary32, of_bits, of_int, le, lt, div, neg, round}
use Rattle.refusals.specs.Refusals.{first_of}
use Rattle.ranges.specs.Ranges.{rate_in}
use Rattle.dc_state.specs.Settings.{setting_refusals, outcome_of, refusal_of, stage_taken, stages_taken}
use Rattle.dc_state.specs.declared.biquad.BiquadCoefficients.{BiquadCoefficients}
use Rattle.dc_state.specs.declared.HighpassOrder.{HighpassOrder}
use Rattle.dc_state.specs.declared.HighpassOrder.TheVariants.{SecondOrder, FourthOrder}
use Rattle.dc_state.specs.declared.PreprocessingConfig.{PreprocessingConfig}

-- settings by the bits of cutoff and alpha, the rate, the switches and the order
abbrev pub settings : ℕ → ℕ → ℕ → Bool → Bool → HighpassOrder → PreprocessingConfig
settings cutoff rate alpha removal highpass order =
    record {
      highpass_cutoff_hz = of_bits binary32 cutoff;
      sample_rate_hz = rate;
      dc_bias_alpha = of_bits binary32 alpha;
      enable_dc_removal = removal;
      enable_highpass = highpass;
      highpass_order = order;
    }

-- coefficients by their bits
abbrev pub stage : ℕ → ℕ → ℕ → ℕ → ℕ → BiquadCoefficients
stage b0 b1 b2 a1 a2 =
    record { b0 = of_bits binary32 b0; b1 = of_bits binary32 b1; b2 = of_bits binary32 b2; a1 = of_bits binary32 a1; a2 = of_bits binary32 a2 }

-- b0 1/2, b1 −1, b2 1/2, a1 and a2 0
abbrev pub plain : BiquadCoefficients
plain = stage 0x3F00_0000 0xBF80_0000 0x3F00_0000 0 0

abbrev pub missing : BiquadCoefficients
missing = stage 0x7FC0_0000 0x7FC0_0000 0x7FC0_0000 0x7FC0_0000 0x7FC0_0000

-- ---- 20 to 24
-- 'The filter's order alone, and no switch, says which stages are in use'
pub stages_in_use :
    (refusal_of (settings 0x42A0_0000 16000 0x3F73_3333 true true SecondOrder) plain missing ≡ 0)
    × (refusal_of (settings 0x42A0_0000 16000 0x3F73_3333 true true FourthOrder) plain missing ≡ 24)
    × (refusal_of (settings 0x42A0_0000 16000 0x3F73_3333 true false SecondOrder) missing plain ≡ 24)
unfolding refusal_of outcome_of setting_refusals first_of rate_in stages_taken stage_taken of_bits le lt div of_int neg round
stages_in_use = (refl, refl, refl)

-- 8,000 and 48,000 are in the domain, their neighbours outside are not
pub rate_edges :
    (refusal_of (settings 0x42A0_0000 7999 0x3F73_3333 true true SecondOrder) plain plain ≡ 20)
    × (refusal_of (settings 0x42A0_0000 8000 0x3F73_3333 true true SecondOrder) plain plain ≡ 0)
    × (refusal_of (settings 0x42A0_0000 48000 0x3F73_3333 true true SecondOrder) plain plain ≡ 0)
    × (refusal_of (settings 0x42A0_0000 48001 0x3F73_3333 true true SecondOrder) plain plain ≡ 20)
unfolding refusal_of outcome_of setting_refusals first_of rate_in stages_taken stage_taken of_bits le lt div of_int neg round
rate_edges = (refl, refl, refl, refl)

-- a cutoff that is NaN, infinite, the float below 20, and 20; half the rate, and the float below
pub cutoff_edges :
    (refusal_of (settings 0x7FC0_0000 16000 0x3F73_3333 true true SecondOrder) plain plain ≡ 21)
    × (refusal_of (settings 0x7F80_0000 16000 0x3F73_3333 true true SecondOrder) plain plain ≡ 21)
    × (refusal_of (settings 0x419F_FFFF 16000 0x3F73_3333 true true SecondOrder) plain plain ≡ 21)
    × (refusal_of (settings 0x41A0_0000 16000 0x3F73_3333 true true SecondOrder) plain plain ≡ 0)
    × (refusal_of (settings 0x45FA_0000 16000 0x3F73_3333 true true SecondOrder) plain plain ≡ 22)
    × (refusal_of (settings 0x45F9_FFFF 16000 0x3F73_3333 true true SecondOrder) plain plain ≡ 0)
unfolding refusal_of outcome_of setting_refusals first_of rate_in stages_taken stage_taken of_bits le lt div of_int neg round
cutoff_edges = (refl, refl, refl, refl, refl, refl)

-- alpha 0, −0, 1 and NaN; the floats next to 0 and 1
pub alpha_edges :
    (refusal_of (settings 0x42A0_0000 16000 0 true true SecondOrder) plain plain ≡ 23)
    × (refusal_of (settings 0x42A0_0000 16000 0x8000_0000 true true SecondOrder) plain plain ≡ 23)
    × (refusal_of (settings 0x42A0_0000 16000 0x3F80_0000 true true SecondOrder) plain plain ≡ 23)
    × (refusal_of (settings 0x42A0_0000 16000 0x7FC0_0000 true true SecondOrder) plain plain ≡ 23)
    × (refusal_of (settings 0x42A0_0000 16000 1 true true SecondOrder) plain plain ≡ 0)
    × (refusal_of (settings 0x42A0_0000 16000 0x3F7F_FFFF true true SecondOrder) plain plain ≡ 0)
unfolding refusal_of outcome_of setting_refusals first_of rate_in stages_taken stage_taken of_bits le lt div of_int neg round
alpha_edges = (refl, refl, refl, refl, refl, refl)

-- the ends of 24's ranges are in them, −0 too
pub range_ends :
    (refusal_of (settings 0x42A0_0000 16000 0x3F73_3333 true true SecondOrder) (stage 0x3F80_0000 0xC000_0000 0x8000_0000 0x4000_0000 0xBF80_0000) missing ≡ 0)
    × (refusal_of (settings 0x42A0_0000 16000 0x3F73_3333 true true SecondOrder) (stage 0 0x8000_0000 0x3F80_0000 0xC000_0000 0x3F80_0000) missing ≡ 0)
unfolding refusal_of outcome_of setting_refusals first_of rate_in stages_taken stage_taken of_bits le lt div of_int neg round
range_ends = (refl, refl)

-- the floats past them are not: b0 above and below, b1, b2, a1, a2
pub range_edges :
    (refusal_of (settings 0x42A0_0000 16000 0x3F73_3333 true true SecondOrder) (stage 0x3F80_0001 0xBF80_0000 0x3F00_0000 0 0) missing ≡ 24)
    × (refusal_of (settings 0x42A0_0000 16000 0x3F73_3333 true true SecondOrder) (stage 0x8000_0001 0xBF80_0000 0x3F00_0000 0 0) missing ≡ 24)
    × (refusal_of (settings 0x42A0_0000 16000 0x3F73_3333 true true SecondOrder) (stage 0x3F00_0000 1 0x3F00_0000 0 0) missing ≡ 24)
    × (refusal_of (settings 0x42A0_0000 16000 0x3F73_3333 true true SecondOrder) (stage 0x3F00_0000 0xC000_0001 0x3F00_0000 0 0) missing ≡ 24)
    × (refusal_of (settings 0x42A0_0000 16000 0x3F73_3333 true true SecondOrder) (stage 0x3F00_0000 0xBF80_0000 0x3F80_0001 0 0) missing ≡ 24)
    × (refusal_of (settings 0x42A0_0000 16000 0x3F73_3333 true true SecondOrder) (stage 0x3F00_0000 0xBF80_0000 0x8000_0001 0 0) missing ≡ 24)
    × (refusal_of (settings 0x42A0_0000 16000 0x3F73_3333 true true SecondOrder) (stage 0x3F00_0000 0xBF80_0000 0x3F00_0000 0x4000_0001 0) missing ≡ 24)
    × (refusal_of (settings 0x42A0_0000 16000 0x3F73_3333 true true SecondOrder) (stage 0x3F00_0000 0xBF80_0000 0x3F00_0000 0xC000_0001 0) missing ≡ 24)
    × (refusal_of (settings 0x42A0_0000 16000 0x3F73_3333 true true SecondOrder) (stage 0x3F00_0000 0xBF80_0000 0x3F00_0000 0 0x3F80_0001) missing ≡ 24)
    × (refusal_of (settings 0x42A0_0000 16000 0x3F73_3333 true true SecondOrder) (stage 0x3F00_0000 0xBF80_0000 0x3F00_0000 0 0xBF80_0001) missing ≡ 24)
unfolding refusal_of outcome_of setting_refusals first_of rate_in stages_taken stage_taken of_bits le lt div of_int neg round
range_edges = (refl, refl, refl, refl, refl, refl, refl, refl, refl, refl)
