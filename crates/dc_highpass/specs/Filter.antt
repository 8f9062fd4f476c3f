-- The filter of document 01: opening, a block, reset, the bias.
use Rattle.std.specs.Prelude.{Bool, true, false, not, ◌&&◌, cond, List, [], ◌∷◌, ◌++◌, ℕ, ◌-◌, ltb, length, drop, replicate, get_or, pos, Float, None, Option, Some, Result, Ok, Err, ⊤}
use Rattle.std.specs.Float.{binary32}
use Rattle.std.specs.Float.Ieee.{of_int, add, sub, mul, div, neg}
use Rattle.std.specs.Float.Ieee.Scale.{finite}
use Rattle.refusals.specs.Refusals.{refusing, first_of, if_passed}
use Rattle.refusals.specs.declared.Refusal.{Refusal}
use Rattle.refusals.specs.declared.Refusal.TheVariants as why
use Rattle.float.specs.Numbers.{zero32, one32}
use Rattle.float.specs.Fused.{fused_of}
use Rattle.ranges.specs.Ranges.{clean_of}
use Rattle.ranges.specs.Sizes.{block_most}
use Rattle.dc_state.specs.Biquad.{or_nan, stepped, heard}
-- five numbers in the order b0, b1, b2, a1, a2
unfoldable pub use Rattle.dc_state.specs.Biquad.{coefficients_of}
use Rattle.dc_state.specs.Settings.{outcome_of, sound_of}
use Rattle.dc_state.specs.Operations.{centred_of}
use Rattle.dc_state.specs.declared.biquad.BiquadCoefficients.{BiquadCoefficients}
use Rattle.dc_state.specs.declared.biquad.BiquadState.{BiquadState}
use Rattle.dc_state.specs.declared.HighpassOrder.{HighpassOrder}
use Rattle.dc_state.specs.declared.HighpassOrder.TheVariants.{SecondOrder, FourthOrder}
use Rattle.dc_state.specs.declared.PreprocessingConfig.{PreprocessingConfig}
use Rattle.dc_state.specs.declared.DcHighPassFilter.{DcHighPassFilter}
use Rattle.dc_highpass.specs.declared.VadContext.{VadContext}
use Rattle.dc_highpass.specs.declared.VadContext.TheVariants.{Silence, Speech}
use Rattle.dc_highpass.specs.declared.Answered.{Answered}

-- ---- opening

abbrev pub still : BiquadState
still = record { x1 = zero32; x2 = zero32; y1 = zero32; y2 = zero32 }

-- nothing remembered
unfoldable pub fresh_of : PreprocessingConfig → BiquadCoefficients → BiquadCoefficients → DcHighPassFilter
fresh_of c first second =
    record { config = c; first = record { coeffs = first; state = still }; second = record { coeffs = second; state = still }; dc_bias = zero32 }

-- 'A refused opening returns an all-zero state'
unfoldable pub nothing_open : DcHighPassFilter
nothing_open =
    fresh_of
    record {
      highpass_cutoff_hz = zero32;
      sample_rate_hz = 0;
      dc_bias_alpha = zero32;
      enable_dc_removal = false;
      enable_highpass = false;
      highpass_order = SecondOrder;
    }
    record { b0 = zero32; b1 = zero32; b2 = zero32; a1 = zero32; a2 = zero32 }
    record { b0 = zero32; b1 = zero32; b2 = zero32; a1 = zero32; a2 = zero32 }

-- 'filter opening 20 to 24'
unfoldable pub open_of : PreprocessingConfig → List (List Float) → Answered
open_of c a =
    let first = coefficients_of (get_or a 0 []) in
    let second = coefficients_of (get_or a 1 []) in
    let v = outcome_of c first second in
    record { outcome = v; filter = if_passed v (fresh_of c first second) (λ r. nothing_open) }

-- ---- a block: bias, subtraction, stages

-- 'when removal is on, the block isn't empty and is silent or unlabelled'
abbrev pub listens : Option VadContext → Bool
listens None = true
listens (Some Silence) = true
listens (Some Speech) = false

abbrev pub is_empty : List Float → Bool
is_empty [] = true
is_empty (x ∷ xs) = false

unfoldable pub sum_from : Float → List Float → Float
sum_from t [] = t
sum_from t (x ∷ xs) = sum_from (add binary32 t x) xs

-- 'mean = f32 sum left to right / length', and the sum starts from −0
unfoldable pub mean_of : List Float → Float
mean_of xs = div binary32 (sum_from (neg zero32) xs) (of_int binary32 (pos (length xs)))

-- 'new bias = fused(alpha, bias, (1 − alpha) × mean)'
unfoldable pub bias_of : Float → Float → List Float → Float
bias_of alpha bias xs = or_nan (fused_of alpha bias (mul binary32 (sub binary32 one32 alpha) (mean_of xs)))

unfoldable pub biased_of : DcHighPassFilter → List Float → Option VadContext → DcHighPassFilter
biased_of f xs label =
    cond (f.config.enable_dc_removal && (not (is_empty xs) && listens label))
    record { config = f.config; first = f.first; second = f.second; dc_bias = bias_of f.config.dc_bias_alpha f.dc_bias xs }
    f

-- the filter after one sample, and the sample's result, which need not be finite
pub record Passed : Type 0 where
  pub filter : DcHighPassFilter
  pub output : Float

-- 'passes the stages in order'; 'second order never reads the second'
unfoldable pub staged_by : HighpassOrder → DcHighPassFilter → Float → Passed
staged_by SecondOrder f x =
    record { filter = record { config = f.config; first = stepped f.first x; second = f.second; dc_bias = f.dc_bias }; output = heard f.first x }
staged_by FourthOrder f x =
    let y = heard f.first x in
    record {
      filter = record { config = f.config; first = stepped f.first x; second = stepped f.second y; dc_bias = f.dc_bias };
      output = heard f.second y;
    }

-- one sample: the bias taken off, then the stages 'if the high-pass is on'
unfoldable pub pass_of : DcHighPassFilter → Float → Passed
pass_of f x =
    cond f.config.enable_highpass (staged_by f.config.highpass_order f (centred_of f x)) (record { filter = f; output = centred_of f x })

-- the results of a block's samples, up to the first that isn't finite
unfoldable pub results_of : DcHighPassFilter → List Float → List Float
results_of f [] = []
results_of f (x ∷ xs) = let p = pass_of f x in cond (finite p.output) (p.output ∷ results_of p.filter xs) []

-- the filter after those samples
unfoldable pub after_of : DcHighPassFilter → List Float → DcHighPassFilter
after_of f [] = f
after_of f (x ∷ xs) = let p = pass_of f x in cond (finite p.output) (after_of p.filter xs) f

-- ---- process

-- 'Filter 27, 15, 25, 16', which come before anything is written
unfoldable pub check_of : DcHighPassFilter → List Float → ℕ → Result ⊤ Refusal
check_of f xs room =
    first_of (
    refusing why.FilterState (not (sound_of f))
    ∷ refusing why.Block (ltb block_most (length xs))
    ∷ refusing why.FilterOutput (ltb room (length xs))
    ∷ refusing (why.Sample (clean_of xs)) (ltb (clean_of xs) (length xs))
    ∷ []
    )

-- '26': a sample without a finite result; carries its place
unfoldable pub stop_of : DcHighPassFilter → List Float → Result ⊤ Refusal
stop_of f xs = first_of (refusing (why.FilterOverflow (length (results_of f xs))) (ltb (length (results_of f xs)) (length xs)) ∷ [])

-- after it 'the filter state, bias included, is the one given'
unfoldable pub ran_of : DcHighPassFilter → DcHighPassFilter → List Float → Answered
ran_of given f xs = let v = stop_of f xs in record { outcome = v; filter = if_passed v (after_of f xs) (λ r. given) }

unfoldable pub process_of : DcHighPassFilter → List Float → Option VadContext → ℕ → Answered
process_of f xs label room =
    if_passed (check_of f xs room) (ran_of f (biased_of f xs label) xs) (λ r. record { outcome = Err r; filter = f })

-- the results, zeros to the block's length where one is missing, and the old contents beyond
unfoldable pub written_of : List Float → ℕ → List Float → List Float
written_of ys n out = ys ++ (replicate (n - length ys) zero32 ++ drop n out)

unfoldable pub output_after : DcHighPassFilter → List Float → Option VadContext → List Float → List Float
output_after f xs label out = if_passed (check_of f xs (length out)) (written_of (results_of (biased_of f xs label) xs) (length xs) out) (λ r. out)

-- ---- reset, and the bias read

unfoldable pub reset_of : DcHighPassFilter → Answered
reset_of f =
    cond (sound_of f) (record { outcome = Ok tt; filter = fresh_of f.config f.first.coeffs f.second.coeffs }) (record { outcome = Err why.FilterState; filter = f })

unfoldable pub bias_read : DcHighPassFilter → Result Float Refusal
bias_read f = cond (sound_of f) (Ok f.dc_bias) (Err why.FilterState)
