-- Blocks computed from the definitions.
use Rattle.std.specs.Prelude.{None, Some, Err}
use mathlib.Core.Path.{◌≡◌, refl}
use mathlib.Core.Bool.{true, false}
use mathlib.Core.List.{List, [], ◌∷◌}
use Prim.Native.Nat.{ℕ}
use lib.Ieee.{Float, binary32, of_bits, of_int, le, lt, add, sub, mul, div, neg, sum, round}
use Rattle.refusals.specs.Refusals.{first_of}
use Rattle.refusals.specs.declared.Refusal.TheVariants as why
use Rattle.float.specs.Fused.{fused_of}
use Rattle.ranges.specs.Ranges.{leading_of, clean_of, rate_in}
use Rattle.dc_state.specs.Biquad.{output_of, next_of}
use Rattle.dc_state.specs.Settings.{setting_refusals, outcome_of, refusal_of, stage_taken, stages_taken, sound_of, remembers_finite}
use Rattle.dc_state.specs.Operations.{centred_of}
use Rattle.dc_state.specs.declared.HighpassOrder.TheVariants.{SecondOrder}
use Rattle.dc_state.specs.declared.DcHighPassFilter.{DcHighPassFilter}
use Rattle.dc_state.proofs.Examples.{settings, stage, plain, missing}
use Rattle.dc_highpass.specs.Filter.{fresh_of, biased_of, bias_of, mean_of, sum_from, staged_by, pass_of, results_of, after_of, check_of, stop_of, ran_of, process_of, written_of, output_after}
use Rattle.dc_highpass.specs.declared.VadContext.TheVariants.{Silence, Speech}

-- the samples 1, 1, 1 through one plain stage: 1/2, −1/2, 0
pub three_samples : results_of (fresh_of (settings 0x42A0_0000 16000 0x3F73_3333 false true SecondOrder) plain missing) (of_bits binary32 0x3F80_0000 ∷ of_bits binary32 0x3F80_0000 ∷ of_bits binary32 0x3F80_0000 ∷ [])
    ≡ of_bits binary32 0x3F00_0000 ∷ of_bits binary32 0xBF00_0000 ∷ of_bits binary32 0 ∷ []
unfolding results_of pass_of staged_by centred_of output_of next_of fresh_of fused_of of_bits mul sub add neg sum round
three_samples = refl

-- with alpha 0.4 and the high-pass off, the blocks [−2^-149], [+0], [−0] leave a bias of −0: the sum starts from −0
abbrev pub quiet : DcHighPassFilter
quiet = fresh_of (settings 0x42A0_0000 16000 0x3ECC_CCCD true false SecondOrder) plain missing

abbrev pub after : DcHighPassFilter → ℕ → DcHighPassFilter
after f sample = (process_of f (of_bits binary32 sample ∷ []) (Some Silence) 1).filter

pub sum_from_minus_zero : (after (after (after quiet 0x8000_0001) 0) 0x8000_0000).dc_bias ≡ of_bits binary32 0x8000_0000
unfolding process_of ran_of stop_of check_of first_of clean_of leading_of sound_of remembers_finite refusal_of outcome_of setting_refusals rate_in stages_taken stage_taken results_of after_of pass_of centred_of biased_of bias_of mean_of sum_from fresh_of fused_of of_bits of_int le lt mul sub add div neg sum round
sum_from_minus_zero = refl

-- speech leaves the bias alone
pub bias_in_speech : biased_of quiet (of_bits binary32 0x3F80_0000 ∷ []) (Some Speech) ≡ quiet
unfolding biased_of fresh_of
bias_in_speech = refl

-- b2 1, a1 −2, and the largest f32 remembered: the first result is that number, the second overflows
abbrev pub loud : DcHighPassFilter
loud =
    record {
      config = settings 0x42A0_0000 16000 0x3F73_3333 true true SecondOrder;
      first = record {
        coeffs = stage 0 0 0x3F80_0000 0xC000_0000 0;
        state = record { x1 = of_bits binary32 0; x2 = of_bits binary32 0x7F7F_FFFF; y1 = of_bits binary32 0; y2 = of_bits binary32 0 };
      };
      second = record { coeffs = missing; state = record { x1 = of_bits binary32 0; x2 = of_bits binary32 0; y1 = of_bits binary32 0; y2 = of_bits binary32 0 } };
      dc_bias = of_bits binary32 0;
    }

abbrev pub two_zeros : List Float
two_zeros = of_bits binary32 0 ∷ of_bits binary32 0 ∷ []

abbrev pub three_ones : List Float
three_ones = of_bits binary32 0x3F80_0000 ∷ of_bits binary32 0x3F80_0000 ∷ of_bits binary32 0x3F80_0000 ∷ []

-- 26 carries the place, and the state is the one given
pub overflow_refused : process_of loud two_zeros None 3 ≡ record { outcome = Err (why.FilterOverflow 1); filter = loud }
unfolding process_of ran_of stop_of check_of first_of clean_of leading_of sound_of remembers_finite refusal_of outcome_of setting_refusals rate_in stages_taken stage_taken results_of after_of pass_of staged_by output_of next_of centred_of biased_of bias_of mean_of sum_from fused_of of_bits of_int le lt mul sub add div neg sum round
overflow_refused = refl

-- the output holds the result before the place, a zero to the block's length, and its old contents beyond
pub overflow_output : output_after loud two_zeros None three_ones ≡ of_bits binary32 0x7F7F_FFFF ∷ of_bits binary32 0 ∷ of_bits binary32 0x3F80_0000 ∷ []
unfolding output_after written_of check_of first_of clean_of leading_of sound_of remembers_finite refusal_of outcome_of setting_refusals rate_in stages_taken stage_taken results_of pass_of staged_by output_of next_of centred_of biased_of bias_of mean_of sum_from fused_of of_bits of_int le lt mul sub add div neg sum round
overflow_output = refl
