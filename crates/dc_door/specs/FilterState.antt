-- The filter's state as 25 words of 32 bits, which the host keeps.
--   0 cutoff, 1 rate, 2 alpha, 3 removal on, 4 high-pass on, 5 order (0 second, 1 fourth)
--   6 to 14 stage one, 15 to 23 stage two: b0 b1 b2 a1 a2, then x1 x2 y1 y2
--   24 the bias
use Rattle.std.specs.Prelude.{Bool, ◌&&◌, List, [], ◌∷◌, ◌++◌, ℕ, ◌+◌, leb, length, drop, get_or, Float}
use Rattle.std.specs.Float.{binary32}
use Rattle.std.specs.Float.Ieee.{of_bits, to_bits}
use Rattle.lists.specs.Flags.{flag_at, flag_word}
-- the order from a flag, and as a word
pub use Rattle.dc_state.specs.Orders.{order_of, order_word}
use Rattle.dc_state.specs.declared.biquad.Biquad.{Biquad}
use Rattle.dc_state.specs.declared.biquad.BiquadCoefficients.{BiquadCoefficients}
use Rattle.dc_state.specs.declared.biquad.BiquadState.{BiquadState}
use Rattle.dc_state.specs.declared.PreprocessingConfig.{PreprocessingConfig}
use Rattle.dc_state.specs.declared.DcHighPassFilter.{DcHighPassFilter}

-- ---- from words to a filter

abbrev pub number_at : List ℕ → ℕ → Float
number_at ws i = of_bits binary32 (get_or ws i 0)

unfoldable pub coefficients_at : List ℕ → ℕ → BiquadCoefficients
coefficients_at ws i =
    record { b0 = number_at ws i; b1 = number_at ws (i + 1); b2 = number_at ws (i + 2); a1 = number_at ws (i + 3); a2 = number_at ws (i + 4) }

unfoldable pub memory_at : List ℕ → ℕ → BiquadState
memory_at ws i = record { x1 = number_at ws i; x2 = number_at ws (i + 1); y1 = number_at ws (i + 2); y2 = number_at ws (i + 3) }

unfoldable pub stage_at : List ℕ → ℕ → Biquad
stage_at ws i = record { coeffs = coefficients_at ws i; state = memory_at ws (i + 5) }

unfoldable pub config_at : List ℕ → PreprocessingConfig
config_at ws =
    record {
      highpass_cutoff_hz = number_at ws 0;
      sample_rate_hz = get_or ws 1 0;
      dc_bias_alpha = number_at ws 2;
      enable_dc_removal = flag_at ws 3;
      enable_highpass = flag_at ws 4;
      highpass_order = order_of (flag_at ws 5);
    }

unfoldable pub filter_at : List ℕ → DcHighPassFilter
filter_at ws = record { config = config_at ws; first = stage_at ws 6; second = stage_at ws 15; dc_bias = number_at ws 24 }

-- long enough, and no flag above 1: else the state is malformed
unfoldable pub readable : List ℕ → Bool
readable ws = leb 25 (length ws) && (leb (get_or ws 3 0) 1 && (leb (get_or ws 4 0) 1 && leb (get_or ws 5 0) 1))

-- ---- from a filter to words

-- every NaN has the same word
abbrev pub word_of : Float → ℕ
word_of x = to_bits binary32 x

unfoldable pub config_words : PreprocessingConfig → List ℕ
config_words c =
    word_of c.highpass_cutoff_hz
    ∷ c.sample_rate_hz
    ∷ word_of c.dc_bias_alpha
    ∷ flag_word c.enable_dc_removal
    ∷ flag_word c.enable_highpass
    ∷ order_word c.highpass_order
    ∷ []

unfoldable pub coefficient_words : BiquadCoefficients → List ℕ
coefficient_words c = word_of c.b0 ∷ word_of c.b1 ∷ word_of c.b2 ∷ word_of c.a1 ∷ word_of c.a2 ∷ []

unfoldable pub memory_words : BiquadState → List ℕ
memory_words s = word_of s.x1 ∷ word_of s.x2 ∷ word_of s.y1 ∷ word_of s.y2 ∷ []

unfoldable pub stage_words : Biquad → List ℕ
stage_words b = coefficient_words b.coeffs ++ memory_words b.state

unfoldable pub words_of : DcHighPassFilter → List ℕ
words_of f = config_words f.config ++ (stage_words f.first ++ (stage_words f.second ++ (word_of f.dc_bias ∷ [])))

-- the first 25 words are the filter's, those beyond stay
unfoldable pub written : DcHighPassFilter → List ℕ → List ℕ
written f ws = words_of f ++ drop 25 ws
