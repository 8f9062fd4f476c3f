-- What the door writes is what it reads at the next call. Assumes nothing.
use mathlib.Core.Path.{◌≡◌, refl}
use mathlib.Core.Bool.{Bool, true, ◌&&◌}
use mathlib.Core.List.{List, ◌++◌}
use Prim.Native.Nat.{ℕ}
use native.Mathlib.Omega.{arith}
use lib.Dec.{T, leb, eqb}
use lib.ListN.{length, drop, replicate}
use lib.Ieee.{Float, binary32, of_bits, to_bits, is_nan, fits}
use lib.Ieee.Bits.{of_bits-to_bits, of_bits-fits}
use borrow.Author.Tests.{le-leb}
use Rattle.dc_state.specs.declared.biquad.Biquad.{Biquad}
use Rattle.dc_state.specs.declared.HighpassOrder.{HighpassOrder}
use Rattle.dc_state.specs.declared.HighpassOrder.TheVariants.{SecondOrder, FourthOrder}
use Rattle.dc_state.specs.declared.PreprocessingConfig.{PreprocessingConfig}
use Rattle.dc_state.specs.declared.DcHighPassFilter.{DcHighPassFilter}
use Rattle.dc_highpass.specs.Filter.{nothing_open, fresh_of}
use Rattle.lists.specs.Flags.{flag_word}
use Rattle.lists.proofs.Flags.{flag_back, flag_small}
use Rattle.dc_door.specs.FilterState.{number_at, order_of, coefficients_at, memory_at, stage_at, config_at, filter_at, readable, word_of, order_word, config_words, coefficient_words, memory_words, stage_words, words_of, written}

-- ---- the numbers are f32s, as they are in every filter that the code holds

abbrev pub Fit : Float → Type 0
Fit x = T (fits binary32 x)

pub record StageFits (b : Biquad) : Type 0 where
  pub b0 : Fit b.coeffs.b0
  pub b1 : Fit b.coeffs.b1
  pub b2 : Fit b.coeffs.b2
  pub a1 : Fit b.coeffs.a1
  pub a2 : Fit b.coeffs.a2
  pub x1 : Fit b.state.x1
  pub x2 : Fit b.state.x2
  pub y1 : Fit b.state.y1
  pub y2 : Fit b.state.y2

pub record FilterFits (f : DcHighPassFilter) : Type 0 where
  pub cutoff : Fit f.config.highpass_cutoff_hz
  pub alpha : Fit f.config.dc_bias_alpha
  pub first : StageFits f.first
  pub second : StageFits f.second
  pub bias : Fit f.dc_bias

-- ---- one word

word_back : (x : Float) → Fit x → of_bits binary32 (word_of x) ≡ x
word_back x h = of_bits-to_bits binary32 x h

order_back : (o : HighpassOrder) → order_of (eqb (order_word o) 1) ≡ o
order_back SecondOrder = refl
order_back FourthOrder = refl

order_small : (o : HighpassOrder) → leb (order_word o) 1 ≡ true
order_small SecondOrder = refl
order_small FourthOrder = refl

-- ---- one stage, over its own numbers

module _ (b : Biquad) (h : StageFits b) where
  stage_same : record {
    coeffs = record {
      b0 = of_bits binary32 (word_of b.coeffs.b0);
      b1 = of_bits binary32 (word_of b.coeffs.b1);
      b2 = of_bits binary32 (word_of b.coeffs.b2);
      a1 = of_bits binary32 (word_of b.coeffs.a1);
      a2 = of_bits binary32 (word_of b.coeffs.a2);
    };
    state = record {
      x1 = of_bits binary32 (word_of b.state.x1);
      x2 = of_bits binary32 (word_of b.state.x2);
      y1 = of_bits binary32 (word_of b.state.y1);
      y2 = of_bits binary32 (word_of b.state.y2);
    };
  }
      ≡ b
  stage_same =
      rw (
        word_back b.coeffs.b0 h.b0,
        word_back b.coeffs.b1 h.b1,
        word_back b.coeffs.b2 h.b2,
        word_back b.coeffs.a1 h.a1,
        word_back b.coeffs.a2 h.a2,
        word_back b.state.x1 h.x1,
        word_back b.state.x2 h.x2,
        word_back b.state.y1 h.y1,
        word_back b.state.y2 h.y2,
      ) refl

module _ (c : PreprocessingConfig) (h : Fit c.highpass_cutoff_hz) (k : Fit c.dc_bias_alpha) where
  config_same : record {
    highpass_cutoff_hz = of_bits binary32 (word_of c.highpass_cutoff_hz);
    sample_rate_hz = c.sample_rate_hz;
    dc_bias_alpha = of_bits binary32 (word_of c.dc_bias_alpha);
    enable_dc_removal = eqb (flag_word c.enable_dc_removal) 1;
    enable_highpass = eqb (flag_word c.enable_highpass) 1;
    highpass_order = order_of (eqb (order_word c.highpass_order) 1);
  }
      ≡ c
  config_same =
      rw (
        word_back c.highpass_cutoff_hz h,
        word_back c.dc_bias_alpha k,
        flag_back c.enable_dc_removal,
        flag_back c.enable_highpass,
        order_back c.highpass_order,
      ) refl

four : {a b c d : Bool} → a ≡ true → b ≡ true → c ≡ true → d ≡ true → a && (b && (c && d)) ≡ true
four h i j k = rw (h, i, j, k)

-- ---- the whole

module _ (f : DcHighPassFilter) (rest : List ℕ) where
  first_back : StageFits f.first → stage_at (words_of f ++ rest) 6 ≡ f.first
  unfolding stage_at coefficients_at memory_at words_of config_words stage_words coefficient_words memory_words
  first_back h = stage_same f.first h

  second_back : StageFits f.second → stage_at (words_of f ++ rest) 15 ≡ f.second
  unfolding stage_at coefficients_at memory_at words_of config_words stage_words coefficient_words memory_words
  second_back h = stage_same f.second h

  config_back : Fit f.config.highpass_cutoff_hz → Fit f.config.dc_bias_alpha → config_at (words_of f ++ rest) ≡ f.config
  unfolding config_at words_of config_words stage_words coefficient_words memory_words
  config_back h k = config_same f.config h k

  bias_back : Fit f.dc_bias → number_at (words_of f ++ rest) 24 ≡ f.dc_bias
  unfolding words_of config_words stage_words coefficient_words memory_words
  bias_back h = word_back f.dc_bias h

  -- the filter written is the filter read, whatever stands behind it
  pub filter_back : FilterFits f → filter_at (words_of f ++ rest) ≡ f
  unfolding filter_at
  filter_back h = rw (config_back h.cutoff h.alpha, first_back h.first, second_back h.second, bias_back h.bias) refl

  -- and it is never taken for a malformed state
  pub readable_back : readable (words_of f ++ rest) ≡ true
  unfolding readable words_of config_words stage_words coefficient_words memory_words
  readable_back =
      four
      (le-leb 25 (length (words_of f ++ rest)) (omega arith))
      (le-leb _ 1 (flag_small f.config.enable_dc_removal))
      (le-leb _ 1 (flag_small f.config.enable_highpass))
      (order_small f.config.highpass_order)

-- ---- as the entry points leave it

pub written_back : (f : DcHighPassFilter) (ws : List ℕ) → FilterFits f → filter_at (written f ws) ≡ f
unfolding written
written_back f ws h = filter_back f (drop 25 ws) h

pub written_readable : (f : DcHighPassFilter) (ws : List ℕ) → readable (written f ws) ≡ true
unfolding written
written_readable f ws = readable_back f (drop 25 ws)

-- what is read from words are f32s
stage_fits : (ws : List ℕ) (i : ℕ) → StageFits (stage_at ws i)
unfolding stage_at coefficients_at memory_at
stage_fits ws i =
    record {
      b0 = of_bits-fits binary32 _;
      b1 = of_bits-fits binary32 _;
      b2 = of_bits-fits binary32 _;
      a1 = of_bits-fits binary32 _;
      a2 = of_bits-fits binary32 _;
      x1 = of_bits-fits binary32 _;
      x2 = of_bits-fits binary32 _;
      y1 = of_bits-fits binary32 _;
      y2 = of_bits-fits binary32 _;
    }

pub read_fits : (ws : List ℕ) → FilterFits (filter_at ws)
unfolding filter_at config_at
read_fits ws =
    record {
      cutoff = of_bits-fits binary32 _;
      alpha = of_bits-fits binary32 _;
      first = stage_fits ws 6;
      second = stage_fits ws 15;
      bias = of_bits-fits binary32 _;
    }

-- what a refused opening leaves: 25 zeros
pub nothing_words : words_of nothing_open ≡ replicate 25 0
unfolding nothing_open fresh_of words_of config_words stage_words coefficient_words memory_words of_bits to_bits is_nan
nothing_words = refl
