-- One turn of `run`'s loop, over plain variables. Assumes nothing.
use Rattle.std.specs.Prelude.{Option}
use mathlib.Core.Path.{◌≡◌, refl}
use mathlib.Core.Bool.{true, false}
use mathlib.Core.List.{List, [], ◌∷◌}
use Prim.Native.Nat.{ℕ, suc, ◌+◌, ◌≤◌, ◌<◌}
use native.Mathlib.Numerals.{add-one}
use lib.ListN.{length, drop, get_or, drop_of_length-le}
use lib.Seq.{drop-cons}
use lib.Ieee.{Float, nan}
use lib.Ieee.Scale.{finite}
use Rattle.dc_state.specs.declared.DcHighPassFilter.{DcHighPassFilter}
use Rattle.dc_highpass.specs.Filter.{is_empty, biased_of, pass_of, results_of, after_of}
use Rattle.dc_highpass.specs.declared.VadContext.{VadContext}

pub results_end : (f : DcHighPassFilter) (i : ℕ) (xs : List Float) → length xs ≤ i → results_of f (drop i xs) ≡ []
unfolding results_of
results_end f i xs h = rw (drop_of_length-le xs h)

pub after_end : (f : DcHighPassFilter) (i : ℕ) (xs : List Float) → length xs ≤ i → after_of f (drop i xs) ≡ f
unfolding after_of
after_end f i xs h = rw (drop_of_length-le xs h)

module _ (i : ℕ) (xs : List Float) (h : i < length xs) where
  next : drop (i + 1) xs ≡ drop (suc i) xs
  next = rw (add-one i)

  module _ (f : DcHighPassFilter) where
    pub results_step : finite (pass_of f (get_or xs i nan)).output ≡ true
        → results_of f (drop i xs) ≡ (pass_of f (get_or xs i nan)).output ∷ results_of (pass_of f (get_or xs i nan)).filter (drop (i + 1) xs)
    unfolding results_of
    results_step d = rw (next, drop-cons xs i nan, d)

    pub after_step : finite (pass_of f (get_or xs i nan)).output ≡ true → after_of f (drop i xs) ≡ after_of (pass_of f (get_or xs i nan)).filter (drop (i + 1) xs)
    unfolding after_of
    after_step d = rw (next, drop-cons xs i nan, d)

    pub results_stop : finite (pass_of f (get_or xs i nan)).output ≡ false → results_of f (drop i xs) ≡ []
    unfolding results_of
    results_stop d = rw (drop-cons xs i nan, d)

-- ---- a block that has samples, and a bias that stays

pub filled_of_lem : (xs : List Float) → (length xs ≡ 0 → ⊥) → is_empty xs ≡ false
filled_of_lem [] h = absurd (h refl)
filled_of_lem (x ∷ xs) h = refl

pub bias_off : (f : DcHighPassFilter) (xs : List Float) (label : Option VadContext) → f.config.enable_dc_removal ≡ false → f ≡ biased_of f xs label
unfolding biased_of
bias_off f xs label e = rw e
