-- One turn of the two loops, over plain variables. Assumes nothing.
use mathlib.Core.Path.{◌≡◌, refl, sym, ap, ◌∙◌}
use mathlib.Core.Bool.{Bool, true, false, ◌&&◌}
use mathlib.Core.List.{List}
use Prim.Native.Nat.{ℕ, suc, ◌+◌, ◌≤◌, ◌<◌}
use native.Mathlib.Numerals.{add-one}
use lib.ListN.{length, drop, get_or, drop_of_length-le}
use lib.Seq.{drop-cons}
use lib.Ieee.{Float, nan}
use Rattle.ranges.specs.Ranges.{within, leading_of, all_within}

module _ (low high : Float) (i : ℕ) (xs : List Float) where
  pub leading_end : length xs ≤ i → leading_of low (drop i xs) high ≡ 0
  unfolding leading_of
  leading_end h = rw (drop_of_length-le xs h)

  module _ (h : i < length xs) where
    next : drop (i + 1) xs ≡ drop (suc i) xs
    next = rw (add-one i)

    pub leading_step : within low (get_or xs i nan) high ≡ true → leading_of low (drop i xs) high ≡ suc (leading_of low (drop (i + 1) xs) high)
    unfolding leading_of
    leading_step d = rw (next, drop-cons xs i nan, d)

    pub leading_stop : within low (get_or xs i nan) high ≡ false → leading_of low (drop i xs) high ≡ 0
    unfolding leading_of
    leading_stop d = rw (drop-cons xs i nan, d)

    -- and of the loop that tests
    pub all_step : all_within low (drop i xs) high ≡ within low (get_or xs i nan) high && all_within low (drop (i + 1) xs) high
    unfolding all_within
    all_step = rw (next, drop-cons xs i nan)

and_assoc : (a b c : Bool) → (a && b) && c ≡ a && (b && c)
and_assoc true b c = refl
and_assoc false b c = refl

and_true : (b : Bool) → b && true ≡ b
and_true true = refl
and_true false = refl

module _ (low high : Float) (i : ℕ) (xs : List Float) (all : Bool) where
  pub all_end : length xs ≤ i → all && all_within low (drop i xs) high ≡ all
  unfolding all_within
  all_end h = ap (λ (ys : List Float). all && all_within low ys high) (drop_of_length-le xs h) ∙ and_true all

  pub all_on : i < length xs → (all && within low (get_or xs i nan) high) && all_within low (drop (i + 1) xs) high ≡ all && all_within low (drop i xs) high
  all_on h = and_assoc all (within low (get_or xs i nan) high) (all_within low (drop (i + 1) xs) high) ∙ ap (λ (b : Bool). all && b) (sym (all_step low high i xs h))
