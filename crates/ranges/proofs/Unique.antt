-- Two answers that meet a contract are equal: each contract is an equation.
use mathlib.Core.Path.{◌≡◌}
use mathlib.Core.Bool.{Bool}
use mathlib.Core.List.{List}
use Prim.Native.Nat.{ℕ}
use lib.Ieee.{Float}
use Rattle.float.proofs.Unique.{only}
use Rattle.ranges.specs.Ranges.{within, leading_of, all_within, clean_of, rate_in}

pub inside_unique : (low x high : Float) (r q : Bool) → r ≡ within low x high → q ≡ within low x high → r ≡ q
inside_unique low x high r q = only

pub leading_unique : (low : Float) (xs : List Float) (high : Float) (r q : ℕ) → r ≡ leading_of low xs high → q ≡ leading_of low xs high → r ≡ q
leading_unique low xs high r q = only

pub all_inside_unique : (low : Float) (xs : List Float) (high : Float) (r q : Bool) → r ≡ all_within low xs high → q ≡ all_within low xs high → r ≡ q
all_inside_unique low xs high r q = only

pub clean_unique : (xs : List Float) (r q : ℕ) → r ≡ clean_of xs → q ≡ clean_of xs → r ≡ q
clean_unique xs r q = only

pub rate_allowed_unique : (rate : ℕ) (r q : Bool) → r ≡ rate_in rate → q ≡ rate_in rate → r ≡ q
rate_allowed_unique rate r q = only
