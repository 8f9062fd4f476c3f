-- The place that a block's answer carries is small. Assumes nothing.
use Rattle.std.specs.Prelude.{Option, Result, Ok, Err, ⊤}
use mathlib.Core.Path.{◌≡◌, refl}
use mathlib.Core.Bool.{true, false}
use mathlib.Core.List.{List}
use Prim.Native.Nat.{ℕ, ◌≤◌}
use native.Mathlib.Omega.{arith}
use lib.Dec.{ltb}
use lib.ListN.{length}
use lib.Ieee.{Float}
use borrow.Author.Tests.{ltb-true, ltb-false}
use Rattle.refusals.specs.Refusals.{carries_in, if_passed}
use Rattle.refusals.specs.declared.Refusal.{Refusal}
use Rattle.refusals.proofs.First.{decided}
use Rattle.ranges.specs.Ranges.{clean_of}
use Rattle.dc_state.specs.declared.DcHighPassFilter.{DcHighPassFilter}
use Rattle.dc_highpass.specs.Filter.{biased_of, check_of, stop_of, ran_of, process_of}
use Rattle.dc_highpass.specs.declared.VadContext.{VadContext}
use Rattle.dc_highpass.proofs.Calls.{results_le, checked}

check_place : (f : DcHighPassFilter) (xs : List Float) (room : ℕ) → carries_in (check_of f xs room) ≤ 1024
unfolding check_of
check_place f xs room = decided (λ v. carries_in v ≤ 1024) _ (λ _. omega arith, λ _. (λ _. omega arith, λ l. (λ _. omega arith, λ _. (λ b. bad l b, λ _. omega arith))))
  where
    bad : ltb 1024 (length xs) ≡ false → ltb (clean_of xs) (length xs) ≡ true → clean_of xs ≤ 1024
    bad l b = let short = ltb-false 1024 (length xs) l in let inside = ltb-true (clean_of xs) (length xs) b in omega arith

stop_place : (f : DcHighPassFilter) (xs : List Float) → carries_in (stop_of f xs) ≤ length xs
unfolding stop_of
stop_place f xs = decided (λ v. carries_in v ≤ length xs) _ (λ _. results_le f xs, λ _. omega arith)

module _ (f : DcHighPassFilter) (xs : List Float) (label : Option VadContext) (room : ℕ) where
  by_check : (v : Result ⊤ Refusal) → check_of f xs room ≡ v → carries_in v ≤ 1024 → carries_in (if_passed v (ran_of f (biased_of f xs label) xs) (λ r. record { outcome = Err r; filter = f })).outcome ≤ 1024
  unfolding ran_of
  by_check (Ok x) h k = let stop = stop_place (biased_of f xs label) xs in let short = (checked f xs room h).short in omega arith
  by_check (Err r) h k = k

  pub place_small : carries_in (process_of f xs label room).outcome ≤ 1024
  unfolding process_of
  place_small = by_check (check_of f xs room) refl (check_place f xs room)
