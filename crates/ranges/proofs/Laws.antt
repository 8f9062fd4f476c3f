-- What the count of leading numbers, and the test of all, say of each number, and the test of the rate. Assumes nothing.
use mathlib.Core.Path.{◌≡◌, refl, sym, ap, ◌∙◌}
use mathlib.Core.Bool.{Bool, true, false, cond}
use mathlib.Core.List.{List, [], ◌∷◌}
use Prim.Native.Nat.{ℕ, suc, ◌≤◌}
use native.Mathlib.Omega.{arith}
use lib.Dec.{T, leb}
use lib.ListN.{length}
use lib.Ieee.{Float, of_bits, le, neg}
use lib.Ieee.Scale.{finite}
use borrow.Author.Tests.{leb-true}
use Rattle.lists.specs.Every.{Every}
use Rattle.lists.proofs.Every.{every_map}
use Rattle.lists.proofs.Tests.{both}
use Rattle.float.proofs.Words.{T_of}
use Rattle.float.proofs.Bounds.{Mag, mag_of_range, mag_finite}
use Rattle.ranges.specs.Ranges.{within, leading_of, all_within, limit, in_domain, clean_of, rate_in}

module _ (low high : Float) where
  pub leading_le : (xs : List Float) → leading_of low xs high ≤ length xs
  unfolding leading_of
  leading_le [] = omega arith
  leading_le (x ∷ xs) = go (within low x high) (leading_le xs)
    where
      go : (t : Bool) → leading_of low xs high ≤ length xs → cond t (suc (leading_of low xs high)) 0 ≤ length (x ∷ xs)
      go true ih = omega arith
      go false ih = omega arith

  pub leading_first : (x : Float) (xs : List Float) → suc (length xs) ≤ leading_of low (x ∷ xs) high → (within low x high ≡ true) × (length xs ≤ leading_of low xs high)
  unfolding leading_of
  leading_first x xs h = go (within low x high) refl h
    where
      go : (t : Bool) → within low x high ≡ t → suc (length xs) ≤ cond t (suc (leading_of low xs high)) 0 → (within low x high ≡ true) × (length xs ≤ leading_of low xs high)
      go true e k = (e, omega arith)
      go false e k = absurd (omega arith)

  pub leading_all : (xs : List Float) → length xs ≤ leading_of low xs high → Every (λ x. within low x high ≡ true) xs
  leading_all [] h = tt
  leading_all (x ∷ xs) h = let f = leading_first x xs h in (f.0, leading_all xs f.1)

  pub all_within_lem : (xs : List Float) → all_within low xs high ≡ true → Every (λ x. within low x high ≡ true) xs
  unfolding all_within
  all_within_lem [] h = tt
  all_within_lem (x ∷ xs) h = let p = both (within low x high) (all_within low xs high) h in (p.0, all_within_lem xs p.1)

  pub within_all : (xs : List Float) → Every (λ x. within low x high ≡ true) xs → all_within low xs high ≡ true
  unfolding all_within
  within_all [] h = refl
  within_all (x ∷ xs) h = rw (h.0, within_all xs h.1)

  pub all_leading : (xs : List Float) → all_within low xs high ≡ true → length xs ≡ leading_of low xs high
  unfolding leading_of all_within
  all_leading [] h = refl
  all_leading (x ∷ xs) h =
      let p = both (within low x high) (all_within low xs high) h in
      let e : cond (within low x high) (suc (leading_of low xs high)) 0 ≡ suc (leading_of low xs high) = rw p.0 in
      ap suc (all_leading xs p.1) ∙ sym e

-- ---- samples

pub sample_mag : (x : Float) → in_domain x ≡ true → Mag x 65536 1
unfolding in_domain of_bits
sample_mag x h = let t = both (le (neg limit) x) (le x limit) h in mag_of_range x limit 65536 1 (refl, refl) (T_of t.0) (T_of t.1)

pub clean_all : (xs : List Float) → length xs ≤ clean_of xs → Every (λ x. in_domain x ≡ true) xs
unfolding clean_of in_domain
clean_all xs h = leading_all (neg limit) limit xs h

pub clean_mags : (xs : List Float) → length xs ≤ clean_of xs → Every (λ x. Mag x 65536 1) xs
clean_mags xs h = every_map _ _ sample_mag xs (clean_all xs h)

pub all_finite : (xs : List Float) → all_within (neg limit) xs limit ≡ true → Every (λ (x : Float). T (finite x)) xs
unfolding in_domain
all_finite xs h = every_map _ _ (λ x w. mag_finite x 65536 1 (sample_mag x w)) xs (all_within_lem (neg limit) limit xs h)

pub rate_in_lem : (rate : ℕ) → rate_in rate ≡ true → (8000 ≤ rate) × (rate ≤ 48000)
unfolding rate_in
rate_in_lem rate h = let p = both (leb 8000 rate) (leb rate 48000) h in (leb-true 8000 rate p.0, leb-true rate 48000 p.1)
