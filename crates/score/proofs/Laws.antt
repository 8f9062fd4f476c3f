-- What callers may use of the score: where it lies by the powers that are reached, that it is at most 1,024, and that it is 0 below 1. Assumes nothing.
use mathlib.Core.Path.{◌≡◌, refl, sym, ap, subst, ◌∙◌}
use mathlib.Core.Logic.{inl, inr}
use mathlib.Core.List.{List}
use mathlib.Core.Bool.{Bool, true, false, ◌&&◌, ◌||◌, cond, true≢false}
use Prim.Native.Nat.{ℕ, zero, suc, ◌-◌, ◌*◌, ◌^◌, ◌≤◌, ◌<◌}
use native.Mathlib.Nat.{le_trans, le_of_suc-le-suc, eq-or-lt_of_le, mul-le-mul_right, pow-le-pow_right, pow-lt-pow_left, one-mul}
use native.Mathlib.Decide.{dec_lt}
use native.Mathlib.Omega.{arith}
use borrow.Author.Tests.{leb-true, leb-false, le-leb, lt-leb, ltb-false, eqb-false}
use lib.Dec.{T, leb, ltb, eqb, lit<}
use lib.Ieee.{Float, nan, inf, fin, binary32, up, down, le, fits, of_bits, to_bits}
use lib.ListN.{length, get_or}
use Rattle.std.proofs.Common.{zero-le}
use Rattle.std.specs.List.Sorted.{IsPartitionedBy, IsPartitionPoint}
use Rattle.std.proofs.lemmas.List.Sorted.{IsPartitionedBy-leb, IsNonDecreasingBy-from_default}
use Rattle.score.specs.Score.{reaches, largest, score_of, Threshold}
use Rattle.score.proofs.Bits.{one, read_back, bits_from_one, pattern_le, reaches_up}

-- ---- `largest`, for any test
-- what passes is not above it
largest_ge : (p : ℕ → Bool) (n k : ℕ) → k ≤ n → p k ≡ true → k ≤ largest p n
unfolding largest
largest_ge p zero k h t = h
largest_ge p (suc n) k h t = elim (eq-or-lt_of_le h) [
  | inl e ↦ (let top : p (suc n) ≡ true = ap p (sym e) ∙ t in rw (largest, top) h)
  | inr l ↦ go (p (suc n)) (largest_ge p n k (omega arith) t)
]
  where
    go : (b : Bool) → k ≤ largest p n → k ≤ cond b (suc n) (largest p n)
    go true g = h
    go false g = g

-- where nothing from k on passes it is below k
largest_lt : (p : ℕ → Bool) (n k : ℕ) → 0 < k → ((j : ℕ) → k ≤ j → j ≤ n → p j ≡ false) → largest p n < k
unfolding largest
largest_lt p zero k h f = h
largest_lt p (suc n) k h f = go (p (suc n)) refl (largest_lt p n k h (λ j a b. f j a (omega arith)))
  where
    go : (b : Bool) → p (suc n) ≡ b → largest p n < k → cond b (suc n) (largest p n) < k
    go true e g = elim (dec_lt (suc n) k) [ yes l ↦ l | no l ↦ absurd (true≢false (sym e ∙ f (suc n) (omega arith) (omega arith))) ]
    go false e g = g

-- ---- the powers that a number reaches
reaches_lower : (r : Float) (i j : ℕ) → i ≤ j → reaches r j ≡ true → reaches r i ≡ true
unfolding reaches
reaches_lower nan i j h p = p
reaches_lower (inf s) i j h p = p
reaches_lower (fin true m e) i j h p = p
reaches_lower (fin false m e) i j h p = le-leb _ _ (le_trans (mul-le-mul_right (down e ^ 1024) (pow-le-pow_right (lit< tt) h)) (leb-true _ _ p))

misses_higher : (r : Float) (i j : ℕ) → i ≤ j → reaches r i ≡ false → reaches r j ≡ false
misses_higher r i j h p = go (reaches r j) (reaches_lower r i j h)
  where
    go : (b : Bool) → (b ≡ true → reaches r i ≡ true) → b ≡ false
    go true f = absurd (true≢false (sym (f refl) ∙ p))
    go false f = refl

below_misses : (r : Float) → le one r ≡ false → reaches r 0 ≡ false
unfolding reaches le of_bits
below_misses nan h = refl
below_misses (inf true) h = refl
below_misses (inf false) h = h
below_misses (fin true m e) h = refl
below_misses (fin false m e) h = smaller (m * up e) (down e) (not_le (1 * down e) (m * up e * 1) h)
  where
    not_le : (a b : ℕ) → (ltb a b || (eqb a b && true)) ≡ false → b < a
    not_le a b h = go (ltb a b) (eqb a b) (ltb-false a b) (eqb-false a b) h
      where
        go : (x y : Bool) → (x ≡ false → b ≤ a) → (y ≡ false → a ≡ b → ⊥) → (x || (y && true)) ≡ false → b < a
        go true y f g h = absurd (true≢false h)
        go false true f g h = absurd (true≢false h)
        go false false f g h = let l = f refl in let n = g refl in omega arith

    smaller : (m d : ℕ) → m * 1 < 1 * d → leb (1 * d ^ 1024) (m ^ 1024) ≡ false
    smaller m d h = lt-leb (1 * d ^ 1024) (m ^ 1024) (rw (one-mul (d ^ 1024)) (pow-lt-pow_left {n = 1024} (omega arith) (λ e. omega arith)))

-- ---- the score
pub score_le : (r : Float) → score_of r ≤ 1024
unfolding score_of
score_le r = le_of_suc-le-suc (largest_lt (reaches r) 1024 1025 (lit< tt) (λ j a b. absurd (omega arith)))

pub score_ge : (r : Float) (k : ℕ) → k ≤ 1024 → reaches r k ≡ true → k ≤ score_of r
unfolding score_of
score_ge r k h p = largest_ge (reaches r) 1024 k h p

pub score_lt : (r : Float) (k : ℕ) → 0 < k → reaches r k ≡ false → score_of r < k
unfolding score_of
score_lt r k h p = largest_lt (reaches r) 1024 k h (λ j l b. misses_higher r k j l p)

-- '0 below 1 or for NaN'
pub score_below : (r : Float) → le one r ≡ false → score_of r ≡ 0
score_below r h = let l = score_lt r 1 (lit< tt) (misses_higher r 0 1 (omega arith) (below_misses r h)) in omega arith

-- two answers that meet the contract of `score` are equal
pub score_unique : (r : Float) (a b : ℕ) → a ≡ score_of r → b ≡ score_of r → a ≡ b
score_unique r a b p q = p ∙ sym q

-- ---- the search
thresholds_rise : (i j a b : ℕ) → i ≤ j → Threshold i a → Threshold j b → a ≤ b
thresholds_rise i j a b h s t = elim (dec_lt b a) [ yes l ↦ absurd (true≢false (sym (reaches_lower (of_bits binary32 b) i j h t.reached) ∙ s.least b l)) | no g ↦ omega arith ]

-- of thresholds, those up to a pattern stand before those above it
pub thresholds_parted : (xs : List ℕ) (b : ℕ) → length xs ≡ 1025 → ((k : ℕ) → k ≤ 1024 → Threshold k (get_or xs k 0)) → IsPartitionedBy (λ y. leb y b) xs
thresholds_parted xs b n t =
    IsPartitionedBy-leb (λ y. y) xs b
    (IsNonDecreasingBy-from_default (λ y. y) xs 0 (λ i j h l. thresholds_rise i j (get_or xs i 0) (get_or xs j 0) h (t i (omega arith)) (t j (omega arith))))

-- the score stands before the first threshold above the pattern
pub parted_score : (xs : List ℕ) (b i : ℕ) → ((k : ℕ) → k ≤ 1024 → Threshold k (get_or xs k 0)) → b ≤ 0x7f80_0000 → length xs ≡ 1025 → i ≤ length xs
    → IsPartitionPoint (λ y. leb y b ≡ true) (λ y. leb y b ≡ false) xs i → i - 1 ≡ score_of (of_bits binary32 b)
parted_score xs b i t h n m p =
    let v = of_bits binary32 b in
    let top = score_le v in
    let over : (k : ℕ) → i ≤ k → k ≤ 1024 → 0 < k → score_of v < k = λ k l u z. score_lt v k z ((t k u).least b (leb-false _ _ (p.1 k 0 l (omega arith)))) in
    let under : (k : ℕ) → k < i → k ≤ 1024 → k ≤ score_of v = λ k l u. score_ge v k u (reaches_up _ _ _ (leb-true _ _ (p.0 k 0 zero-le l)) h (t k u).reached) in
    elim (dec_lt 0 i) [
      | yes l ↦
          let low = under (i - 1) (omega arith) (omega arith) in
          elim (dec_lt i 1025) [ yes u ↦ (let high = over i (omega arith) (omega arith) l in omega arith) | no u ↦ omega arith ]
      | no g ↦ let high = over 1 (omega arith) (omega arith) (omega arith) in omega arith
    ]

-- ---- a threshold among the values
reaches_from_one : (v : Float) (k : ℕ) → reaches v k ≡ true → le one v ≡ true
reaches_from_one v k r = go (le one v) (below_misses v)
  where
    go : (b : Bool) → (b ≡ false → reaches v 0 ≡ false) → b ≡ true
    go true f = refl
    go false f = absurd (true≢false (sym r ∙ misses_higher v 0 k (omega arith) (f refl)))

-- every f32 whose 1,024th power reaches 10^k is at or above the threshold
pub threshold_least : (k n : ℕ) → Threshold k n → (v : Float) → fits binary32 v ≡ true → reaches v k ≡ true → T (le (of_bits binary32 n) v)
threshold_least k n t v f r =
    let b = to_bits binary32 v in
    let top = bits_from_one v f (reaches_from_one v k r) in
    let same = read_back v f in
    elim (dec_lt b n) [
      | yes l ↦ absurd (true≢false (sym r ∙ ap (λ (w : Float). reaches w k) (sym same) ∙ t.least b l))
      | no g ↦ subst (λ (w : Float). T (le (of_bits binary32 n) w)) same (pattern_le n b (omega arith) top)
    ]
