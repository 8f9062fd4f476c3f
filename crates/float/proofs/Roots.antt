-- The integer root, and what it says of the rounded root.
use Rattle.std.proofs.Common.{◌≡◌, ℕ, zero, suc, ◌+◌, ◌*◌, ◌^◌, ◌<◌, ◌≤◌, Bool, true, false, cond, not, T, eqb, leb, sym, ap, ◌∙◌, subst, ap₂, inl, inr, zero-le, le_trans, le_of_eq, lt_of_lt_of_le, lt_of_le_of_lt, le_of_lt, add_assoc, lt_irrefl, mul-le-mul_right, mul_assoc, add-mul, mul-le-mul, le_antisymm, mul-le-mul_left, mul-lt-mul_of_pos_right, mul-pos, one-mul, lt_of_not-le, zero-add, mul-one, mul-add, not-le_of_lt, arith, leb→le, pow_pos, pow-add, eq-eqb, ne_eqb}
use native.Mathlib.Nat.{mul-mul-mul_comm, eq_of_mul-eq-mul_right, two-pow-succ}
use lib.Dec.{nleb→lt}
use lib.Arith.{lt_of_le-ne}
use lib.Ieee.{binary32, size, round}
use lib.Ieee.Digits.{size-lt}
use lib.Ieee.Scale.{round_same}
use Rattle.float.specs.Root.{root_from, integer_root, twice_root}
use Rattle.float.proofs.Sticky.{sticky_high, side}

-- ---- r is the root of n, cut to a whole number
abbrev pub Root : ℕ → ℕ → Type 0
Root n r = (r * r ≤ n) × (n < (r + 1) * (r + 1))

pub square_back : (a b : ℕ) → a * a < b * b → a < b
square_back a b h = lt_of_not-le (λ (g : b ≤ a). not-le_of_lt h (mul-le-mul g g))

pub root_unique : (n r s : ℕ) → Root n r → Root n s → r ≡ s
root_unique n r s p q = le_antisymm (half r s (lt_of_le_of_lt p.0 q.1)) (half s r (lt_of_le_of_lt q.0 p.1))
  where
    half : (a b : ℕ) → a * a < (b + 1) * (b + 1) → a ≤ b
    half a b h = under a b (square_back a (b + 1) h)
      where
        under : (a b : ℕ) → a < b + 1 → a ≤ b
        under a b h = omega arith

from_root : (k r n : ℕ) → r * r ≤ n → n < (r + 2 ^ k) * (r + 2 ^ k) → Root n (root_from k r n)
unfolding root_from
from_root zero r n lo hi = (lo, hi)
from_root (suc k) r n lo hi = go (leb ((r + 2 ^ k) * (r + 2 ^ k)) n) (leb→le ((r + 2 ^ k) * (r + 2 ^ k)) n) (nleb→lt ((r + 2 ^ k) * (r + 2 ^ k)) n) (λ x. from_root k x n)
  where
    go : (b : Bool) → (T b → (r + 2 ^ k) * (r + 2 ^ k) ≤ n) → (T (not b) → n < (r + 2 ^ k) * (r + 2 ^ k)) → ((x : ℕ) → x * x ≤ n → n < (x + 2 ^ k) * (x + 2 ^ k) → Root n (root_from k x n)) → Root n (root_from k (cond b (r + 2 ^ k) r) n)
    go true y z rec = rec (r + 2 ^ k) (y tt) (subst (λ (x : ℕ). n < x * x) (ap (λ (x : ℕ). r + x) (two-pow-succ k) ∙ sym (add_assoc r (2 ^ k) (2 ^ k))) hi)
    go false y z rec = rec r lo (z tt)

pub integer_root_lem : (n : ℕ) → Root n (integer_root n)
unfolding integer_root
integer_root_lem n = from_root (size n) 0 n zero-le (lt_of_lt_of_le (size-lt n) (subst (λ (x : ℕ). 2 ^ size n ≤ x * x) (sym (zero-add (2 ^ size n))) (le_trans (le_of_eq (sym (mul-one (2 ^ size n)))) (mul-le-mul_left (2 ^ size n) (pow_pos (size n))))))

pub root_is : (n r : ℕ) → Root n r → r ≡ integer_root n
root_is n r p = root_unique n r (integer_root n) p (integer_root_lem n)

next_square : (a : ℕ) → (a + 1) * (a + 1) ≡ a * a + 2 * a + 1
next_square a = let e = add-mul a 1 (a + 1) in let f = mul-add a a 1 in omega arith

-- the two tests of a guess
pub root_tested : (n r : ℕ) → r * r ≤ n → n ≤ r * r + 2 * r → r ≡ integer_root n
root_tested n r lo hi = let e = next_square r in root_is n r (lo, omega arith)

-- ---- twice the root, with a sticky digit
pub twice_exact : (n r : ℕ) → Root n r → r * r ≡ n → twice_root n ≡ 2 * r
unfolding twice_root
twice_exact n r p e =
    ap (λ (k : ℕ). 2 * k + cond (eqb (k * k) n) 0 1) (sym (root_is n r p)) ∙ ap (λ (b : Bool). 2 * r + cond b 0 1) (eq-eqb (r * r) n e) ∙ none (2 * r)
  where
    none : (x : ℕ) → x + 0 ≡ x
    none x = omega arith

pub twice_cut : (n r : ℕ) → Root n r → (r * r ≡ n → ⊥) → twice_root n ≡ 2 * r + 1
unfolding twice_root
twice_cut n r p e =
    ap (λ (k : ℕ). 2 * k + cond (eqb (k * k) n) 0 1) (sym (root_is n r p)) ∙ ap (λ (b : Bool). 2 * r + cond b 0 1) (ne_eqb (r * r) n e)

-- a bound on the root, for callers: with n = x * 2 ^ 300 and s = c * 2 ^ 150, a root of an x that is at most c * c is at most c
pub twice_bound : (n s : ℕ) → n ≤ s * s → twice_root n ≤ 2 * s
twice_bound n s h =
    let r = integer_root n in
    let p : Root n r = integer_root_lem n in
    elim (side (r * r) n) [
      | inl l ↦
          let g : r < s = square_back r s (lt_of_lt_of_le l h) in
          le_trans (le_of_eq (twice_cut n r p (λ e. lt_irrefl n (subst (λ (x : ℕ). x < n) e l)))) (a1 r s g)
      | inr l ↦
          let e : r * r ≡ n = le_antisymm p.0 l in
          le_trans (le_of_eq (twice_exact n r p e)) (mul-le-mul_left 2 (half r s (le_trans (le_of_eq e) h)))
    ]
  where
    a1 : (r s : ℕ) → r < s → 2 * r + 1 ≤ 2 * s
    a1 r s g = omega arith

    half : (r s : ℕ) → r * r ≤ s * s → r ≤ s
    half r s h = elim (side s r) [ inl l ↦ absurd (not-le_of_lt (lt_of_le_of_lt (mul-le-mul_left s (le_of_lt l)) (mul-lt-mul_of_pos_right l (lt_of_le_of_lt zero-le l))) h) | inr l ↦ l ]

-- ---- the root of n * 4 ^ j is 2 ^ j times that of n, and a cut one is sticky at 2 ^ j
squared : (r t : ℕ) → r * t * (r * t) ≡ r * r * (t * t)
squared r t = mul-mul-mul_comm r t r t

module _ (n r s t : ℕ) (P : 0 < t) (p : Root n r) (q : Root (n * (t * t)) s) where
  -- r * t ≤ s < (r + 1) * t
  low : r * t ≤ s
  low = under (r * t) s (square_back (r * t) (s + 1) (lt_of_le_of_lt (le_trans (le_of_eq (squared r t)) (mul-le-mul_right (t * t) p.0)) q.1))
    where
      under : (a b : ℕ) → a < b + 1 → a ≤ b
      under a b h = omega arith

  high : s < (r + 1) * t
  high = square_back s ((r + 1) * t) (lt_of_le_of_lt q.0 (lt_of_lt_of_le (mul-lt-mul_of_pos_right p.1 (mul-pos P P)) (le_of_eq (sym (squared (r + 1) t)))))

  exact_scaled : r * r ≡ n → s ≡ r * t
  exact_scaled e = root_unique (n * (t * t)) s (r * t) q (le_of_eq e2, lt_of_le_of_lt (le_of_eq (sym e2)) (grow (r * t)))
    where
      e2 : r * t * (r * t) ≡ n * (t * t)
      e2 = squared r t ∙ ap (λ (x : ℕ). x * (t * t)) e

      grow : (a : ℕ) → a * a < (a + 1) * (a + 1)
      grow a = let e = next_square a in omega arith

  -- twice s, with its sticky digit, is strictly between 2 * r * t and (2 * r + 2) * t
  between : (r * r ≡ n → ⊥) → (2 * r * t < twice_root (n * (t * t))) × (twice_root (n * (t * t)) < 2 * r * t + 2 * t)
  between ne = elim (side (s * s) (n * (t * t))) [
    | inl l ↦
        let w : twice_root (n * (t * t)) ≡ 2 * s + 1 = twice_cut (n * (t * t)) s q (λ e. lt_irrefl (n * (t * t)) (subst (λ (x : ℕ). x < n * (t * t)) e l)) in
        subst (λ (x : ℕ). (2 * r * t < x) × (x < 2 * r * t + 2 * t)) (sym w)
        (subst (λ (x : ℕ). x < 2 * s + 1) (sym (mul_assoc 2 r t)) (a1 (r * t) s low), subst (λ (x : ℕ). 2 * s + 1 < x + 2 * t) (sym (mul_assoc 2 r t)) (a2 (r * t) s t (subst (λ (x : ℕ). s < x) (add-mul r 1 t ∙ ap (λ (x : ℕ). r * t + x) (one-mul t)) high)))
    | inr l ↦
        let e : s * s ≡ n * (t * t) = le_antisymm q.0 l in
        let w : twice_root (n * (t * t)) ≡ 2 * s = twice_exact (n * (t * t)) s q e in
        let g : r * t < s = strict (λ z. ne (cancel (sym (squared r t) ∙ ap₂ (λ (x y : ℕ). x * y) z z ∙ e))) in
        subst (λ (x : ℕ). (2 * r * t < x) × (x < 2 * r * t + 2 * t)) (sym w)
        (subst (λ (x : ℕ). x < 2 * s) (sym (mul_assoc 2 r t)) (a3 (r * t) s g), subst (λ (x : ℕ). 2 * s < x + 2 * t) (sym (mul_assoc 2 r t)) (a4 (r * t) s t (subst (λ (x : ℕ). s < x) (add-mul r 1 t ∙ ap (λ (x : ℕ). r * t + x) (one-mul t)) high)))
  ]
    where
      a1 : (x s : ℕ) → x ≤ s → 2 * x < 2 * s + 1
      a1 x s h = omega arith

      a2 : (x s t : ℕ) → s < x + t → 2 * s + 1 < 2 * x + 2 * t
      a2 x s t h = omega arith

      a3 : (x s : ℕ) → x < s → 2 * x < 2 * s
      a3 x s h = omega arith

      a4 : (x s t : ℕ) → s < x + t → 2 * s < 2 * x + 2 * t
      a4 x s t h = omega arith

      cancel : r * r * (t * t) ≡ n * (t * t) → r * r ≡ n
      cancel z = eq_of_mul-eq-mul_right (t * t) (mul-pos P P) (r * r) n z

      strict : (r * t ≡ s → ⊥) → r * t < s
      strict ne = lt_of_le-ne low ne

-- ---- the code's word and the definition's round alike: e and j are the word's places
pub root_rounds : (n j : ℕ) → 2 ^ 52 ≤ n → round binary32 false (twice_root (n * 2 ^ (j + j))) (2 ^ 151) ≡ round binary32 false (twice_root n * 2 ^ (j + 163)) (2 ^ 314)
root_rounds n j big =
    let t = 2 ^ j in
    let r = integer_root n in
    let p : Root n r = integer_root_lem n in
    let m = n * (t * t) in
    let s = integer_root m in
    let q : Root m s = integer_root_lem m in
    let W = twice_root m in
    ap (λ (x : ℕ). round binary32 false (twice_root (n * x)) (2 ^ 151)) (pow-add 2 j j)
    ∙ round_same binary32 false W (2 ^ 151) (W * 2 ^ 163) (2 ^ 314) (pow_pos 151) (pow_pos 314) (up W)
    ∙ elim (side (r * r) n) [
      | inl l ↦
          let ne : r * r ≡ n → ⊥ = λ e. lt_irrefl n (subst (λ (x : ℕ). x < n) e l) in
          let b = between n r s t (pow_pos j) p q ne in
          sticky_high binary32 false W j r 163 314 b.0 b.1 (wide r n big p.1)
          ∙ ap (λ (x : ℕ). round binary32 false (x * 2 ^ (j + 163)) (2 ^ 314)) (sym (twice_cut n r p ne))
      | inr l ↦
          let e : r * r ≡ n = le_antisymm p.0 l in
          let z : s ≡ r * t = exact_scaled n r s t (pow_pos j) p q e in
          ap (λ (x : ℕ). round binary32 false x (2 ^ 314))
          (ap (λ (x : ℕ). x * 2 ^ 163) (twice_exact m s q (ap₂ (λ (x y : ℕ). x * y) z z ∙ squared r t ∙ ap (λ (x : ℕ). x * (t * t)) e) ∙ ap (λ (x : ℕ). 2 * x) z ∙ sym (mul_assoc 2 r t))
          ∙ mul_assoc (2 * r) t (2 ^ 163) ∙ ap₂ (λ (x y : ℕ). x * y) (sym (twice_exact n r p e)) (sym (pow-add 2 j 163)))
    ]
  where
    up : (w : ℕ) → w * 2 ^ 314 ≡ w * 2 ^ 163 * 2 ^ 151
    up w = ap (λ (x : ℕ). w * x) (pow-add 2 163 151) ∙ sym (mul_assoc w (2 ^ 163) (2 ^ 151))

    -- the root has 26 digits at least
    wide : (r n : ℕ) → 2 ^ 52 ≤ n → n < (r + 1) * (r + 1) → 2 ^ 25 ≤ r
    wide r n h g = enough r (square_back (2 ^ 26) (r + 1) (lt_of_le_of_lt h g))
      where
        enough : (r : ℕ) → 67108864 < r + 1 → 33554432 ≤ r
        enough r h = omega arith
