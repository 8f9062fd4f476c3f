-- Exponents of either sign, each as a difference of two natural numbers: `sub_ℕ a b` is a - b. Sums, differences, negations and comparisons of such are plain arithmetic.
use Rattle.std.proofs.Common.{◌≡◌, ℕ, zero, suc, ◌+◌, ◌-◌, ◌<◌, ◌≤◌, Bool, cond, T, ltb, leb, ℤ, pos, negsuc, ◌+ℤ◌, ◌-ℤ◌, neg_ℤ, sym, refl, ap, ◌∙◌, subst, ap₂, inl, inr, lt_of_lt_of_le, le_of_lt, arith, lit≤, to_z-of_z, w32, SFits, to_z, of_z, le-ltb, lt-ltb}
use lib.IntN.{sub_ℕ}
use lib.Signed.{mag, lt_z}
use mir.Val.{sel}
use Rattle.float.proofs.Sticky.{side}

pub at_below : (a b : ℕ) → a < b → sub_ℕ a b ≡ negsuc (b - suc a)
at_below a b h = ap (λ (t : Bool). cond t (negsuc (b - suc a)) (pos (a - b))) (lt-ltb a b h)

pub at_above : (a b : ℕ) → b ≤ a → sub_ℕ a b ≡ pos (a - b)
at_above a b h = ap (λ (t : Bool). cond t (negsuc (b - suc a)) (pos (a - b))) (le-ltb a b h)

pub sub_same : (a b c d : ℕ) → a + d ≡ c + b → sub_ℕ a b ≡ sub_ℕ c d
sub_same a b c d e = elim (side a b) [
  | inl l ↦ at_below a b l ∙ ap negsuc (omega arith) ∙ sym (at_below c d (omega arith))
  | inr l ↦ at_above a b l ∙ ap pos (omega arith) ∙ sym (at_above c d (omega arith))
]

pub sub_add : (a b c d : ℕ) → sub_ℕ a b +ℤ sub_ℕ c d ≡ sub_ℕ (a + c) (b + d)
sub_add a b c d = elim (side a b) [
  | inl l ↦ elim (side c d) [
    | inl k ↦ ap₂ (λ (x y : ℤ). x +ℤ y) (at_below a b l) (at_below c d k) ∙ ap negsuc (omega arith) ∙ sym (at_below (a + c) (b + d) (omega arith))
    | inr k ↦ ap₂ (λ (x y : ℤ). x +ℤ y) (at_below a b l) (at_above c d k) ∙ sub_same (c - d) (suc (b - suc a)) (a + c) (b + d) (omega arith)
  ]
  | inr l ↦ elim (side c d) [
    | inl k ↦ ap₂ (λ (x y : ℤ). x +ℤ y) (at_above a b l) (at_below c d k) ∙ sub_same (a - b) (suc (d - suc c)) (a + c) (b + d) (omega arith)
    | inr k ↦ ap₂ (λ (x y : ℤ). x +ℤ y) (at_above a b l) (at_above c d k) ∙ ap pos (omega arith) ∙ sym (at_above (a + c) (b + d) (omega arith))
  ]
]

neg_pos : (n : ℕ) → neg_ℤ (pos n) ≡ sub_ℕ 0 n
neg_pos zero = refl
neg_pos (suc n) = sym (at_below 0 (suc n) (omega arith) ∙ ap negsuc (omega arith))

pub sub_neg : (a b : ℕ) → neg_ℤ (sub_ℕ a b) ≡ sub_ℕ b a
sub_neg a b = elim (side a b) [
  | inl l ↦ ap neg_ℤ (at_below a b l) ∙ ap pos (omega arith) ∙ sym (at_above b a (le_of_lt l))
  | inr l ↦ ap neg_ℤ (at_above a b l) ∙ neg_pos (a - b) ∙ sub_same 0 (a - b) b a (omega arith)
]

pub sub_sub : (a b c d : ℕ) → sub_ℕ a b -ℤ sub_ℕ c d ≡ sub_ℕ (a + d) (b + c)
sub_sub a b c d = ap (λ (x : ℤ). sub_ℕ a b +ℤ x) (sub_neg c d) ∙ sub_add a b d c

-- a natural number as a difference
pub at_zero : (n : ℕ) → pos n ≡ sub_ℕ n 0
at_zero n = sym (at_above n 0 (omega arith) ∙ ap pos (omega arith))

pub mag_sub : (a b k : ℕ) → a < k → b < k → mag (sub_ℕ a b) < k
mag_sub a b k l m = elim (side a b) [
  | inl g ↦ subst (λ (z : ℤ). mag z < k) (sym (at_below a b g)) (omega arith)
  | inr g ↦ subst (λ (z : ℤ). mag z < k) (sym (at_above a b g)) (omega arith)
]

-- every integer is such a difference, of numbers that its size bounds
pub split : (z : ℤ) (k : ℕ) → mag z < k → (a : ℕ) × (b : ℕ) × (z ≡ sub_ℕ a b) × (a < suc k) × (b < suc k)
split (pos n) k h = (n, 0, at_zero n, omega arith, omega arith)
split (negsuc n) k h = (0, suc n, sym (ap (λ (t : ℤ). t) (sym (neg_pos (suc n)))), omega arith, omega arith)

-- ---- i32: a local holds bits, which are read back as the number
abbrev pub held : ℤ → ℤ
held z = to_z w32 (of_z w32 z)

pub sfits : (z : ℤ) → mag z < 100000 → SFits w32 z
sfits z h = record { sfits = lt_of_lt_of_le h (lit≤ tt) }

pub back : (z : ℤ) → mag z < 100000 → held z ≡ z
back z h = to_z-of_z (sfits z h)

-- an unsigned number as a signed one
pub cast_in : (n : ℕ) → n < 100000 → to_z w32 n ≡ pos n
cast_in n h = ap (λ (b : Bool). sel b (pos n) (negsuc (4294967296 - suc n))) (lt-ltb n 2147483648 (lt_of_lt_of_le h (lit≤ tt)))

pub mag_plus : (a b : ℤ) (k l : ℕ) → mag a < k → mag b < l → mag (a +ℤ b) < k + l + 1
mag_plus a b k l h g =
    let x = split a k h in
    let y = split b l g in
    subst (λ (z : ℤ). mag z < k + l + 1) (sym (ap₂ (λ (u v : ℤ). u +ℤ v) x.2 y.2 ∙ sub_add x.0 x.1 y.0 y.1)) (mag_sub (x.0 + y.0) (x.1 + y.1) (k + l + 1) (omega (arith, x.3, y.3)) (omega (arith, x.4, y.4)))

pub mag_less : (a b : ℤ) (k l : ℕ) → mag a < k → mag b < l → mag (a -ℤ b) < k + l + 1
mag_less a b k l h g =
    let x = split a k h in
    let y = split b l g in
    subst (λ (z : ℤ). mag z < k + l + 1) (sym (ap₂ (λ (u v : ℤ). u -ℤ v) x.2 y.2 ∙ sub_sub x.0 x.1 y.0 y.1)) (mag_sub (x.0 + y.1) (x.1 + y.0) (k + l + 1) (omega (arith, x.3, y.4)) (omega (arith, x.4, y.3)))

-- ---- sums and differences of locals, for numbers that are small
pub small : (n k : ℕ) → n < k → T (leb k 100000) → n < 100000
small n k h t = lt_of_lt_of_le h (lit≤ t)

pub fits_less : (a b : ℤ) → mag a < 10000 → mag b < 10000 → SFits w32 (a -ℤ b)
fits_less a b h g = sfits (a -ℤ b) (small (mag (a -ℤ b)) 20001 (mag_less a b 10000 10000 h g) tt)

pub fits_plus : (a b : ℤ) → mag a < 10000 → mag b < 10000 → SFits w32 (a +ℤ b)
fits_plus a b h g = sfits (a +ℤ b) (small (mag (a +ℤ b)) 20001 (mag_plus a b 10000 10000 h g) tt)

pub held_less : (a b : ℤ) → mag a < 10000 → mag b < 10000 → held (a -ℤ b) ≡ a -ℤ b
held_less a b h g = to_z-of_z (fits_less a b h g)

pub held_plus : (a b : ℤ) → mag a < 10000 → mag b < 10000 → held (a +ℤ b) ≡ a +ℤ b
held_plus a b h g = to_z-of_z (fits_plus a b h g)

pub wider : (n k : ℕ) → n < k → T (leb k 10000) → n < 10000
wider n k h t = lt_of_lt_of_le h (lit≤ t)

pub back' : (z : ℤ) → mag z < 10000 → held z ≡ z
back' z h = back z (small (mag z) 10000 h tt)

-- an exponent's local, as a callee is handed it
pub place_held : (e : ℤ) → mag e < 1000 → held e ≡ e
place_held e h = back' e (wider (mag e) 1000 h tt)

pub place_small : (e : ℤ) → mag e < 1000 → mag (held e) < 1000
place_small e h = subst (λ (z : ℤ). mag z < 1000) (sym (place_held e h)) h

-- one that stands at a place x
pub at_place : (e : ℤ) (x k : ℕ) → x < 1000 → k < 1000 → e ≡ sub_ℕ x k → held e ≡ sub_ℕ x k
at_place e x k h g p = place_held e (subst (λ (z : ℤ). mag z < 1000) (sym p) (mag_sub x k 1000 h g)) ∙ p

pub at_place_small : (e : ℤ) (x k : ℕ) → x < 1000 → k < 1000 → e ≡ sub_ℕ x k → mag (held e) < 1000
at_place_small e x k h g p = subst (λ (z : ℤ). mag z < 1000) (sym (at_place e x k h g p)) (mag_sub x k 1000 h g)

-- ---- two places compared
pub lt_places : (x y k : ℕ) → lt_z (sub_ℕ x k) (sub_ℕ y k) ≡ ltb x y
lt_places x y k = elim (side x k) [
  | inl a ↦ elim (side y k) [
    | inl b ↦ ap₂ (λ (u v : ℤ). lt_z u v) (at_below x k a) (at_below y k b) ∙ elim (side x y) [
      | inl l ↦ lt-ltb (k - suc y) (k - suc x) (omega arith) ∙ sym (lt-ltb x y l)
      | inr l ↦ le-ltb (k - suc y) (k - suc x) (omega arith) ∙ sym (le-ltb x y l)
    ]
    | inr b ↦ ap₂ (λ (u v : ℤ). lt_z u v) (at_below x k a) (at_above y k b) ∙ sym (lt-ltb x y (lt_of_lt_of_le a b))
  ]
  | inr a ↦ elim (side y k) [
    | inl b ↦ ap₂ (λ (u v : ℤ). lt_z u v) (at_above x k a) (at_below y k b) ∙ sym (le-ltb x y (omega arith))
    | inr b ↦ ap₂ (λ (u v : ℤ). lt_z u v) (at_above x k a) (at_above y k b) ∙ elim (side x y) [
      | inl l ↦ lt-ltb (x - k) (y - k) (omega arith) ∙ sym (lt-ltb x y l)
      | inr l ↦ le-ltb (x - k) (y - k) (omega arith) ∙ sym (le-ltb x y l)
    ]
  ]
]
