-- Two magnitudes brought to one place, the smaller place's digits cut off into a sticky digit: their rounded sum or difference is that of the words.
use Rattle.std.proofs.Common.{◌≡◌, ℕ, zero, suc, ◌+◌, ◌-◌, ◌*◌, ◌^◌, ◌<◌, ◌≤◌, Bool, true, false, cond, not, ◌&&◌, T, ltb, ◌⊎◌, sym, refl, ap, ◌∙◌, subst, ap₂, inl, inr, le_trans, le_of_eq, lt_of_lt_of_le, lt_of_le_of_lt, le_of_lt, mul-le-mul_right, mul_assoc, suc-mul, mul_comm, add-mul, add_comm, lt_of_mul-lt-mul_right, mul-le-mul_left, mul-lt-mul_of_pos_right, mul-one, le_of_mul-le-mul_right, arith, ltb→lt, nltb→le, pow_pos, pow-add, le-ltb, lt-ltb}
use native.Mathlib.Nat.{mul-sub}
use mathlib.Core.Bool.{beq}
use lib.Ieee.{Format, prec, low, round, sum}
use lib.Ieee.Scale.{round_same}
use Rattle.float.specs.Inside.{mag_of, neg_of}
use Rattle.float.proofs.Sticky.{sticky_low, sticky_high, side}

pub sum_is : (f : Format) (s : Bool) (a : ℕ) (t : Bool) (b c : ℕ) → sum f s a t b c ≡ round f (neg_of s a t b) (mag_of s a t b) c
unfolding sum
sum_is f s a t b c = go (beq s t) (ltb a b)
  where
    go : (x y : Bool) → cond x (round f s (a + b) c) (cond y (round f t (b - a) c) (round f (s && ltb b a) (a - b) c)) ≡ round f (cond x s (cond y t (s && ltb b a))) (cond x (a + b) (cond y (b - a) (a - b))) c
    go true true = refl
    go true false = refl
    go false true = refl
    go false false = refl

-- beside a number of the sign +, −0 does what +0 does
pub sum_minus_zero : (f : Format) (b c : ℕ) → sum f true 0 false b c ≡ sum f false 0 false b c
unfolding sum
sum_minus_zero f zero c = refl
sum_minus_zero f (suc b) c =
    let e : suc b - 0 ≡ 0 + suc b = omega arith in
    ap (λ (z : Bool). cond z (round f false (suc b - 0) c) (round f (ltb (suc b) 0) (0 - suc b) c)) (lt-ltb 0 (suc b) (omega arith)) ∙ ap (λ (n : ℕ). round f false n c) e

-- ---- the order of two numbers is that of any multiples of them
same_sum : (f : Format) (s : Bool) (t : Bool) (a b c a' b' c' : ℕ)
    → ltb a b ≡ ltb a' b' → ltb b a ≡ ltb b' a'
    → ((r : Bool) → round f r (a + b) c ≡ round f r (a' + b') c')
    → ((r : Bool) → a < b → round f r (b - a) c ≡ round f r (b' - a') c')
    → ((r : Bool) → b ≤ a → round f r (a - b) c ≡ round f r (a' - b') c')
    → round f (neg_of s a t b) (mag_of s a t b) c ≡ round f (neg_of s a' t b') (mag_of s a' t b') c'
same_sum f s t a b c a' b' c' e1 e2 P L G = go (beq s t) (ltb a b) (ltb a' b') (ltb b a) (ltb b' a') e1 e2 (ltb→lt a b) (nltb→le a b)
  where
    go : (x y y' z z' : Bool) → y ≡ y' → z ≡ z' → (T y → a < b) → (T (not y) → b ≤ a)
        → round f (cond x s (cond y t (s && z))) (cond x (a + b) (cond y (b - a) (a - b))) c ≡ round f (cond x s (cond y' t (s && z'))) (cond x (a' + b') (cond y' (b' - a') (a' - b'))) c'
    go true y y' z z' p q u v = P s
    go false true y' z z' p q u v = L t (u tt) ∙ ap (λ (y : Bool). round f (cond y t (s && z')) (cond y (b' - a') (a' - b')) c') p
    go false false y' z z' p q u v = G (s && z) (v tt) ∙ ap (λ (w : Bool). round f (s && w) (a' - b') c') q ∙ ap (λ (y : Bool). round f (cond y t (s && z')) (cond y (b' - a') (a' - b')) c') p

pub scale_test : (a b a' b' k k' : ℕ) → 0 < k → 0 < k' → a * k ≡ a' * k' → b * k ≡ b' * k' → ltb a b ≡ ltb a' b'
scale_test a b a' b' k k' K K' p q = elim (side a b) [
  | inl l ↦ lt-ltb a b l ∙ sym (lt-ltb a' b' (lt_of_mul-lt-mul_right k' (subst (λ (x : ℕ). x < b' * k') p (subst (λ (x : ℕ). a * k < x) q (mul-lt-mul_of_pos_right l K)))))
  | inr g ↦ le-ltb a b g ∙ sym (le-ltb a' b' (le_of_mul-le-mul_right (subst (λ (x : ℕ). x ≤ a' * k') q (subst (λ (x : ℕ). b * k ≤ x) p (mul-le-mul_right k g))) K'))
]

sub_mul : (a b k : ℕ) → (a - b) * k ≡ a * k - b * k
sub_mul a b k = mul_comm (a - b) k ∙ mul-sub k a b ∙ ap₂ (λ (x y : ℕ). x - y) (mul_comm k a) (mul_comm k b)

-- equal fractions have equal rounded sums
pub sum_same : (f : Format) (s : Bool) (a : ℕ) (t : Bool) (b c a' b' c' : ℕ) → 0 < c → 0 < c' → a * c' ≡ a' * c → b * c' ≡ b' * c → sum f s a t b c ≡ sum f s a' t b' c'
sum_same f s a t b c a' b' c' C C' p q =
    sum_is f s a t b c
    ∙ same_sum f s t a b c a' b' c' (scale_test a b a' b' c' c C' C p q) (scale_test b a b' a' c' c C' C q p)
    (λ r. round_same f r (a + b) c (a' + b') c' C C' (add-mul a b c' ∙ ap₂ (λ (x y : ℕ). x + y) p q ∙ sym (add-mul a' b' c)))
    (λ r _. round_same f r (b - a) c (b' - a') c' C C' (sub_mul b a c' ∙ ap₂ (λ (x y : ℕ). x - y) q p ∙ sym (sub_mul b' a' c)))
    (λ r _. round_same f r (a - b) c (a' - b') c' C C' (sub_mul a b c' ∙ ap₂ (λ (x y : ℕ). x - y) p q ∙ sym (sub_mul a' b' c)))
    ∙ sym (sum_is f s a' t b' c')

-- ---- a word y for m / 2 ^ d: that number, or the odd number next to it
abbrev pub Jammed : ℕ → ℕ → ℕ → ℕ → Type 0
Jammed o m d y = (m ≡ y * 2 ^ d) ⊎ ((h : ℕ) × (y ≡ 2 * h + 1) × (2 * h * 2 ^ d < m) × (m < 2 * h * 2 ^ d + 2 * 2 ^ d) × (2 * h < o))

-- ---- x at the higher place, m at the lower
module _ (f : Format) (j : ℕ) (x y m d e : ℕ) where
  -- nothing is cut off
  exact_up : m ≡ y * 2 ^ d → m * 2 ^ e ≡ y * 2 ^ (d + e)
  exact_up p = ap (λ (z : ℕ). z * 2 ^ e) p ∙ mul_assoc y (2 ^ d) (2 ^ e) ∙ ap (λ (z : ℕ). y * z) (sym (pow-add 2 d e))

  pub exact : (s t : Bool) → m ≡ y * 2 ^ d → sum f s (x * 2 ^ (d + e)) t (m * 2 ^ e) (2 ^ j) ≡ round f (neg_of s x t y) (mag_of s x t y * 2 ^ (d + e)) (2 ^ j)
  exact s t p =
      let k = 2 ^ (d + e) in
      ap (λ (z : ℕ). sum f s (x * k) t z (2 ^ j)) (exact_up p)
      ∙ sum_is f s (x * k) t (y * k) (2 ^ j)
      ∙ tests k (pow_pos (d + e))
    where
      tests : (k : ℕ) → 0 < k → round f (neg_of s (x * k) t (y * k)) (mag_of s (x * k) t (y * k)) (2 ^ j) ≡ round f (neg_of s x t y) (mag_of s x t y * k) (2 ^ j)
      tests k K =
          go (beq s t) (ltb (x * k) (y * k)) (ltb x y) (ltb (y * k) (x * k)) (ltb y x)
          (scale_test (x * k) (y * k) x y 1 k (pow_pos 0) K (mul-one (x * k)) (mul-one (y * k)))
          (scale_test (y * k) (x * k) y x 1 k (pow_pos 0) K (mul-one (y * k)) (mul-one (x * k)))
        where
          go : (b l l' g g' : Bool) → l ≡ l' → g ≡ g'
              → round f (cond b s (cond l t (s && g))) (cond b (x * k + y * k) (cond l (y * k - x * k) (x * k - y * k))) (2 ^ j) ≡ round f (cond b s (cond l' t (s && g'))) (cond b (x + y) (cond l' (y - x) (x - y)) * k) (2 ^ j)
          go true l l' g g' p q = ap (λ (z : ℕ). round f s z (2 ^ j)) (sym (add-mul x y k))
          go false true l' g g' p q = ap (λ (z : ℕ). round f t z (2 ^ j)) (sym (sub_mul y x k)) ∙ ap (λ (l : Bool). round f (cond l t (s && g')) (cond l (y - x) (x - y) * k) (2 ^ j)) p
          go false false l' g g' p q =
              ap (λ (z : ℕ). round f (s && g) z (2 ^ j)) (sym (sub_mul x y k)) ∙ ap (λ (g : Bool). round f (s && g) ((x - y) * k) (2 ^ j)) q ∙ ap (λ (l : Bool). round f (cond l t (s && g')) (cond l (y - x) (x - y) * k) (2 ^ j)) p

-- ---- something is cut off: x is 2 * z and y is 2 * h + 1
module _ (f : Format) (j z h m d e o : ℕ) (lo : 2 * h * 2 ^ d < m) (hi : m < 2 * h * 2 ^ d + 2 * 2 ^ d) (few : 2 * h < o) (wide : (d + e + low f + 2 ≤ j) ⊎ (o + 2 ^ (prec f + 3) ≤ 2 * z)) where
  -- n * 2 ^ e rounds as (2 * g + 1) * 2 ^ (d + e) does
  stuck : (r : Bool) (n g : ℕ) → 2 * (g * 2 ^ d) < n → n < 2 * (g * 2 ^ d) + 2 * 2 ^ d → (o + 2 ^ (prec f + 3) ≤ 2 * z → 2 ^ (prec f + 1) ≤ g) → round f r (n * 2 ^ e) (2 ^ j) ≡ round f r ((2 * g + 1) * 2 ^ (d + e)) (2 ^ j)
  stuck r n g l u big =
      let l' : 2 * g * 2 ^ d < n = subst (λ (x : ℕ). x < n) (sym (mul_assoc 2 g (2 ^ d))) l in
      let u' : n < 2 * g * 2 ^ d + 2 * 2 ^ d = subst (λ (x : ℕ). n < x + 2 * 2 ^ d) (sym (mul_assoc 2 g (2 ^ d))) u in
      elim wide [ inl w ↦ sticky_low f r n d g e j l' u' w | inr w ↦ sticky_high f r n d g e j l' u' (big w) ]

  lo2 : 2 * (h * 2 ^ d) < m
  lo2 = subst (λ (x : ℕ). x < m) (mul_assoc 2 h (2 ^ d)) lo

  hi2 : m < 2 * (h * 2 ^ d) + 2 * 2 ^ d
  hi2 = subst (λ (x : ℕ). m < x + 2 * 2 ^ d) (mul_assoc 2 h (2 ^ d)) hi

  -- x at its place, in the lower place's digits
  x_is : 2 * z * 2 ^ (d + e) ≡ 2 * (z * 2 ^ d) * 2 ^ e
  x_is = ap (λ (k : ℕ). 2 * z * k) (pow-add 2 d e) ∙ sym (mul_assoc (2 * z) (2 ^ d) (2 ^ e)) ∙ ap (λ (k : ℕ). k * 2 ^ e) (mul_assoc 2 z (2 ^ d))

  eight : 2 ^ (prec f + 3) ≡ 4 * 2 ^ (prec f + 1)
  eight = ap (λ (k : ℕ). 2 ^ k) (add_comm (prec f) 3 ∙ turn (prec f)) ∙ pow-add 2 2 (prec f + 1)
    where
      turn : (p : ℕ) → 3 + p ≡ 2 + (p + 1)
      turn p = omega arith

  plus : (r : Bool) → round f r (2 * z * 2 ^ (d + e) + m * 2 ^ e) (2 ^ j) ≡ round f r ((2 * z + (2 * h + 1)) * 2 ^ (d + e)) (2 ^ j)
  plus r =
      ap (λ (k : ℕ). round f r k (2 ^ j)) (ap (λ (k : ℕ). k + m * 2 ^ e) x_is ∙ sym (add-mul (2 * (z * 2 ^ d)) m (2 ^ e)))
      ∙ stuck r (2 * (z * 2 ^ d) + m) (z + h)
      (subst (λ (k : ℕ). 2 * k < 2 * (z * 2 ^ d) + m) (sym (add-mul z h (2 ^ d))) (a1 (z * 2 ^ d) (h * 2 ^ d) m lo2))
      (subst (λ (k : ℕ). 2 * (z * 2 ^ d) + m < 2 * k + 2 * 2 ^ d) (sym (add-mul z h (2 ^ d))) (a2 (z * 2 ^ d) (h * 2 ^ d) (2 ^ d) m hi2))
      (λ w. a3 z h o (2 ^ (prec f + 3)) (2 ^ (prec f + 1)) eight w)
      ∙ ap (λ (k : ℕ). round f r (k * 2 ^ (d + e)) (2 ^ j)) (a4 z h)
    where
      a1 : (a b m : ℕ) → 2 * b < m → 2 * (a + b) < 2 * a + m
      a1 a b m l = omega arith

      a2 : (a b c m : ℕ) → m < 2 * b + 2 * c → 2 * a + m < 2 * (a + b) + 2 * c
      a2 a b c m l = omega arith

      a3 : (z h o p q : ℕ) → p ≡ 4 * q → o + p ≤ 2 * z → q ≤ z + h
      a3 z h o p q e l = omega arith

      a4 : (z h : ℕ) → 2 * (z + h) + 1 ≡ 2 * z + (2 * h + 1)
      a4 z h = omega arith

  -- x is above: z = h + 1 + g
  over : (r : Bool) → h < z → round f r (2 * z * 2 ^ (d + e) - m * 2 ^ e) (2 ^ j) ≡ round f r ((2 * z - (2 * h + 1)) * 2 ^ (d + e)) (2 ^ j)
  over r l =
      let g = z - suc h in
      let z_is : z * 2 ^ d ≡ g * 2 ^ d + h * 2 ^ d + 2 ^ d = ap (λ (k : ℕ). k * 2 ^ d) (b0 z h l) ∙ add-mul (g + h) 1 (2 ^ d) ∙ ap₂ (λ (x y : ℕ). x + y) (add-mul g h (2 ^ d)) (one_mul' (2 ^ d)) in
      ap (λ (k : ℕ). round f r k (2 ^ j)) (ap (λ (k : ℕ). k - m * 2 ^ e) x_is ∙ sym (sub_mul (2 * (z * 2 ^ d)) m (2 ^ e)))
      ∙ stuck r (2 * (z * 2 ^ d) - m) g
      (b1 (z * 2 ^ d) (g * 2 ^ d) (h * 2 ^ d) (2 ^ d) m z_is hi2)
      (b2 (z * 2 ^ d) (g * 2 ^ d) (h * 2 ^ d) (2 ^ d) m z_is lo2 hi2)
      (λ w. b3 z h o (2 ^ (prec f + 3)) (2 ^ (prec f + 1)) eight (pow_pos (prec f + 1)) few w)
      ∙ ap (λ (k : ℕ). round f r (k * 2 ^ (d + e)) (2 ^ j)) (b4 z h l)
    where
      one_mul' : (x : ℕ) → 1 * x ≡ x
      one_mul' x = omega arith

      b0 : (z h : ℕ) → h < z → z ≡ z - suc h + h + 1
      b0 z h l = omega arith

      b1 : (a g b c m : ℕ) → a ≡ g + b + c → m < 2 * b + 2 * c → 2 * g < 2 * a - m
      b1 a g b c m p l = omega arith

      b2 : (a g b c m : ℕ) → a ≡ g + b + c → 2 * b < m → m < 2 * b + 2 * c → 2 * a - m < 2 * g + 2 * c
      b2 a g b c m p l k = omega arith

      b3 : (z h o p q : ℕ) → p ≡ 4 * q → 0 < q → 2 * h < o → o + p ≤ 2 * z → q ≤ z - suc h
      b3 z h o p q e k u l = omega arith

      b4 : (z h : ℕ) → h < z → 2 * (z - suc h) + 1 ≡ 2 * z - (2 * h + 1)
      b4 z h l = omega arith

  -- x is below: h = z + g
  under : (r : Bool) → z ≤ h → round f r (m * 2 ^ e - 2 * z * 2 ^ (d + e)) (2 ^ j) ≡ round f r ((2 * h + 1 - 2 * z) * 2 ^ (d + e)) (2 ^ j)
  under r l =
      let g = h - z in
      let h_is : h * 2 ^ d ≡ g * 2 ^ d + z * 2 ^ d = ap (λ (k : ℕ). k * 2 ^ d) (c0 z h l) ∙ add-mul g z (2 ^ d) in
      ap (λ (k : ℕ). round f r k (2 ^ j)) (ap (λ (k : ℕ). m * 2 ^ e - k) x_is ∙ sym (sub_mul m (2 * (z * 2 ^ d)) (2 ^ e)))
      ∙ stuck r (m - 2 * (z * 2 ^ d)) g
      (c1 (z * 2 ^ d) (g * 2 ^ d) (h * 2 ^ d) m h_is lo2)
      (c2 (z * 2 ^ d) (g * 2 ^ d) (h * 2 ^ d) (2 ^ d) m h_is lo2 hi2)
      (λ w. c3 z h o (2 ^ (prec f + 3)) (2 ^ (prec f + 1)) l few w)
      ∙ ap (λ (k : ℕ). round f r (k * 2 ^ (d + e)) (2 ^ j)) (c4 z h l)
    where
      c0 : (z h : ℕ) → z ≤ h → h ≡ h - z + z
      c0 z h l = omega arith

      c1 : (a g b m : ℕ) → b ≡ g + a → 2 * b < m → 2 * g < m - 2 * a
      c1 a g b m p l = omega arith

      c2 : (a g b c m : ℕ) → b ≡ g + a → 2 * b < m → m < 2 * b + 2 * c → m - 2 * a < 2 * g + 2 * c
      c2 a g b c m p l k = omega arith

      c3 : (z h o p q : ℕ) → z ≤ h → 2 * h < o → o + p ≤ 2 * z → q ≤ h - z
      c3 z h o p q l u w = absurd (no z h o p l u w)
        where
          no : (z h o p : ℕ) → z ≤ h → 2 * h < o → o + p ≤ 2 * z → ⊥
          no z h o p l u w = omega arith

      c4 : (z h : ℕ) → z ≤ h → 2 * (h - z) + 1 ≡ 2 * h + 1 - 2 * z
      c4 z h l = omega arith

  -- the words are in the order of the magnitudes
  above : h < z → m * 2 ^ e < 2 * z * 2 ^ (d + e)
  above l = subst (λ (k : ℕ). m * 2 ^ e < k) (sym x_is) (mul-lt-mul_of_pos_right (lt_of_lt_of_le hi2 (le_trans (le_of_eq (sum2 (h * 2 ^ d) (2 ^ d))) (mul-le-mul_left 2 (le_trans (le_of_eq (sym (suc-mul h (2 ^ d)))) (mul-le-mul_right (2 ^ d) l))))) (pow_pos e))
    where
      sum2 : (a b : ℕ) → 2 * a + 2 * b ≡ 2 * (a + b)
      sum2 a b = omega arith

  below : z ≤ h → 2 * z * 2 ^ (d + e) < m * 2 ^ e
  below l = subst (λ (k : ℕ). k < m * 2 ^ e) (sym x_is) (mul-lt-mul_of_pos_right (lt_of_le_of_lt (mul-le-mul_left 2 (mul-le-mul_right (2 ^ d) l)) lo2) (pow_pos e))

  cut : (s t : Bool) → sum f s (2 * z * 2 ^ (d + e)) t (m * 2 ^ e) (2 ^ j) ≡ round f (neg_of s (2 * z) t (2 * h + 1)) (mag_of s (2 * z) t (2 * h + 1) * 2 ^ (d + e)) (2 ^ j)
  cut s t =
      let k = 2 ^ (d + e) in
      let x = 2 * z in
      let y = 2 * h + 1 in
      let a = x * k in
      let b = m * 2 ^ e in
      sum_is f s a t b (2 ^ j)
      ∙ elim (side h z) [
        | inl l ↦
            ap₂ (λ (p q : Bool). round f (cond (beq s t) s (cond p t (s && q))) (cond (beq s t) (a + b) (cond p (b - a) (a - b))) (2 ^ j)) (le-ltb a b (le_of_lt (above l))) (lt-ltb b a (above l))
            ∙ go_over (beq s t) l
            ∙ sym (ap₂ (λ (p q : Bool). round f (cond (beq s t) s (cond p t (s && q))) (cond (beq s t) (x + y) (cond p (y - x) (x - y)) * k) (2 ^ j)) (le-ltb x y (o1 h z l)) (lt-ltb y x (o2 h z l)))
        | inr l ↦
            ap₂ (λ (p q : Bool). round f (cond (beq s t) s (cond p t (s && q))) (cond (beq s t) (a + b) (cond p (b - a) (a - b))) (2 ^ j)) (lt-ltb a b (below l)) (le-ltb b a (le_of_lt (below l)))
            ∙ go_under (beq s t) l
            ∙ sym (ap₂ (λ (p q : Bool). round f (cond (beq s t) s (cond p t (s && q))) (cond (beq s t) (x + y) (cond p (y - x) (x - y)) * k) (2 ^ j)) (lt-ltb x y (o3 h z l)) (le-ltb y x (o4 h z l)))
      ]
    where
      o1 : (h z : ℕ) → h < z → 2 * h + 1 ≤ 2 * z
      o1 h z l = omega arith

      o2 : (h z : ℕ) → h < z → 2 * h + 1 < 2 * z
      o2 h z l = omega arith

      o3 : (h z : ℕ) → z ≤ h → 2 * z < 2 * h + 1
      o3 h z l = omega arith

      o4 : (h z : ℕ) → z ≤ h → 2 * z ≤ 2 * h + 1
      o4 h z l = omega arith

      go_over : (b : Bool) → h < z → round f (cond b s (s && true)) (cond b (2 * z * 2 ^ (d + e) + m * 2 ^ e) (2 * z * 2 ^ (d + e) - m * 2 ^ e)) (2 ^ j) ≡ round f (cond b s (s && true)) (cond b (2 * z + (2 * h + 1)) (2 * z - (2 * h + 1)) * 2 ^ (d + e)) (2 ^ j)
      go_over true l = plus s
      go_over false l = over (s && true) l

      go_under : (b : Bool) → z ≤ h → round f (cond b s t) (cond b (2 * z * 2 ^ (d + e) + m * 2 ^ e) (m * 2 ^ e - 2 * z * 2 ^ (d + e))) (2 ^ j) ≡ round f (cond b s t) (cond b (2 * z + (2 * h + 1)) (2 * h + 1 - 2 * z) * 2 ^ (d + e)) (2 ^ j)
      go_under true l = plus s
      go_under false l = under t l

-- ---- both
pub aligned : (f : Format) (j x z y m o d e : ℕ) (s t : Bool) → x ≡ 2 * z → Jammed o m d y → (d + e + low f + 2 ≤ j) ⊎ (o + 2 ^ (prec f + 3) ≤ 2 * z)
    → sum f s (x * 2 ^ (d + e)) t (m * 2 ^ e) (2 ^ j) ≡ round f (neg_of s x t y) (mag_of s x t y * 2 ^ (d + e)) (2 ^ j)
aligned f j x z y m o d e s t p (inl q) w = exact f j x y m d e s t q
aligned f j x z y m o d e s t p (inr (h, q, lo, hi, few)) w =
    ap (λ (k : ℕ). sum f s (k * 2 ^ (d + e)) t (m * 2 ^ e) (2 ^ j)) p
    ∙ cut f j z h m d e o lo hi few w s t
    ∙ sym (ap₂ (λ (k l : ℕ). round f (neg_of s k t l) (mag_of s k t l * 2 ^ (d + e)) (2 ^ j)) p q)
