-- The product and the addend, aligned as the code aligns them.
use Rattle.std.proofs.Common.{◌≡◌, ℕ, zero, suc, ◌+◌, ◌-◌, ◌*◌, ◌/◌, ◌%◌, ◌^◌, ◌<◌, ◌≤◌, Bool, true, false, cond, not, ◌&&◌, T, eqb, ltb, ◌⊎◌, sym, refl, ap, ◌∙◌, ap₂, inl, inr, le_trans, le_of_eq, lt_of_lt_of_le, lt_of_le_of_lt, le_of_lt, mul-le-mul_right, mod-lt, mul_assoc, mul_comm, add-mul, add_comm, lt_of_mul-lt-mul_right, mul-le-mul_left, mul-lt-mul_of_pos_right, one-mul, mul-zero, div-add-mod', zero-mul, mul-one, arith, ltb→lt, nltb→le, pow_pos, pow_mono, pow-add, eqb-true}
use native.Mathlib.Nat.{mul-mod_left}
use lib.Ieee.{Format, binary32, round, sum}
use borrow.Author.Tests.{eqb-false}
use Rattle.float.specs.Inside.{M, Q, jam_of, mag_of, neg_of}
use Rattle.float.proofs.Decode.{place_lt, normal_or_low}
use Rattle.float.proofs.Sticky.{side}
use Rattle.float.proofs.Align.{Jammed, aligned, sum_is}

-- ---- a sum does not turn on the order
pub sum_comm : (f : Format) (s : Bool) (a : ℕ) (t : Bool) (b c : ℕ) → sum f s a t b c ≡ sum f t b s a c
sum_comm f s a t b c = sum_is f s a t b c ∙ go s t ∙ sym (sum_is f t b s a c)
  where
    unlike : (s t : Bool) (x y : Bool) → (T x → a < b) → (T (not x) → b ≤ a) → (T y → b < a) → (T (not y) → a ≤ b)
        → ((z : Bool) → (s && z) ≡ (t && false) → z ≡ false → round f (s && z) (a - b) c ≡ round f (t && false) (a - b) c)
        → (s && true) ≡ s → (t && true) ≡ t → (s && false) ≡ (t && false)
        → round f (cond x t (s && y)) (cond x (b - a) (a - b)) c ≡ round f (cond y s (t && x)) (cond y (a - b) (b - a)) c
    unlike s t true true p q r u k v w z = absurd (omega (arith, p tt, r tt))
    unlike s t true false p q r u k v w z = ap (λ (n : Bool). round f n (b - a) c) (sym w)
    unlike s t false true p q r u k v w z = ap (λ (n : Bool). round f n (a - b) c) v
    unlike s t false false p q r u k v w z = ap₂ (λ (n : Bool) (m : ℕ). round f n m c) z (omega (arith, q tt, u tt))

    go : (s t : Bool) → round f (neg_of s a t b) (mag_of s a t b) c ≡ round f (neg_of t b s a) (mag_of t b s a) c
    go true true = ap (λ (m : ℕ). round f true m c) (add_comm a b)
    go false false = ap (λ (m : ℕ). round f false m c) (add_comm a b)
    go true false = unlike true false (ltb a b) (ltb b a) (ltb→lt a b) (nltb→le a b) (ltb→lt b a) (nltb→le b a) (λ z e _. ap (λ (n : Bool). round f n (a - b) c) e) refl refl refl
    go false true = unlike false true (ltb a b) (ltb b a) (ltb→lt a b) (nltb→le a b) (ltb→lt b a) (nltb→le b a) (λ z e _. ap (λ (n : Bool). round f n (a - b) c) e) refl refl refl

-- ---- what `jam` gives of o * 2 ^ g
whole : (m d : ℕ) → m % 2 ^ d ≡ 0 → m ≡ m / 2 ^ d * 2 ^ d
whole m d e = sym (div-add-mod' m (2 ^ d)) ∙ ap (λ (r : ℕ). m / 2 ^ d * 2 ^ d + r) e ∙ (omega arith)

-- something is cut off, so the place is above g
cut_above : (o g d : ℕ) → (o * 2 ^ g % 2 ^ d ≡ 0 → ⊥) → g < d
cut_above o g d n = elim (side g d) [
  | inl l ↦ l
  | inr l ↦ absurd (n (ap (λ (x : ℕ). x % 2 ^ d) (ap (λ (x : ℕ). o * x) (ap (λ (x : ℕ). 2 ^ x) (sym (omega arith)) ∙ pow-add 2 (g - d) d) ∙ sym (mul_assoc o (2 ^ (g - d)) (2 ^ d))) ∙ mul-mod_left (o * 2 ^ (g - d)) (2 ^ d)))
]

pub jam_says : (o g d : ℕ) → Jammed o (o * 2 ^ g) d (jam_of (o * 2 ^ g) d)
jam_says o g d = go (eqb (o * 2 ^ g % 2 ^ d) 0) (eqb-true (o * 2 ^ g % 2 ^ d) 0) (eqb-false (o * 2 ^ g % 2 ^ d) 0)
  where
    turn : (q : ℕ) → q / 2 * 2 + 1 ≡ 2 * (q / 2) + 1
    turn q = omega arith

    pos : (r : ℕ) → (r ≡ 0 → ⊥) → 0 < r
    pos zero n = absurd (n refl)
    pos (suc r) n = some r
      where
        some : (r : ℕ) → 0 < suc r
        some r = omega arith

    under : (q : ℕ) → 2 * (q / 2) ≤ q
    under q = omega arith

    over : (q : ℕ) → q ≤ 2 * (q / 2) + 1
    over q = omega arith

    low : (a b r m : ℕ) → a ≤ b → 0 < r → b + r ≡ m → a < m
    low a b r m l p e = omega arith

    high : (a b c r m : ℕ) → b ≤ a + c → r < c → b + r ≡ m → m < a + 2 * c
    high a b c r m l p e = omega arith

    one_more : (a b : ℕ) → (a + 1) * b ≡ a * b + b
    one_more a b = add-mul a 1 b ∙ ap (λ (x : ℕ). a * b + x) (one-mul b)

    go : (b : Bool) → (b ≡ true → o * 2 ^ g % 2 ^ d ≡ 0) → (b ≡ false → o * 2 ^ g % 2 ^ d ≡ 0 → ⊥) → Jammed o (o * 2 ^ g) d (cond b (o * 2 ^ g / 2 ^ d) (o * 2 ^ g / 2 ^ d / 2 * 2 + 1))
    go true y n = inl (whole (o * 2 ^ g) d (y refl))
    go false y n =
        let m = o * 2 ^ g in
        let q = m / 2 ^ d in
        let r = m % 2 ^ d in
        let lo : 2 * (q / 2) * 2 ^ d < m = low (2 * (q / 2) * 2 ^ d) (q * 2 ^ d) r m (mul-le-mul_right (2 ^ d) (under q)) (pos r (n refl)) (div-add-mod' m (2 ^ d)) in
        let hi : m < 2 * (q / 2) * 2 ^ d + 2 * 2 ^ d = high (2 * (q / 2) * 2 ^ d) (q * 2 ^ d) (2 ^ d) r m (le_trans (mul-le-mul_right (2 ^ d) (over q)) (le_of_eq (one_more (2 * (q / 2)) (2 ^ d)))) (mod-lt m (pow_pos d)) (div-add-mod' m (2 ^ d)) in
        inr (q / 2, turn q, lo, hi, lt_of_mul-lt-mul_right (2 ^ d) (lt_of_lt_of_le lo (mul-le-mul_left o (pow_mono (le_of_lt (cut_above o g d (n refl)))))))

-- ---- the two ways to align, over the common denominator 2 ^ 314
near : (x y : ℕ) → x ≤ y → y - x + x ≡ y
near x y l = omega arith

-- the addend stands at least as high
pub addend_high : (s t : Bool) (p c x y : ℕ) → x ≤ y → p < 2 ^ 48 → (8388608 ≤ c) ⊎ (y ≤ 163)
    → sum binary32 s (p * 2 ^ 14 * 2 ^ x) t (c * 2 ^ 38 * 2 ^ y) (2 ^ 314) ≡ round binary32 (neg_of t (c * 2 ^ 38) s (jam_of (p * 2 ^ 14) (y - x))) (mag_of t (c * 2 ^ 38) s (jam_of (p * 2 ^ 14) (y - x)) * 2 ^ y) (2 ^ 314)
addend_high s t p c x y l small w =
    let k = jam_of (p * 2 ^ 14) (y - x) in
    sum_comm binary32 s (p * 2 ^ 14 * 2 ^ x) t (c * 2 ^ 38 * 2 ^ y) (2 ^ 314)
    ∙ ap (λ (z : ℕ). sum binary32 t (c * 2 ^ 38 * 2 ^ z) s (p * 2 ^ 14 * 2 ^ x) (2 ^ 314)) (sym (near x y l))
    ∙ aligned binary32 314 (c * 2 ^ 38) (c * 2 ^ 37) k (p * 2 ^ 14) p (y - x) x t s (half c) (jam_says p 14 (y - x)) (wide w)
    ∙ ap (λ (z : ℕ). round binary32 (neg_of t (c * 2 ^ 38) s k) (mag_of t (c * 2 ^ 38) s k * 2 ^ z) (2 ^ 314)) (near x y l)
  where
    half : (c : ℕ) → c * 274877906944 ≡ 2 * (c * 137438953472)
    half c = omega arith

    far : (x y : ℕ) → x ≤ y → y ≤ 163 → y - x + x + 149 + 2 ≤ 314
    far x y l m = omega arith

    big : (p c : ℕ) → p < 281474976710656 → 8388608 ≤ c → p + 134217728 ≤ 2 * (c * 137438953472)
    big p c h g = omega arith

    wide : (8388608 ≤ c) ⊎ (y ≤ 163) → (y - x + x + 149 + 2 ≤ 314) ⊎ (p + 2 ^ 27 ≤ 2 * (c * 2 ^ 37))
    wide (inl g) = inr (big p c small g)
    wide (inr g) = inl (far x y l g)

-- the product stands higher
pub product_high : (s t : Bool) (p c x y : ℕ) → y ≤ x → c < 2 ^ 24 → (8388608 ≤ p) ⊎ (x ≤ 163)
    → sum binary32 s (p * 2 ^ 14 * 2 ^ x) t (c * 2 ^ 38 * 2 ^ y) (2 ^ 314) ≡ round binary32 (neg_of s (p * 2 ^ 14) t (jam_of (c * 2 ^ 38) (x - y))) (mag_of s (p * 2 ^ 14) t (jam_of (c * 2 ^ 38) (x - y)) * 2 ^ x) (2 ^ 314)
product_high s t p c x y l small w =
    let k = jam_of (c * 2 ^ 38) (x - y) in
    ap (λ (z : ℕ). sum binary32 s (p * 2 ^ 14 * 2 ^ z) t (c * 2 ^ 38 * 2 ^ y) (2 ^ 314)) (sym (near y x l))
    ∙ aligned binary32 314 (p * 2 ^ 14) (p * 2 ^ 13) k (c * 2 ^ 38) c (x - y) y s t (half p) (jam_says c 38 (x - y)) (wide w)
    ∙ ap (λ (z : ℕ). round binary32 (neg_of s (p * 2 ^ 14) t k) (mag_of s (p * 2 ^ 14) t k * 2 ^ z) (2 ^ 314)) (near y x l)
  where
    half : (p : ℕ) → p * 16384 ≡ 2 * (p * 8192)
    half p = omega arith

    far : (x y : ℕ) → y ≤ x → x ≤ 163 → x - y + y + 149 + 2 ≤ 314
    far x y l m = omega arith

    big : (p c : ℕ) → c < 16777216 → 8388608 ≤ p → c + 134217728 ≤ 2 * (p * 8192)
    big p c h g = omega arith

    wide : (8388608 ≤ p) ⊎ (x ≤ 163) → (x - y + y + 149 + 2 ≤ 314) ⊎ (c + 2 ^ 27 ≤ 2 * (p * 2 ^ 13))
    wide (inl g) = inr (big p c small g)
    wide (inr g) = inl (far x y l g)

-- ---- the bits' parts
pub mul_small : (a b : ℕ) → a < 2 ^ 24 → b < 2 ^ 24 → a * b < 2 ^ 48
mul_small a b h g = lt_of_le_of_lt (mul-le-mul_left a (le_of_lt g)) (mul-lt-mul_of_pos_right h (pow_pos 24))

-- where the product stands
abbrev pub E : ℕ → ℕ → ℕ
E x y = cond (eqb (M x * M y) 0) 2 (Q x + Q y)

pub E-small : (x y : ℕ) → E x y < 512
E-small x y = go (eqb (M x * M y) 0) (Q x) (Q y) (place_lt x) (place_lt y)
  where
    go : (b : Bool) (p q : ℕ) → p < 256 → q < 256 → cond b 2 (p + q) < 512
    go true p q h g = omega arith
    go false p q h g = omega arith

first_pos : (a b : ℕ) → (a * b ≡ 0 → ⊥) → 0 < b
first_pos a zero n = absurd (n (mul-zero a))
first_pos a (suc b) n = omega arith

-- a product that is not zero of a significand with its leading digit
led : (a b : ℕ) → 8388608 ≤ a → (a * b ≡ 0 → ⊥) → 8388608 ≤ a * b
led a b h n = le_trans (le_trans h (le_of_eq (sym (mul-one a)))) (mul-le-mul_left a (first_pos a b n))

pub product_placed : (x y : ℕ) → (8388608 ≤ M x * M y) ⊎ (E x y ≤ 163)
product_placed x y = go (eqb (M x * M y) 0) (eqb-false (M x * M y) 0) (normal_or_low x) (normal_or_low y)
  where
    go : (b : Bool) → (b ≡ false → M x * M y ≡ 0 → ⊥) → (8388608 ≤ M x) ⊎ (Q x ≡ 1) → (8388608 ≤ M y) ⊎ (Q y ≡ 1) → (8388608 ≤ M x * M y) ⊎ (cond b 2 (Q x + Q y) ≤ 163)
    go true n u v = inr (omega arith)
    go false n (inl g) v = inl (led (M x) (M y) g (n refl))
    go false n (inr e) (inl g) = inl (le_trans (led (M y) (M x) g (λ z. n refl (mul_comm (M x) (M y) ∙ z))) (le_of_eq (mul_comm (M y) (M x))))
    go false n (inr e) (inr f) = inr (omega arith)

pub addend_placed : (z : ℕ) → (8388608 ≤ M z) ⊎ (Q z + 126 ≤ 163)
addend_placed z = elim (normal_or_low z) [ inl g ↦ inl g | inr e ↦ inr (omega arith) ]

-- the same numbers, as the definition has them
pub product_is : (x y : ℕ) → M x * M y * 2 ^ 14 * 2 ^ E x y ≡ M x * M y * 2 ^ (Q x + Q y + 14)
product_is x y = go (eqb (M x * M y) 0) (eqb-true (M x * M y) 0)
  where
    go : (b : Bool) → (b ≡ true → M x * M y ≡ 0) → M x * M y * 2 ^ 14 * 2 ^ cond b 2 (Q x + Q y) ≡ M x * M y * 2 ^ (Q x + Q y + 14)
    go true e = ap (λ (p : ℕ). p * 2 ^ 14 * 2 ^ 2) (e refl) ∙ sym (ap (λ (p : ℕ). p * 2 ^ (Q x + Q y + 14)) (e refl) ∙ zero-mul (2 ^ (Q x + Q y + 14)))
    go false e = mul_assoc (M x * M y) (2 ^ 14) (2 ^ (Q x + Q y)) ∙ ap (λ (k : ℕ). M x * M y * k) (mul_comm (2 ^ 14) (2 ^ (Q x + Q y)) ∙ sym (pow-add 2 (Q x + Q y) 14))

pub addend_is : (z : ℕ) → M z * 2 ^ 38 * 2 ^ (Q z + 126) ≡ M z * 2 ^ (Q z + 164)
addend_is z = mul_assoc (M z) (2 ^ 38) (2 ^ (Q z + 126)) ∙ ap (λ (k : ℕ). M z * k) (sym (pow-add 2 38 (Q z + 126)) ∙ ap (λ (k : ℕ). 2 ^ k) (omega arith))
