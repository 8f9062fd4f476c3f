-- Bounds of rounded results, by monotone rounding. `Mag x n d`: x is finite and |x| ≤ n / d. `Low x n d`: and its sign is +. `Held f n d`: n / d is a value of the format f.
use Rattle.std.specs.Prelude.{None, Option, Some}
use Rattle.std.proofs.Common.{◌≡◌, ℕ, zero, suc, ◌+◌, ◌-◌, ◌*◌, ◌/◌, ◌%◌, ◌^◌, ◌<◌, ◌≤◌, Bool, true, false, cond, ◌&&◌, ◌||◌, T, eqb, ltb, leb, ℤ, pos, negsuc, sym, refl, ap, ◌∙◌, subst, ap₂, inl, inr, true≢false, zero-le, le_trans, le_of_eq, le_refl, lt_of_lt_of_le, lt_of_le_of_lt, le_of_lt, add-le-add, lt_irrefl, mul-le-mul_right, zero-lt-suc, mul_assoc, mul_comm, add-mul, mul-le-mul, le_antisymm, lt_of_mul-lt-mul_right, eq-or-lt_of_le, mul-le-mul_left, mul-lt-mul_of_pos_right, mul-pos, one-mul, zero-mul, mul-one, mul_right_comm, not-le_of_lt, div-mul-le_self, le_of_mul-le-mul_right, mul_left_comm, arith, lit<, lit≤, eqb→eq, ltb→lt, lt→ltb, leb→le, pow_pos, pow_mono, pow-add, le-ltb, ne_eqb}
use native.Mathlib.Nat.{mul-mul-mul_comm, eq_of_mul-eq-mul_right}
use mathlib.Core.Bool.{beq, false≢true}
use lib.Pow.{pow-lt}
use lib.Ieee.{Float, nan, inf, fin, Format, binary32, prec, emax, low, up, down, unlike, odd, units, round, sum, add, sub, mul, div, neg, lt, eq, le, fits}
use lib.Ieee.Fits.{and_i, and_l, and_r, eq→eqb, up_pos, down_pos, round_is, round-fits}
use lib.Ieee.Exact.{HasValue, round_exact}
use lib.Ieee.Back.{round_whole}
use lib.Ieee.Order.{round_mono, le_of_values}
use lib.Ieee.Nearest.{div_mono}
use lib.Ieee.Scale.{finite, grid, round_val, round_under}
use lib.Ieee.Positive.{num, den, positive, den_pos, own_value, value_pos, first_pos, through}
use Rattle.float.specs.Finite.{rounded, or_zero}
use Rattle.float.specs.Inside.{mag_of, neg_of}
use Rattle.float.specs.Nearest.{not_negative}
use Rattle.float.specs.Fused.{fused_of}
use Rattle.float.specs.Root.{twice_root, root_of, integer_root}
use Rattle.float.proofs.Align.{sum_is}
use Rattle.float.proofs.Sticky.{side}
use Rattle.float.proofs.Roots.{integer_root_lem, twice_exact, twice_cut, twice_bound, square_back}

abbrev pub Mag : Float → ℕ → ℕ → Type 0
Mag nan n d = ⊥
Mag (inf s) n d = ⊥
Mag (fin s m e) n d = m * up e * d ≤ n * down e

abbrev pub Low : Float → ℕ → ℕ → Type 0
Low nan n d = ⊥
Low (inf s) n d = ⊥
Low (fin true m e) n d = ⊥
Low (fin false m e) n d = m * up e * d ≤ n * down e

abbrev pub Held : Format → ℕ → ℕ → Type 0
Held f n d = HasValue (round f false n d) false n d

-- the sign, and + for a NaN
abbrev pub sign : Float → Bool
sign nan = false
sign (inf s) = s
sign (fin s m e) = s

-- ---- a bound's parts, and a bound from its parts
pub mag_finite : (x : Float) (n d : ℕ) → Mag x n d → T (finite x)
mag_finite nan n d h = h
mag_finite (inf s) n d h = h
mag_finite (fin s m e) n d h = tt

pub mag_size : (x : Float) (n d : ℕ) → Mag x n d → num x * d ≤ n * den x
mag_size nan n d h = absurd h
mag_size (inf s) n d h = absurd h
mag_size (fin s m e) n d h = h

pub mag_of_size : (x : Float) (n d : ℕ) → T (finite x) → num x * d ≤ n * den x → Mag x n d
mag_of_size nan n d t h = t
mag_of_size (inf s) n d t h = t
mag_of_size (fin s m e) n d t h = h

pub low_mag : (x : Float) (n d : ℕ) → Low x n d → Mag x n d
low_mag nan n d h = h
low_mag (inf s) n d h = h
low_mag (fin true m e) n d h = absurd h
low_mag (fin false m e) n d h = h

pub low_sign : (x : Float) (n d : ℕ) → Low x n d → sign x ≡ false
low_sign nan n d h = refl
low_sign (inf s) n d h = absurd h
low_sign (fin true m e) n d h = absurd h
low_sign (fin false m e) n d h = refl

pub low_of_mag : (x : Float) (n d : ℕ) → sign x ≡ false → Mag x n d → Low x n d
low_of_mag nan n d p h = h
low_of_mag (inf s) n d p h = h
low_of_mag (fin true m e) n d p h = absurd (true≢false p)
low_of_mag (fin false m e) n d p h = h

-- a wider bound
pub mag_wider : (x : Float) (a b n d : ℕ) → 0 < b → Mag x a b → a * d ≤ n * b → Mag x n d
mag_wider x a b n d B h p = mag_of_size x n d (mag_finite x a b h) (through (num x) a n (den x) b d B (mag_size x a b h) p)

pub low_wider : (x : Float) (a b n d : ℕ) → 0 < b → Low x a b → a * d ≤ n * b → Low x n d
low_wider x a b n d B h p = low_of_mag x n d (low_sign x a b h) (mag_wider x a b n d B (low_mag x a b h) p)

-- a value is its own bound
pub mag_value : (x : Float) (s : Bool) (n d : ℕ) → HasValue x s n d → Mag x n d
mag_value nan s n d v = v
mag_value (inf t) s n d v = v
mag_value (fin t m e) s n d v = le_of_eq v.1

pub low_value : (x : Float) (n d : ℕ) → HasValue x false n d → Low x n d
low_value nan n d v = v
low_value (inf s) n d v = v
low_value (fin true m e) n d v = true≢false v.0
low_value (fin false m e) n d v = le_of_eq v.1

-- ---- values of a format
pub held_small : (f : Format) (n : ℕ) → n ≤ 2 ^ prec f → Held f n 1
held_small f n h = round_whole f false n h

-- q * 2 ^ j / 2 ^ i of an f32
pub held_binary : (q j i : ℕ) → q < 2 ^ 24 → j ≤ 64 → i ≤ 149 → Held binary32 (q * 2 ^ j) (2 ^ i)
held_binary q j i Q J I =
    let k = j + (149 - i) in
    round_exact binary32 false (q * 2 ^ j) (2 ^ i) q k (pow_pos i) Q (lt_of_lt_of_le (mul-lt-mul_of_pos_right Q (pow_pos k)) (le_trans (le_of_eq (sym (pow-add 2 24 k))) (pow_mono (room i j J))))
    (mul_assoc q (2 ^ j) (2 ^ 149) ∙ ap (λ (z : ℕ). q * z) (sym (pow-add 2 j 149) ∙ ap (λ (z : ℕ). 2 ^ z) (back i j I) ∙ pow-add 2 k i) ∙ sym (mul_assoc q (2 ^ k) (2 ^ i)))
  where
    room : (i j : ℕ) → j ≤ 64 → 24 + (j + (149 - i)) ≤ 149 + 128
    room i j J = omega arith

    back : (i j : ℕ) → i ≤ 149 → j + 149 ≡ j + (149 - i) + i
    back i j I = omega arith

pub held_scaled : (q j : ℕ) → q < 2 ^ 24 → j ≤ 64 → Held binary32 (q * 2 ^ j) 1
held_scaled q j Q J = held_binary q j 0 Q J zero-le

-- 2 ^ e is 2 ^ j smallest values
place : (l : ℕ) (e : ℤ) → down e ≤ 2 ^ l → (j : ℕ) × (up e * 2 ^ l ≡ 2 ^ j * down e)
place l (pos i) h = (i + l, sym (pow-add 2 i l) ∙ sym (mul-one (2 ^ (i + l))))
place l (negsuc i) h = (l - suc i, one-mul (2 ^ l) ∙ ap (λ (z : ℕ). 2 ^ z) (omega (arith, (under l (suc i) h))) ∙ pow-add 2 (l - suc i) (suc i))
  where
    under : (l i : ℕ) → 2 ^ i ≤ 2 ^ l → i ≤ l
    under l i h = elim (side l i) [ inl g ↦ absurd (not-le_of_lt (pow-lt g) h) | inr g ↦ g ]

pub fits_parts : (f : Format) (s : Bool) (m : ℕ) (e : ℤ) → T (fits f (fin s m e)) → (m < 2 ^ prec f) × (down e ≤ 2 ^ low f) × (m * up e < 2 ^ suc (emax f) * down e)
unfolding fits
fits_parts f s zero e t = (
  pow_pos (prec f),
  le_trans (le_of_eq (sym (one-mul (down e)))) (le_trans (mul-le-mul_right (down e) (up_pos e)) (le_trans (le_of_eq (eqb→eq (up e * down e) 1 t)) (pow_pos (low f)))),
  rw (zero-mul (up e)) (mul-pos (pow_pos (suc (emax f))) (down_pos e)),
)
fits_parts f s (suc m) e t =
    let a : Bool = eqb (suc m % 2) 1 in
    let b : Bool = ltb (suc m) (2 ^ prec f) in
    let c : Bool = leb (down e) (2 ^ low f) in
    let d : Bool = ltb (suc m * up e) (2 ^ suc (emax f) * down e) in
    (ltb→lt (suc m) (2 ^ prec f) (and_r a b (and_l (a && b) c (and_l (a && b && c) d t))), leb→le (down e) (2 ^ low f) (and_r (a && b) c (and_l (a && b && c) d t)), ltb→lt (suc m * up e) (2 ^ suc (emax f) * down e) (and_r (a && b && c) d t))

pub held_own : (f : Format) (x : Float) (s : Bool) (a c : ℕ) → T (fits f x) → 0 < c → HasValue x s a c → Held f a c
held_own f nan s a c t C v = absurd v
held_own f (inf r) s a c t C v = absurd v
held_own f (fin r m e) s a c t C v =
    let l = low f in
    let h = fits_parts f r m e t in
    let j = place l e h.1 in
    round_exact f false a c m j.0 C h.0
    (lt_of_mul-lt-mul_right (down e) (subst (λ (z : ℕ). z < 2 ^ (l + suc (emax f)) * down e) (sym (units_of m (up e) (2 ^ l) (2 ^ j.0) (down e) j.1)) (subst (λ (z : ℕ). m * up e * 2 ^ l < z) (reach (2 ^ l) (2 ^ suc (emax f)) (down e) ∙ ap (λ (z : ℕ). z * down e) (sym (pow-add 2 l (suc (emax f))))) (mul-lt-mul_of_pos_right h.2 (pow_pos l)))))
    (eq_of_mul-eq-mul_right (down e) (down_pos e) (a * 2 ^ l) (m * 2 ^ j.0 * c) (whole m (up e) (2 ^ l) (2 ^ j.0) (down e) a c j.1 v.1))
  where
    units_of : (m u l j d : ℕ) → u * l ≡ j * d → m * j * d ≡ m * u * l
    units_of m u l j d p = mul_assoc m j d ∙ ap (λ (z : ℕ). m * z) (sym p) ∙ sym (mul_assoc m u l)

    reach : (l t d : ℕ) → t * d * l ≡ l * t * d
    reach l t d = simp (mul_assoc, mul_comm, mul_left_comm)

    whole : (m u l j d a c : ℕ) → u * l ≡ j * d → m * u * c ≡ a * d → a * l * d ≡ m * j * c * d
    whole m u l j d a c p v = mul_right_comm a l d ∙ ap (λ (z : ℕ). z * l) (sym v) ∙ mul_right_comm (m * u) c l ∙ ap (λ (z : ℕ). z * c) (sym (units_of m u l j d p)) ∙ mul_right_comm (m * j) d c

-- ---- the result of `round` has the sign handed in, and a size that does not depend on it
abbrev signed : Bool → Float → Float
signed s nan = nan
signed s (inf t) = inf s
signed s (fin t m e) = fin s m e

odd_signed : (d : ℕ) (s : Bool) (q k l : ℕ) → odd d s q k l ≡ signed s (odd d false q k l)
unfolding odd
odd_signed d s zero k l = refl
odd_signed d s (suc q) k l = refl

units_signed : (f : Format) (s : Bool) (q k : ℕ) → units f s q k ≡ signed s (units f false q k)
unfolding units
units_signed f s q k = go (ltb (q * 2 ^ k) (2 ^ (low f + suc (emax f))))
  where
    go : (b : Bool) → cond b (odd (suc (prec f)) s q k (low f)) (inf s) ≡ signed s (cond b (odd (suc (prec f)) false q k (low f)) (inf false))
    go true = odd_signed (suc (prec f)) s q k (low f)
    go false = refl

round_signed : (f : Format) (s : Bool) (a b : ℕ) → round f s a b ≡ signed s (round f false a b)
round_signed f s a b = rw (round_is f s a b, round_is f false a b) (units_signed f s _ _)

mag_signed : (s : Bool) (x : Float) (n d : ℕ) → Mag x n d → Mag (signed s x) n d
mag_signed s nan n d h = h
mag_signed s (inf t) n d h = h
mag_signed s (fin t m e) n d h = h

plus_signed : (x : Float) → sign (signed false x) ≡ false
plus_signed nan = refl
plus_signed (inf s) = refl
plus_signed (fin s m e) = refl

round_sign : (f : Format) (a b : ℕ) → sign (round f false a b) ≡ false
round_sign f a b = ap sign (round_signed f false a b) ∙ plus_signed (round f false a b)

-- ---- what `le` says of two sizes, for like signs
or_and : {P : Type 0} (a b c : Bool) → (T a → P) → (T b → P) → T (a || (b && c)) → P
or_and true b c f g t = f tt
or_and false true c f g t = g tt
or_and false false c f g t = absurd t

or_le : (a b : ℕ) → T (ltb a b || (eqb a b && true)) → a ≤ b
or_le a b = or_and (ltb a b) (eqb a b) true (λ t. le_of_lt (ltb→lt a b t)) (λ t. le_of_eq (eqb→eq a b t))

or_ge : (a b : ℕ) → T (ltb b a || (eqb a b && true)) → b ≤ a
or_ge a b = or_and (ltb b a) (eqb a b) true (λ t. le_of_lt (ltb→lt b a t)) (λ t. le_of_eq (sym (eqb→eq a b t)))

-- a sign + and a comparison give a bound. Neither an infinity with the sign + nor a NaN is at most a finite value
pub low_of_le : (x b : Float) (n d : ℕ) → sign x ≡ false → HasValue b false n d → T (le x b) → Low x n d
unfolding le lt eq
low_of_le x nan n d s v t = absurd v
low_of_le x (inf u) n d s v t = absurd v
low_of_le x (fin true p g) n d s v t = absurd (true≢false v.0)
low_of_le nan (fin false p g) n d s v t = t
low_of_le (inf true) (fin false p g) n d s v t = absurd (true≢false s)
low_of_le (inf false) (fin false p g) n d s v t = t
low_of_le (fin true m e) (fin false p g) n d s v t = absurd (true≢false s)
low_of_le (fin false m e) (fin false p g) n d s v t =
    through (m * up e) (p * up g) n (down e) (down g) d (down_pos g) (or_le (m * up e * down g) (p * up g * down e) t) (le_of_eq v.1)

-- ---- a fraction a / b that is at most n / d, rounded: n' / d' is what n / d rounds to, so n / d itself where it is held
pub round_low : (f : Format) (a b n d n' d' : ℕ) → 0 < b → 0 < d → HasValue (round f false n d) false n' d' → a * d ≤ n * b → Low (round f false a b) n' d'
round_low f a b n d n' d' B D v h =
    low_of_le (round f false a b) (round f false n d) n' d' (round_sign f a b) v (round_mono f a b n d B D h)

pub round_mag : (f : Format) (s : Bool) (a b n d n' d' : ℕ) → 0 < b → 0 < d → HasValue (round f false n d) false n' d' → a * d ≤ n * b → Mag (round f s a b) n' d'
round_mag f s a b n d n' d' B D v h =
    rw (round_signed f s a b) (mag_signed s (round f false a b) n' d' (low_mag (round f false a b) n' d' (round_low f a b n d n' d' B D v h)))

-- ---- fractions: X / P ≤ a / b and Y / Q ≤ c / d
cross_times : (X P Y Q a b c d : ℕ) → X * b ≤ a * P → Y * d ≤ c * Q → X * Y * (b * d) ≤ a * c * (P * Q)
cross_times X P Y Q a b c d h g = le_trans (le_of_eq (mul-mul-mul_comm X Y b d)) (le_trans (mul-le-mul h g) (le_of_eq (mul-mul-mul_comm a P c Q)))

cross_plus : (X P Y Q a b c d : ℕ) → X * b ≤ a * P → Y * d ≤ c * Q → (X * Q + Y * P) * (b * d) ≤ (a * d + c * b) * (P * Q)
cross_plus X P Y Q a b c d h g =
    le_trans (le_of_eq (add-mul (X * Q) (Y * P) (b * d)))
    (le_trans (add-le-add (cross_times X P Q Q a b d d h (le_of_eq (mul_comm Q d))) (le_trans (le_of_eq (ap (λ (z : ℕ). Y * P * z) (mul_comm b d))) (le_trans (cross_times Y Q P P c d b b g (le_of_eq (mul_comm P b))) (le_of_eq (ap (λ (z : ℕ). c * b * z) (mul_comm Q P))))))
    (le_of_eq (sym (add-mul (a * d) (c * b) (P * Q)))))

-- ---- products
mul_is : (f : Format) (x y : Float) → T (finite x) → T (finite y) → mul f x y ≡ round f (unlike (sign x) (sign y)) (num x * num y) (den x * den y)
unfolding mul
mul_is f nan y p q = absurd p
mul_is f (inf s) y p q = absurd p
mul_is f (fin s m e) nan p q = absurd q
mul_is f (fin s m e) (inf t) p q = absurd q
mul_is f (fin s m e) (fin t n d) p q = refl

unlike_same : (s t : Bool) → s ≡ t → unlike s t ≡ false
unlike_same true true p = refl
unlike_same true false p = absurd (true≢false p)
unlike_same false true p = absurd (false≢true p)
unlike_same false false p = refl

module _ (f : Format) (x y : Float) (a b c d n k : ℕ) (B : 0 < b) (D : 0 < d) (K : 0 < k) (H : Held f n k) where
  mul_size : Mag x a b → Mag y c d → a * c * k ≤ n * (b * d) → num x * num y * k ≤ n * (den x * den y)
  mul_size h g p = through (num x * num y) (a * c) n (den x * den y) (b * d) k (mul-pos B D) (cross_times (num x) (den x) (num y) (den y) a b c d (mag_size x a b h) (mag_size y c d g)) p

  pub mul_mag : Mag x a b → Mag y c d → a * c * k ≤ n * (b * d) → Mag (mul f x y) n k
  mul_mag h g p =
      rw (mul_is f x y (mag_finite x a b h) (mag_finite y c d g))
      (round_mag f (unlike (sign x) (sign y)) (num x * num y) (den x * den y) n k n k (mul-pos (den_pos x) (den_pos y)) K H (mul_size h g p))

  -- of like signs
  pub mul_like : sign x ≡ sign y → Mag x a b → Mag y c d → a * c * k ≤ n * (b * d) → Low (mul f x y) n k
  mul_like s h g p =
      rw (mul_is f x y (mag_finite x a b h) (mag_finite y c d g), unlike_same (sign x) (sign y) s)
      (round_low f (num x * num y) (den x * den y) n k n k (mul-pos (den_pos x) (den_pos y)) K H (mul_size h g p))

  pub mul_low : Low x a b → Low y c d → a * c * k ≤ n * (b * d) → Low (mul f x y) n k
  mul_low h g = mul_like (low_sign x a b h ∙ sym (low_sign y c d g)) (low_mag x a b h) (low_mag y c d g)

pub square_low : (f : Format) (x : Float) (a b n k : ℕ) → 0 < b → 0 < k → Held f n k → Mag x a b → a * a * k ≤ n * (b * b) → Low (mul f x x) n k
square_low f x a b n k B K H h = mul_like f x x a b a b n k B B K H refl h h

-- a weight is at most 1
weight : (n k : ℕ) → n * 1 * k ≤ n * (k * 1)
weight n k = le_of_eq (simp mul-one)

pub mul_weight : (f : Format) (x w : Float) (n k : ℕ) → 0 < k → Held f n k → Mag x n k → Mag w 1 1 → Mag (mul f x w) n k
mul_weight f x w n k K H h g = mul_mag f x w n k 1 1 n k K (lit< tt) K H h g (weight n k)

pub mul_weight_low : (f : Format) (x w : Float) (n k : ℕ) → 0 < k → Held f n k → Low x n k → Low w 1 1 → Low (mul f x w) n k
mul_weight_low f x w n k K H h g = mul_low f x w n k 1 1 n k K (lit< tt) K H h g (weight n k)

-- ---- sums
size_of_sum : (s : Bool) (a : ℕ) (t : Bool) (b : ℕ) → mag_of s a t b ≤ a + b
size_of_sum s a t b = go (beq s t) (ltb a b)
  where
    go : (x y : Bool) → cond x (a + b) (cond y (b - a) (a - b)) ≤ a + b
    go true y = omega arith
    go false true = omega arith
    go false false = omega arith

sum_mag : (f : Format) (s : Bool) (a : ℕ) (t : Bool) (b c n k : ℕ) → 0 < c → 0 < k → Held f n k → (a + b) * k ≤ n * c → Mag (sum f s a t b c) n k
sum_mag f s a t b c n k C K H h =
    rw (sum_is f s a t b c) (round_mag f (neg_of s a t b) (mag_of s a t b) c n k n k C K H (le_trans (mul-le-mul_right k (size_of_sum s a t b)) h))

sum_plus : (f : Format) (s t : Bool) (a b c : ℕ) → s ≡ false → t ≡ false → sum f s a t b c ≡ round f false (a + b) c
sum_plus f s t a b c p q = ap₂ (λ (x y : Bool). sum f x a y b c) p q ∙ sum_is f false a false b c

add_is : (f : Format) (x y : Float) → T (finite x) → T (finite y) → add f x y ≡ sum f (sign x) (num x * den y) (sign y) (num y * den x) (den x * den y)
unfolding add
add_is f nan y p q = absurd p
add_is f (inf s) y p q = absurd p
add_is f (fin s m e) nan p q = absurd q
add_is f (fin s m e) (inf t) p q = absurd q
add_is f (fin s m e) (fin t n d) p q = refl

module _ (f : Format) (x y : Float) (a b c d n k : ℕ) (B : 0 < b) (D : 0 < d) (K : 0 < k) where
  add_size : Mag x a b → Mag y c d → (a * d + c * b) * k ≤ n * (b * d) → (num x * den y + num y * den x) * k ≤ n * (den x * den y)
  add_size h g p = through (num x * den y + num y * den x) (a * d + c * b) n (den x * den y) (b * d) k (mul-pos B D) (cross_plus (num x) (den x) (num y) (den y) a b c d (mag_size x a b h) (mag_size y c d g)) p

  pub add_mag : Held f n k → Mag x a b → Mag y c d → (a * d + c * b) * k ≤ n * (b * d) → Mag (add f x y) n k
  add_mag H h g p =
      rw (add_is f x y (mag_finite x a b h) (mag_finite y c d g))
      (sum_mag f (sign x) (num x * den y) (sign y) (num y * den x) (den x * den y) n k (mul-pos (den_pos x) (den_pos y)) K H (add_size h g p))

  pub add_low : (n' k' : ℕ) → HasValue (round f false n k) false n' k' → Low x a b → Low y c d → (a * d + c * b) * k ≤ n * (b * d) → Low (add f x y) n' k'
  add_low n' k' v h g p =
      let h' = low_mag x a b h in
      let g' = low_mag y c d g in
      rw (add_is f x y (mag_finite x a b h') (mag_finite y c d g'), sum_plus f (sign x) (sign y) (num x * den y) (num y * den x) (den x * den y) (low_sign x a b h) (low_sign y c d g))
      (round_low f (num x * den y + num y * den x) (den x * den y) n k n' k' (mul-pos (den_pos x) (den_pos y)) K v (add_size h' g' p))

-- 2 ^ 60 + 2 ^ 17 rounds to 2 ^ 60
absorbed : HasValue (round binary32 false (2 ^ 60 + 2 ^ 17) 1) false (2 ^ 60) 1
unfolding round
absorbed = (refl, refl)

pub absorb_low : (x y : Float) → Low x (2 ^ 60) 1 → Low y (2 ^ 17) 1 → Low (add binary32 x y) (2 ^ 60) 1
absorb_low x y h g = add_low binary32 x y (2 ^ 60) 1 (2 ^ 17) 1 (2 ^ 60 + 2 ^ 17) 1 (lit< tt) (lit< tt) (lit< tt) (2 ^ 60) 1 absorbed h g (lit≤ tt)

pub neg_mag : (x : Float) (n d : ℕ) → Mag x n d → Mag (neg x) n d
unfolding neg
neg_mag nan n d h = h
neg_mag (inf s) n d h = h
neg_mag (fin s m e) n d h = h

pub sub_mag : (f : Format) (x y : Float) (a b c d n k : ℕ) → 0 < b → 0 < d → 0 < k → Held f n k → Mag x a b → Mag y c d → (a * d + c * b) * k ≤ n * (b * d) → Mag (sub f x y) n k
unfolding sub
sub_mag f x y a b c d n k B D K H h g = add_mag f x (neg y) a b c d n k B D K H h (neg_mag y c d g)

-- ---- quotients: the divisor is finite with the sign +, and at least c / d
abbrev pub Over : Float → ℕ → ℕ → Type 0
Over nan c d = ⊥
Over (inf s) c d = ⊥
Over (fin true m e) c d = ⊥
Over (fin false m e) c d = c * down e ≤ m * up e * d

pub over_value : (y : Float) (c d : ℕ) → HasValue y false c d → Over y c d
over_value nan c d v = v
over_value (inf s) c d v = v
over_value (fin true m e) c d v = true≢false v.0
over_value (fin false m e) c d v = le_of_eq (sym v.1)

over_parts : (y : Float) (c d : ℕ) → 0 < c → Over y c d → T (positive y) × (den y * c ≤ d * num y)
over_parts nan c d C h = absurd h
over_parts (inf s) c d C h = absurd h
over_parts (fin true m e) c d C h = absurd h
over_parts (fin false m e) c d C h =
    (lt→ltb 0 m (first_pos m (up e) (first_pos (m * up e) d (lt_of_lt_of_le (mul-pos C (down_pos e)) h))), le_trans (le_of_eq (mul_comm (down e) c)) (le_trans h (le_of_eq (mul_comm (m * up e) d))))

num_pos : (y : Float) → T (positive y) → 0 < num y
num_pos y p = value_pos y (num y) (den y) p (den_pos y) (own_value y p)

div_is : (f : Format) (x y : Float) → T (finite x) → T (positive y) → div f x y ≡ round f (unlike (sign x) false) (num x * den y) (den x * num y)
unfolding div
div_is f nan y p q = absurd p
div_is f (inf s) y p q = absurd p
div_is f (fin s m e) nan p q = absurd q
div_is f (fin s m e) (inf t) p q = absurd q
div_is f (fin s m e) (fin true n d) p q = absurd q
div_is f (fin s m e) (fin false n d) p q =
    ap (λ (z : Bool). cond z (cond (eqb m 0) nan (inf (unlike s false))) (round f (unlike s false) (m * up e * down d) (n * up d * down e))) (ne_eqb n 0 (λ z. lt_irrefl 0 (subst (λ (k : ℕ). 0 < k) z (ltb→lt 0 n q))))
    ∙ ap (round f (unlike s false) (m * up e * down d)) (mul_comm (n * up d) (down e))

module _ (f : Format) (x y : Float) (a b c d n k : ℕ) (B : 0 < b) (C : 0 < c) (K : 0 < k) (H : Held f n k) where
  div_size : Mag x a b → Over y c d → a * d * k ≤ n * (b * c) → num x * den y * k ≤ n * (den x * num y)
  div_size h g p = through (num x * den y) (a * d) n (den x * num y) (b * c) k (mul-pos B C) (cross_times (num x) (den x) (den y) (num y) a b d c (mag_size x a b h) (over_parts y c d C g).1) p

  pub div_mag : Mag x a b → Over y c d → a * d * k ≤ n * (b * c) → Mag (div f x y) n k
  div_mag h g p =
      let q = (over_parts y c d C g).0 in
      rw (div_is f x y (mag_finite x a b h) q)
      (round_mag f (unlike (sign x) false) (num x * den y) (den x * num y) n k n k (mul-pos (den_pos x) (num_pos y q)) K H (div_size h g p))

  pub div_low : Low x a b → Over y c d → a * d * k ≤ n * (b * c) → Low (div f x y) n k
  div_low h g p =
      let q = (over_parts y c d C g).0 in
      let h' = low_mag x a b h in
      rw (div_is f x y (mag_finite x a b h') q, low_sign x a b h)
      (round_low f (num x * den y) (den x * num y) n k n k (mul-pos (den_pos x) (num_pos y q)) K H (div_size h' g p))

-- the divisor is the whole number c
pub div_whole_low : (f : Format) (x y : Float) (c n k : ℕ) → 0 < c → 0 < k → Held f n k → HasValue y false c 1 → Low x (c * n) k → Low (div f x y) n k
div_whole_low f x y c n k C K H v h = div_low f x y (c * n) k c 1 n k K C K H h (over_value y c 1 v) (le_of_eq (simp (mul-one, mul_assoc, mul_comm, mul_left_comm)))

-- ---- a result that is a number: it fits, and P holds of it
abbrev pub Yields : Option Float → (Float → Type 0) → Type 0
Yields r P = (v : Float) × (r ≡ Some v) × T (fits binary32 v) × P v

-- such a number stands for itself
pub found : (r : Option Float) (P : Float → Type 0) → Yields r P → P (or_zero r)
found r P y = subst P (sym (ap or_zero y.1)) y.3

-- and is an f32
pub found_fits : (r : Option Float) (P : Float → Type 0) → Yields r P → T (fits binary32 (or_zero r))
found_fits r P y = subst (λ (v : Float). T (fits binary32 v)) (sym (ap or_zero y.1)) y.2

yields : (x : Float) (P : Float → Type 0) → T (finite x) → T (fits binary32 x) → P x → Yields (rounded x) P
yields nan P t u p = absurd t
yields (inf s) P t u p = absurd t
yields (fin s m e) P t u p = (fin s m e, refl, u, p)

no_number : {X : Type 0} (v : Float) → None ≡ Some v → X
no_number v p = let z : ◌≡◌ {A = ℕ} 0 1 = cc in absurd (omega arith)

rounded_is : (x v : Float) → rounded x ≡ Some v → x ≡ v
rounded_is nan v p = no_number v p
rounded_is (inf s) v p = no_number v p
rounded_is (fin s m e) v p = cc

rounded_finite : (x v : Float) → rounded x ≡ Some v → T (finite v)
rounded_finite nan v p = no_number v p
rounded_finite (inf s) v p = no_number v p
rounded_finite (fin s m e) v p = subst (λ (z : Float). T (finite z)) (rounded_is (fin s m e) v p) tt

-- ---- x * y + z, rounded once
fused_is : (x y z : Float) → T (finite x) → T (finite y) → T (finite z)
    → fused_of x y z ≡ rounded (sum binary32 (unlike (sign x) (sign y)) (num x * num y * den z) (sign z) (num z * (den x * den y)) (den x * den y * den z))
unfolding fused_of
fused_is nan y z p q r = absurd p
fused_is (inf s) y z p q r = absurd p
fused_is (fin s m e) nan z p q r = absurd q
fused_is (fin s m e) (inf t) z p q r = absurd q
fused_is (fin s m e) (fin t n d) nan p q r = absurd r
fused_is (fin s m e) (fin t n d) (inf u) p q r = absurd r
fused_is (fin s m e) (fin t n d) (fin u k g) p q r = refl

sum_fits : (f : Format) (s : Bool) (a : ℕ) (t : Bool) (b c : ℕ) → T (fits f (sum f s a t b c))
sum_fits f s a t b c = rw (sum_is f s a t b c) (round-fits f (neg_of s a t b) (mag_of s a t b) c)

-- the operands of a number are finite, and with like signs of x and y and the sign + of z it is one rounded fraction
pub fused_finite : (x y z v : Float) → fused_of x y z ≡ Some v → T (finite x) × T (finite y) × T (finite z)
unfolding fused_of
fused_finite nan y z v p = no_number v p
fused_finite (inf s) y z v p = no_number v p
fused_finite (fin s m e) nan z v p = no_number v p
fused_finite (fin s m e) (inf t) z v p = no_number v p
fused_finite (fin s m e) (fin t n d) nan v p = no_number v p
fused_finite (fin s m e) (fin t n d) (inf u) v p = no_number v p
fused_finite (fin s m e) (fin t n d) (fin u k g) v p = (tt, tt, tt)

fused_sum : (x y z v : Float) → fused_of x y z ≡ Some v
    → sum binary32 (unlike (sign x) (sign y)) (num x * num y * den z) (sign z) (num z * (den x * den y)) (den x * den y * den z) ≡ v
fused_sum x y z v p =
    let t = fused_finite x y z v p in
    rounded_is _ v (sym (fused_is x y z t.0 t.1 t.2) ∙ p)

fused_round : (x y z v : Float) → sign x ≡ sign y → sign z ≡ false → fused_of x y z ≡ Some v → round binary32 false (num x * num y * den z + num z * (den x * den y)) (den x * den y * den z) ≡ v
fused_round x y z v s t p =
    sym (sum_plus binary32 (unlike (sign x) (sign y)) (sign z) (num x * num y * den z) (num z * (den x * den y)) (den x * den y * den z) (unlike_same (sign x) (sign y) s) t) ∙ fused_sum x y z v p

pub fused_fits : (x y z v : Float) → fused_of x y z ≡ Some v → T (fits binary32 v)
fused_fits x y z v p = rw (fused_sum x y z v p) at (sum_fits binary32 (unlike (sign x) (sign y)) (num x * num y * den z) (sign z) (num z * (den x * den y)) (den x * den y * den z))

module _ (x y z : Float) (a b c d p q n k : ℕ) (B : 0 < b) (D : 0 < d) (Q : 0 < q) (K : 0 < k) (H : Held binary32 n k) where
  fused_size : Mag x a b → Mag y c d → Mag z p q → (a * c * q + p * (b * d)) * k ≤ n * (b * d * q) → (num x * num y * den z + num z * (den x * den y)) * k ≤ n * (den x * den y * den z)
  fused_size h g i l =
      through (num x * num y * den z + num z * (den x * den y)) (a * c * q + p * (b * d)) n (den x * den y * den z) (b * d * q) k (mul-pos (mul-pos B D) Q)
      (cross_plus (num x * num y) (den x * den y) (num z) (den z) (a * c) (b * d) p q (cross_times (num x) (den x) (num y) (den y) a b c d (mag_size x a b h) (mag_size y c d g)) (mag_size z p q i)) l

  pub fused_mag : Mag x a b → Mag y c d → Mag z p q → (a * c * q + p * (b * d)) * k ≤ n * (b * d * q) → Yields (fused_of x y z) (λ v. Mag v n k)
  fused_mag h g i l =
      let s = unlike (sign x) (sign y) in
      let A = num x * num y * den z in
      let C = num z * (den x * den y) in
      let E = den x * den y * den z in
      let m = sum_mag binary32 s A (sign z) C E n k (mul-pos (mul-pos (den_pos x) (den_pos y)) (den_pos z)) K H (fused_size h g i l) in
      rw (fused_is x y z (mag_finite x a b h) (mag_finite y c d g) (mag_finite z p q i))
      (yields (sum binary32 s A (sign z) C E) (λ v. Mag v n k) (mag_finite (sum binary32 s A (sign z) C E) n k m) (sum_fits binary32 s A (sign z) C E) m)

  -- the product of like signs
  pub fused_like : sign x ≡ sign y → Mag x a b → Mag y c d → Low z p q → (a * c * q + p * (b * d)) * k ≤ n * (b * d * q) → Yields (fused_of x y z) (λ v. Low v n k)
  fused_like s h g i l =
      let r = fused_mag h g (low_mag z p q i) l in
      let e : sign r.0 ≡ false = ap sign (sym (fused_round x y z r.0 s (low_sign z p q i) r.1)) ∙ round_sign binary32 (num x * num y * den z + num z * (den x * den y)) (den x * den y * den z) in
      (r.0, r.1, r.2, low_of_mag r.0 n k e r.3)

  pub fused_low : Low x a b → Low y c d → Low z p q → (a * c * q + p * (b * d)) * k ≤ n * (b * d * q) → Yields (fused_of x y z) (λ v. Low v n k)
  fused_low h g = fused_like (low_sign x a b h ∙ sym (low_sign y c d g)) (low_mag x a b h) (low_mag y c d g)

pub fused_weight : (w x z : Float) (n m : ℕ) → Held binary32 (n + m) 1 → Mag w 1 1 → Mag x n 1 → Mag z m 1 → Yields (fused_of w x z) (λ v. Mag v (n + m) 1)
fused_weight w x z n m H h g i = fused_mag w x z 1 1 n 1 m 1 (n + m) 1 (lit< tt) (lit< tt) (lit< tt) (lit< tt) H h g i (le_of_eq (simp (mul-one, one-mul)))

-- ---- roots
held_units : (f : Format) (n k : ℕ) → Held f n k → (g : ℕ) × (n * 2 ^ low f ≡ g * k)
held_units f n k H =
    let r = round f false n k in
    (grid f n k, same r n k (grid f n k) (2 ^ low f) H (round_val f n k (round_under f n k (mag_finite r n k (mag_value r false n k H)))))
  where
    same : (x : Float) (a b c d : ℕ) → HasValue x false a b → HasValue x false c d → a * d ≡ c * b
    same nan a b c d h g = absurd h
    same (inf s) a b c d h g = absurd h
    same (fin s m e) a b c d h g = eq_of_mul-eq-mul_right (down e) (down_pos e) (a * d) (c * b) (mul_right_comm a d (down e) ∙ ap (λ (z : ℕ). z * d) (sym h.1) ∙ mul_right_comm (m * up e) b d ∙ ap (λ (z : ℕ). z * b) g.1 ∙ mul_right_comm c (down e) b)

-- X / P ≤ (n / k) ^ 2 in smallest values: n / k is g / L, N is the whole part of (X / P) * (t * L) ^ 2
root_square : (X P N g n k t L : ℕ) → 0 < P → 0 < k → N * P ≤ X * (t * L * (t * L)) → X * (k * k) ≤ n * n * P → n * L ≡ g * k → N ≤ t * g * (t * g)
root_square X P N g n k t L p K h q e =
    le_of_mul-le-mul_right
    (le_trans (le_of_eq (sym (mul_assoc N P (k * k))))
    (le_trans (mul-le-mul_right (k * k) h)
    (le_trans (le_of_eq (mul_right_comm X (t * L * (t * L)) (k * k)))
    (le_trans (mul-le-mul_right (t * L * (t * L)) q) (le_of_eq (a n P t L ∙ ap (λ (z : ℕ). z * z * (t * t * P)) e ∙ b g k t P))))))
    (mul-pos p (mul-pos K K))
  where
    a : (n P t L : ℕ) → n * n * P * (t * L * (t * L)) ≡ n * L * (n * L) * (t * t * P)
    a n P t L = simp (mul_assoc, mul_comm, mul_left_comm)

    b : (g k t P : ℕ) → g * k * (g * k) * (t * t * P) ≡ t * g * (t * g) * (P * (k * k))
    b g k t P = simp (mul_assoc, mul_comm, mul_left_comm)

root_scale : (r g n k t L : ℕ) → r ≤ t * (t * g) → n * L ≡ g * k → r * k ≤ n * (t * (t * L))
root_scale r g n k t L h e = le_trans (mul-le-mul_right k h) (le_of_eq (a g k t ∙ ap (λ (z : ℕ). t * (t * z)) (sym e) ∙ b n L t))
  where
    a : (g k t : ℕ) → t * (t * g) * k ≡ t * (t * (g * k))
    a g k t = simp (mul_assoc, mul_comm, mul_left_comm)

    b : (n L t : ℕ) → t * (t * (n * L)) ≡ n * (t * (t * L))
    b n L t = simp (mul_comm, mul_left_comm)

pub root_low : (x : Float) (a b n k : ℕ) → 0 < b → 0 < k → T (fits binary32 x) → Held binary32 n k → Low x a b → a * (k * k) ≤ n * n * b → Yields (root_of x) (λ v. Low v n k)
unfolding root_of
root_low nan a b n k B K t H h p = absurd h
root_low (inf s) a b n k B K t H h p = absurd h
root_low (fin true m e) a b n k B K t H h p = absurd h
root_low (fin false zero e) a b n k B K t H h p = (fin false zero e, refl, t, simp zero-mul zero-le)
root_low (fin false (suc m) e) a b n k B K t H h p =
    let X = suc m * up e in
    let N = X * 2 ^ 300 / down e in
    let g = held_units binary32 n k H in
    let l : N ≤ 2 * g.0 * (2 * g.0) = root_square X (down e) N g.0 n k 2 (2 ^ 149) (down_pos e) K (div-mul-le_self (X * 2 ^ 300) (down e)) (through X a (n * n) (down e) b (k * k) B h p) g.1 in
    let r = round_low binary32 (twice_root N) (2 ^ 151) n k n k (pow_pos 151) K H (root_scale (twice_root N) g.0 n k 2 (2 ^ 149) (twice_bound N (2 * g.0) l) g.1) in
    let v = round binary32 false (twice_root N) (2 ^ 151) in
    yields v (λ u. Low u n k) (mag_finite v n k (low_mag v n k r)) (round-fits binary32 false (twice_root N) (2 ^ 151)) r

pub root_fits : (x v : Float) → T (fits binary32 x) → root_of x ≡ Some v → T (fits binary32 v)
unfolding root_of
root_fits nan v t p = no_number v p
root_fits (inf s) v t p = no_number v p
root_fits (fin s zero e) v t p = rw (rounded_is (fin s zero e) v p) at t
root_fits (fin true (suc m) e) v t p = no_number v p
root_fits (fin false (suc m) e) v t p =
    let r = twice_root (suc m * up e * 2 ^ 300 / down e) in
    rw (rounded_is (round binary32 false r (2 ^ 151)) v p) at (round-fits binary32 false r (2 ^ 151))

-- ---- from comparisons to a bound and back: b is a finite value with the sign +, n / d in size
pub mag_of_range : (x b : Float) (n d : ℕ) → HasValue b false n d → T (le (neg b) x) → T (le x b) → Mag x n d
unfolding le lt eq neg
mag_of_range x nan n d v h g = absurd v
mag_of_range x (inf s) n d v h g = absurd v
mag_of_range x (fin true p i) n d v h g = absurd (true≢false v.0)
mag_of_range nan (fin false p i) n d v h g = g
mag_of_range (inf true) (fin false p i) n d v h g = h
mag_of_range (inf false) (fin false p i) n d v h g = g
mag_of_range (fin true m e) (fin false p i) n d v h g = through (m * up e) (p * up i) n (down e) (down i) d (down_pos i) (or_ge (p * up i * down e) (m * up e * down i) h) (le_of_eq v.1)
mag_of_range (fin false m e) (fin false p i) n d v h g = low_of_le (fin false m e) (fin false p i) n d refl v g

order : (a b : ℕ) (c : Bool) → (a ≡ b → T c) → a ≤ b → T (ltb a b || c)
order a b c f h = elim (eq-or-lt_of_le h) [ inl p ↦ right (ltb a b) c (f p) | inr l ↦ left (ltb a b) c (lt→ltb a b l) ]
  where
    left : (a b : Bool) → T a → T (a || b)
    left true b t = tt
    left false b t = absurd t

    right : (a b : Bool) → T b → T (a || b)
    right true b t = tt
    right false b t = t

-- -a ≤ b, at two zeros too
across : (a b : ℕ) → T (ltb 0 (a + b) || (eqb a b && eqb a 0))
across a b = order 0 (a + b) (eqb a b && eqb a 0) (λ p. and_i (eqb a b) (eqb a 0) (eq→eqb (same a b p)) (eq→eqb (none a b p))) zero-le
  where
    same : (a b : ℕ) → 0 ≡ a + b → a ≡ b
    same a b p = omega arith

    none : (a b : ℕ) → 0 ≡ a + b → a ≡ 0
    none a b p = omega arith

pub le_of_mag : (x b : Float) (n d : ℕ) → 0 < d → HasValue b false n d → Mag x n d → T (le (neg b) x) × T (le x b)
unfolding le lt eq neg
le_of_mag x nan n d D v h = absurd v
le_of_mag x (inf s) n d D v h = absurd v
le_of_mag x (fin true p i) n d D v h = absurd (true≢false v.0)
le_of_mag nan (fin false p i) n d D v h = absurd h
le_of_mag (inf s) (fin false p i) n d D v h = absurd h
le_of_mag (fin true m e) (fin false p i) n d D v h =
    let X = m * up e * down i in
    let N = p * up i * down e in
    (order X N (eqb N X && true) (λ q. and_i (eqb N X) true (eq→eqb (sym q)) tt) (through (m * up e) n (p * up i) (down e) d (down i) D h (le_of_eq (sym v.1))), across X N)
le_of_mag (fin false m e) (fin false p i) n d D v h =
    let X = m * up e * down i in
    let N = p * up i * down e in
    (across N X, order X N (eqb X N && true) (λ q. and_i (eqb X N) true (eq→eqb q) tt) (through (m * up e) n (p * up i) (down e) d (down i) D h (le_of_eq (sym v.1))))

-- ---- monotone: of finite values with the sign +
pub plus_value : (x : Float) → T (not_negative x) → HasValue x false (num x) (den x)
plus_value nan p = absurd p
plus_value (inf s) p = absurd p
plus_value (fin true m e) p = absurd p
plus_value (fin false m e) p = (refl, refl)

pub plus_low : (x : Float) → T (not_negative x) → Low x (num x) (den x)
plus_low x p = low_value x (num x) (den x) (plus_value x p)

plus_of : (x : Float) → T (finite x) → sign x ≡ false → T (not_negative x)
plus_of nan t p = t
plus_of (inf s) t p = t
plus_of (fin true m e) t p = true≢false p
plus_of (fin false m e) t p = tt

plus_sign : (x : Float) → T (not_negative x) → sign x ≡ false
plus_sign x p = low_sign x (num x) (den x) (plus_low x p)

le_size : (x y : Float) → T (not_negative x) → T (not_negative y) → T (le x y) → num x * den y ≤ num y * den x
le_size x y p q h = mag_size x (num y) (den y) (low_mag x (num y) (den y) (low_of_le x y (num y) (den y) (plus_sign x p) (plus_value y q) h))

le_rounded : (a b c d : ℕ) (u v : Float) → 0 < b → 0 < d → round binary32 false a b ≡ u → round binary32 false c d ≡ v → a * d ≤ c * b → T (le u v)
le_rounded a b c d u v B D p q h = rw (← p, ← q) (round_mono binary32 a b c d B D h)

pub fused_mono : (x y z x' y' z' u v : Float) → T (not_negative x) → T (not_negative y) → T (not_negative z) → T (not_negative x') → T (not_negative y') → T (not_negative z')
    → T (le x x') → T (le y y') → T (le z z') → fused_of x y z ≡ Some u → fused_of x' y' z' ≡ Some v → T (le u v)
fused_mono x y z x' y' z' u v p q r p' q' r' h g i eu ev =
    le_rounded (num x * num y * den z + num z * (den x * den y)) (den x * den y * den z) (num x' * num y' * den z' + num z' * (den x' * den y')) (den x' * den y' * den z') u v
    (mul-pos (mul-pos (den_pos x) (den_pos y)) (den_pos z)) (mul-pos (mul-pos (den_pos x') (den_pos y')) (den_pos z'))
    (fused_round x y z u (plus_sign x p ∙ sym (plus_sign y q)) (plus_sign z r) eu) (fused_round x' y' z' v (plus_sign x' p' ∙ sym (plus_sign y' q')) (plus_sign z' r') ev)
    (cross_plus (num x * num y) (den x * den y) (num z) (den z) (num x' * num y') (den x' * den y') (num z') (den z')
    (cross_times (num x) (den x) (num y) (den y) (num x') (den x') (num y') (den y') (le_size x x' p p' h) (le_size y y' q q' g)) (le_size z z' r r' i))

twice_mono : (n m : ℕ) → n ≤ m → twice_root n ≤ twice_root m
twice_mono n m h =
    let r = integer_root n in
    let s = integer_root m in
    let p = integer_root_lem n in
    let q = integer_root_lem m in
    elim (side (s * s) m) [
      | inl l ↦
          le_trans (at_most n)
          (le_trans (omega (arith, (square_back r (s + 1) (lt_of_le_of_lt p.0 (lt_of_le_of_lt h q.1)))))
          (le_of_eq (sym (twice_cut m s q (λ e. lt_irrefl m (subst (λ (z : ℕ). z < m) e l))))))
      | inr l ↦ le_trans (twice_bound n s (le_trans h l)) (le_of_eq (sym (twice_exact m s q (le_antisymm q.0 l))))
    ]
  where
    at_most : (n : ℕ) → twice_root n ≤ 2 * integer_root n + 1
    at_most n = unfold twice_root in go (integer_root n) (eqb (integer_root n * integer_root n) n)
      where
        go : (r : ℕ) (b : Bool) → 2 * r + cond b 0 1 ≤ 2 * r + 1
        go r true = omega arith
        go r false = omega arith

pub root_plus : (x v : Float) → T (not_negative x) → root_of x ≡ Some v → T (not_negative v)
unfolding root_of
root_plus nan v t p = absurd t
root_plus (inf s) v t p = absurd t
root_plus (fin true m e) v t p = absurd t
root_plus (fin false zero e) v t p = subst (λ (z : Float). T (not_negative z)) (rounded_is (fin false zero e) v p) tt
root_plus (fin false (suc m) e) v t p =
    let r = twice_root (suc m * up e * 2 ^ 300 / down e) in
    plus_of v (rounded_finite (round binary32 false r (2 ^ 151)) v p) (ap sign (sym (rounded_is (round binary32 false r (2 ^ 151)) v p)) ∙ round_sign binary32 r (2 ^ 151))

pub root_mono : (x y u v : Float) → T (not_negative x) → T (not_negative y) → T (le x y) → root_of x ≡ Some u → root_of y ≡ Some v → T (le u v)
unfolding root_of
root_mono nan y u v p q h eu ev = absurd p
root_mono (inf s) y u v p q h eu ev = absurd p
root_mono (fin true m e) y u v p q h eu ev = absurd p
root_mono (fin false zero e) y u v p q h eu ev =
    let w = root_plus y v q ev in
    rw (← rounded_is (fin false zero e) u eu)
    (le_of_values (fin false zero e) v 0 1 (num v) (den v) (lit< tt) (den_pos v) (refl, simp zero-mul) (plus_value v w) (rw (zero-mul (den v)) zero-le))
root_mono (fin false (suc m) e) nan u v p q h eu ev = absurd q
root_mono (fin false (suc m) e) (inf s) u v p q h eu ev = absurd q
root_mono (fin false (suc m) e) (fin true n d) u v p q h eu ev = absurd q
root_mono (fin false (suc m) e) (fin false zero d) u v p q h eu ev =
    absurd (lt_irrefl 0 (lt_of_lt_of_le (mul-pos (mul-pos (zero-lt-suc m) (up_pos e)) (down_pos d)) (le_trans (le_size (fin false (suc m) e) (fin false zero d) tt tt h) (le_of_eq (ap (λ (z : ℕ). z * down e) (zero-mul (up d)) ∙ zero-mul (down e))))))
root_mono (fin false (suc m) e) (fin false (suc n) d) u v p q h eu ev =
    let X = suc m * up e in
    let Y = suc n * up d in
    let r = twice_root (X * 2 ^ 300 / down e) in
    let s = twice_root (Y * 2 ^ 300 / down d) in
    le_rounded r (2 ^ 151) s (2 ^ 151) u v (pow_pos 151) (pow_pos 151) (rounded_is (round binary32 false r (2 ^ 151)) u eu) (rounded_is (round binary32 false s (2 ^ 151)) v ev) (mul-le-mul_right (2 ^ 151)
    (twice_mono (X * 2 ^ 300 / down e) (Y * 2 ^ 300 / down d) (div_mono (X * 2 ^ 300) (down e) (Y * 2 ^ 300) (down d) (down_pos e) (down_pos d)
    (scaled X Y (down e) (down d) (2 ^ 300) (le_size (fin false (suc m) e) (fin false (suc n) d) tt tt h)))))
  where
    scaled : (X Y P Q t : ℕ) → X * Q ≤ Y * P → X * t * Q ≤ Y * t * P
    scaled X Y P Q t h = le_trans (le_of_eq (mul_right_comm X t Q)) (le_trans (mul-le-mul_right t h) (le_of_eq (mul_right_comm Y P t)))

-- ---- the noise floor's update: w * x + (1 - w) * e, for a weight w
abbrev pub one : Float
one = fin false 1 (pos 0)

sub_one : (f : Format) (m : ℕ) (e : ℤ) → m * up e ≤ down e → sub f one (fin false m e) ≡ round f false (down e - m * up e) (down e)
unfolding sub
sub_one f m e h =
    let A = 1 * down e in
    let B = m * up e * 1 in
    let a : A ≡ down e = one-mul (down e) in
    let b : B ≡ m * up e = mul-one (m * up e) in
    sum_is f false A true B A
    ∙ ap (λ (z : Bool). round f (cond z true false) (cond z (B - A) (A - B)) A) (le-ltb A B (le_trans (le_of_eq b) (le_trans h (le_of_eq (sym a)))))
    ∙ ap₂ (λ (x y : ℕ). round f false (x - y) x) a b

-- from 1/2 to 1 a weight's distance from 1 is a value, and so is that by a power of two
rest_parts : (m : ℕ) (e : ℤ) → down e ≤ m * up e + m * up e → ((down e - m * up e) * up e ≡ down e - m * up e) × (down e - m * up e ≤ m)
rest_parts m (pos i) h = let z : 1 - m * 2 ^ i ≡ 0 = omega arith in (ap (λ (k : ℕ). k * 2 ^ i) z ∙ zero-mul (2 ^ i) ∙ sym z, le_trans (le_of_eq z) zero-le)
rest_parts m (negsuc i) h = (mul-one (2 ^ suc i - m * 1), omega arith)

held_rest : (m : ℕ) (e : ℤ) (t : ℕ) → T (fits binary32 (fin false m e)) → t ≤ 64 → down e ≤ m * up e + m * up e → Held binary32 ((down e - m * up e) * 2 ^ t) (down e)
held_rest m e t u l h =
    let P = down e in
    let q = down e - m * up e in
    let f = fits_parts binary32 false m e u in
    let j = place 149 e f.1 in
    let r = rest_parts m e h in
    let s : q * 2 ^ t * 2 ^ 149 ≡ q * 2 ^ (t + j.0) * P =
    ap (λ (z : ℕ). z * 2 ^ t * 2 ^ 149) (sym r.0) ∙ regroup q (up e) (2 ^ t) (2 ^ 149) ∙ ap (λ (z : ℕ). q * 2 ^ t * z) j.1 ∙ spread q (2 ^ t) (2 ^ j.0) P ∙ ap (λ (z : ℕ). q * z * P) (sym (pow-add 2 t j.0)) in
    round_exact binary32 false (q * 2 ^ t) P q (t + j.0) (down_pos e) (lt_of_le_of_lt r.1 f.0)
    (lt_of_le_of_lt (le_of_mul-le-mul_right (le_trans (le_of_eq (sym s)) (le_trans (le_of_eq (mul_assoc q (2 ^ t) (2 ^ 149))) (le_trans (mul-le-mul_right (2 ^ t * 2 ^ 149) (sub_le P (m * up e))) (le_of_eq (mul_comm P (2 ^ t * 2 ^ 149)))))) (down_pos e))
    (lt_of_le_of_lt (le_of_eq (sym (pow-add 2 t 149))) (pow-lt (room t l))))
    s
  where
    regroup : (q u t l : ℕ) → q * u * t * l ≡ q * t * (u * l)
    regroup q u t l = simp (mul_assoc, mul_left_comm)

    spread : (q t j P : ℕ) → q * t * (j * P) ≡ q * (t * j) * P
    spread q t j P = simp mul_assoc

    sub_le : (a b : ℕ) → a - b ≤ a
    sub_le a b = omega arith

    room : (t : ℕ) → t ≤ 64 → t + 149 < 149 + 128
    room t l = omega arith

-- W / P of n / k and the rest of c, which is at most n / k
mixed_size : (W r P n k c : ℕ) → W + r ≡ P → c * k ≤ n → (W * n * P + r * c * (P * k)) * k ≤ n * (P * k * P)
mixed_size W r P n k c e h =
    le_trans (le_of_eq (add-mul (W * n * P) (r * c * (P * k)) k ∙ ap₂ (λ (x y : ℕ). x + y) (a W n P k) (b r c P k)))
    (le_trans (add-le-add (le_refl (W * (n * (P * k)))) (mul-le-mul_left r (mul-le-mul_right (P * k) h)))
    (le_of_eq (sym (add-mul W r (n * (P * k))) ∙ ap (λ (z : ℕ). z * (n * (P * k))) e ∙ d P n k)))
  where
    a : (W n P k : ℕ) → W * n * P * k ≡ W * (n * (P * k))
    a W n P k = simp mul_assoc

    b : (r c P k : ℕ) → r * c * (P * k) * k ≡ r * (c * k * (P * k))
    b r c P k = simp (mul_assoc, mul_left_comm)

    d : (P n k : ℕ) → P * (n * (P * k)) ≡ n * (P * k * P)
    d P n k = simp (mul_assoc, mul_comm, mul_left_comm)

halves : (n k : ℕ) → 262144 * k ≤ n → (1 * n * 1 + 131072 * (2 * k)) * k ≤ n * (2 * k * 1)
halves n k h = le_trans (mul-le-mul_right k (omega arith)) (le_of_eq (a n k))
  where
    a : (n k : ℕ) → n * 2 * k ≡ n * (2 * k * 1)
    a n k = mul_assoc n 2 k ∙ ap (λ (z : ℕ). n * z) (sym (mul-one (2 * k)))

pub blend_low : (w x e : Float) (n k : ℕ) → 0 < k → T (fits binary32 w) → Held binary32 n k → 2 ^ 18 * k ≤ n → Low w 1 1 → Low x n k → Low e (2 ^ 17) 1 → Yields (fused_of w x (mul binary32 (sub binary32 one w) e)) (λ v. Low v n k)
blend_low nan x e n k K t H p h g i = absurd h
blend_low (inf s) x e n k K t H p h g i = absurd h
blend_low (fin true m j) x e n k K t H p h g i = absurd h
blend_low (fin false m j) x e n k K t H p h g i =
    let w = fin false m j in
    let W = m * up j in
    let P = down j in
    let r = P - W in
    let y = sub binary32 one w in
    let l : W ≤ P = le_trans (le_of_eq (sym (mul-one W))) (le_trans h (le_of_eq (one-mul P))) in
    let c : (a b : ℕ) → 0 < b → Held binary32 a b → r * b ≤ a * P → Low y a b = λ a b B G q. rw (sub_one binary32 m j l) (round_low binary32 r P a b a b (down_pos j) B G q) in
    elim (side (W + W) P) [
      | inl a ↦
          fused_low w x (mul binary32 y e) 1 2 n k (2 ^ 17) 1 n k (lit< tt) K (lit< tt) K H (half W P a) g
          (mul_low binary32 y e 1 1 (2 ^ 17) 1 (2 ^ 17) 1 (lit< tt) (lit< tt) (lit< tt) (held_small binary32 (2 ^ 17) (lit≤ tt)) (c 1 1 (lit< tt) (held_small binary32 1 (lit≤ tt)) (most W P)) i (lit≤ tt))
          (halves n k p)
      | inr a ↦
          fused_low w x (mul binary32 y e) W P n k (r * 2 ^ 17) P n k (down_pos j) K (down_pos j) K H (le_refl (W * P)) g
          (mul_low binary32 y e r P (2 ^ 17) 1 (r * 2 ^ 17) P (down_pos j) (lit< tt) (down_pos j) (held_rest m j 17 t (lit≤ tt) a)
          (c r P (down_pos j) (rw (mul-one r) at (held_rest m j 0 t (lit≤ tt) a)) (le_refl (r * P))) i (le_of_eq (ap (λ (z : ℕ). r * 131072 * z) (sym (mul-one P)))))
          (mixed_size W r P n k (2 ^ 17) (all W P l) (less n k p))
    ]
  where
    half : (W P : ℕ) → W + W < P → W * 2 ≤ 1 * P
    half W P a = omega arith

    most : (W P : ℕ) → (P - W) * 1 ≤ 1 * P
    most W P = omega arith

    all : (W P : ℕ) → W ≤ P → W + (P - W) ≡ P
    all W P l = omega arith

    less : (n k : ℕ) → 262144 * k ≤ n → 131072 * k ≤ n
    less n k p = omega arith
