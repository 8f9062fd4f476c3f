-- A larger pattern of a float that is not negative reaches every power that a smaller one does; so a threshold is known by itself and the pattern below it.
-- Assumes nothing.
use mathlib.Core.Path.{◌≡◌, refl, sym, ◌∙◌, subst}
use mathlib.Core.Logic.{inl, inr}
use mathlib.Core.Bool.{Bool, true, false, not, ◌&&◌, cond, true≢false}
use Prim.Native.Nat.{ℕ, zero, suc, ◌+◌, ◌-◌, ◌*◌, ◌/◌, ◌%◌, ◌^◌, ◌≤◌, ◌<◌}
use native.Mathlib.Nat.{eq-or-lt_of_le, mul-one, mul_comm, mul_right_comm, mul-mul-mul_comm, mul-le-mul_right, le_of_mul-le-mul_right, one-le-pow, pow-le-pow_left, pow-zero, pow-suc, mod-lt, mod-eq_of_lt}
use native.Mathlib.Decide.{dec_lt}
use native.Mathlib.Omega.{arith}
use borrow.Author.Tests.{leb-true, leb-false, ltb-false, le-leb, lt-leb, ne_eqb}
use lib.Dec.{T, leb, ltb, eqb, ltb→lt}
use lib.IntN.{ℤ, pos}
use lib.Pow.{pow_pos, pow_mono}
use lib.Ieee.{Float, nan, inf, fin, binary32, up, down, odd, le, fits, is_nan, of_fields, of_bits, to_bits}
use lib.Ieee.Bits.{is_true, is_false, of_bits-to_bits, nan_bits_is, nan_bits_above}
use lib.Ieee.Exact.{HasValue, odd_sign}
use lib.Ieee.Order.{transfer, le_of_values}
use lib.Ieee.Fits.{and_l, and_r, down_pos}
use Rattle.score.specs.Score.{reaches, Threshold}

-- ---- the size of a float, in units of the smallest one, from the exponent's field and the digits of its pattern
abbrev units_at : ℕ → ℕ → ℕ
units_at zero t = t
units_at (suc x) t = (8388608 + t) * 2 ^ x

units_of_fields : (x t : ℕ) → x < 255 → HasValue (of_fields binary32 false x t) false (units_at x t) (2 ^ 149)
unfolding of_fields
units_of_fields zero t h = subst (λ (a : ℕ). HasValue (odd 24 false t 0 149) false a (2 ^ 149)) (mul-one t) (odd_sign 24 false t 0 149)
units_of_fields (suc x) t h = rw (ne_eqb (suc x) 255 (omega arith)) (odd_sign 24 false (8388608 + t) x 149)

units_of : (b : ℕ) → b < 0x7f80_0000 → HasValue (of_bits binary32 b) false (units_at (b / 8388608) (b % 8388608)) (2 ^ 149)
unfolding of_bits
units_of b h =
    let small : b % 2147483648 ≡ b = mod-eq_of_lt (omega arith) in
    rw (lt-leb 2147483648 b (omega arith), small) (units_of_fields (b / 8388608) (b % 8388608) (omega arith))

twice : (x y t u : ℕ) → t < 8388608 → suc x ≤ y → (8388608 + t) * 2 ^ x ≤ (8388608 + u) * 2 ^ y
twice x y t u h l =
    let a : (8388608 + t) * 2 ^ x ≤ 16777216 * 2 ^ x = mul-le-mul_right (2 ^ x) (omega arith) in
    let b : 2 ^ suc x ≤ 2 ^ y = pow_mono l in
    let c = pow-suc 2 x in
    let d : 8388608 * 2 ^ y ≤ (8388608 + u) * 2 ^ y = mul-le-mul_right (2 ^ y) (omega arith) in
    omega arith

units_mono : (x t y u : ℕ) → t < 8388608 → u < 8388608 → x * 8388608 + t ≤ y * 8388608 + u → units_at x t ≤ units_at y u
units_mono zero t zero u T U h = omega arith
units_mono zero t (suc y) u T U h = let p = mul-le-mul_right (8388608 + u) (pow_pos y) in let q = mul_comm (2 ^ y) (8388608 + u) in omega arith
units_mono (suc x) t zero u T U h = absurd (omega arith)
units_mono (suc x) t (suc y) u T U h = elim (dec_lt x y) [
  | yes l ↦ twice x y t u T l
  | no g ↦ (let e : x ≡ y = omega arith in rw e (mul-le-mul_right (2 ^ y) (omega arith)))
]

units_at_mono : (a b : ℕ) → a ≤ b → units_at (a / 8388608) (a % 8388608) ≤ units_at (b / 8388608) (b % 8388608)
units_at_mono a b h = units_mono (a / 8388608) (a % 8388608) (b / 8388608) (b % 8388608) (mod-lt a (pow_pos 23)) (mod-lt b (pow_pos 23)) (omega arith)

infinity : of_bits binary32 0x7f80_0000 ≡ inf false
unfolding of_bits
infinity = refl

below_infinity : (a : ℕ) → a ≤ 0x7f80_0000 → T (le (of_bits binary32 a) (inf false))
unfolding le
below_infinity a h = elim (eq-or-lt_of_le h) [ inl e ↦ rw (e, infinity) tt | inr l ↦ go (of_bits binary32 a) _ _ (units_of a l) ]
  where
    go : (v : Float) (n c : ℕ) → HasValue v false n c → T (le v (inf false))
    go nan n c h = absurd h
    go (inf s) n c h = absurd h
    go (fin s m e) n c h = tt

-- the patterns up to plus infinity's are in the order of their values
pub pattern_le : (a b : ℕ) → a ≤ b → b ≤ 0x7f80_0000 → T (le (of_bits binary32 a) (of_bits binary32 b))
pattern_le a b h l = elim (eq-or-lt_of_le l) [
  | inl e ↦ rw (e, infinity) (below_infinity a (omega arith))
  | inr s ↦
      le_of_values (of_bits binary32 a) (of_bits binary32 b) (units_at (a / 8388608) (a % 8388608)) (2 ^ 149) (units_at (b / 8388608) (b % 8388608)) (2 ^ 149) (pow_pos 149) (pow_pos 149)
      (units_of a (omega arith)) (units_of b s) (mul-le-mul_right (2 ^ 149) (units_at_mono a b h))
]

-- ---- a larger value reaches what a smaller one does
mul_pow : (a b n : ℕ) → (a * b) ^ n ≡ a ^ n * b ^ n
mul_pow a b zero = simp pow-zero
mul_pow a b (suc n) = simp pow-suc (rw (mul_pow a b n) (mul-mul-mul_comm (a ^ n) (b ^ n) a b))

-- from p ≤ (m / d)^n and m / d ≤ m' / d' to p ≤ (m' / d')^n
power_mono : (p m d m' d' n : ℕ) → 0 < d → p * d ^ n ≤ m ^ n → m * d' ≤ m' * d → p * d' ^ n ≤ m' ^ n
power_mono p m d m' d' n D h l =
    let a : p * d ^ n * d' ^ n ≤ m ^ n * d' ^ n = mul-le-mul_right (d' ^ n) h in
    let b : (m * d') ^ n ≤ (m' * d) ^ n = pow-le-pow_left l n in
    let c = mul_pow m d' n in
    let e = mul_pow m' d n in
    let f = mul_right_comm p (d ^ n) (d' ^ n) in
    le_of_mul-le-mul_right (omega arith) (one-le-pow n d D)

reaches_mono : (v w : Float) (a b c k : ℕ) → 0 < c → HasValue v false a c → HasValue w false b c → a ≤ b → reaches v k ≡ true → reaches w k ≡ true
unfolding reaches
reaches_mono nan w a b c k C p q h r = absurd p
reaches_mono (inf s) w a b c k C p q h r = absurd p
reaches_mono (fin true m e) w a b c k C p q h r = absurd (true≢false p.0)
reaches_mono (fin false m e) nan a b c k C p q h r = absurd q
reaches_mono (fin false m e) (inf s) a b c k C p q h r = absurd q
reaches_mono (fin false m e) (fin true n d) a b c k C p q h r = absurd (true≢false q.0)
reaches_mono (fin false m e) (fin false n d) a b c k C p q h r =
    le-leb _ _ (power_mono (10 ^ k) (m * up e) (down e) (n * up d) (down d) 1024 (down_pos e) (leb-true _ _ r)
    (transfer (m * up e) (n * up d) (down e) (down d) a b c c C C p.1 q.1 (mul-le-mul_right c h)))

infinity_reaches : (k : ℕ) → reaches (of_bits binary32 0x7f80_0000) k ≡ true
unfolding reaches
infinity_reaches k = rw infinity

pub reaches_up : (a b k : ℕ) → a ≤ b → b ≤ 0x7f80_0000 → reaches (of_bits binary32 a) k ≡ true → reaches (of_bits binary32 b) k ≡ true
reaches_up a b k h l r = elim (eq-or-lt_of_le l) [
  | inl e ↦ rw e (infinity_reaches k)
  | inr s ↦ reaches_mono (of_bits binary32 a) (of_bits binary32 b) (units_at (a / 8388608) (a % 8388608)) (units_at (b / 8388608) (b % 8388608)) (2 ^ 149) k (pow_pos 149)
      (units_of a (omega arith)) (units_of b s) (units_at_mono a b h) r
]

-- ---- the test of a threshold
abbrev pub least : ℕ → ℕ → Bool
least k n = ltb n 0x7f80_0000 && (reaches (of_bits binary32 n) k && not (reaches (of_bits binary32 (n - 1)) k))

pub least_is : (k n : ℕ) → T (least k n) → Threshold k n
least_is k n t =
    let here = reaches (of_bits binary32 n) k in
    let below = reaches (of_bits binary32 (n - 1)) k in
    let finite = ltb→lt n 0x7f80_0000 (and_l (ltb n 0x7f80_0000) (here && not below) t) in
    let both = and_r (ltb n 0x7f80_0000) (here && not below) t in
    let missed = is_false below (and_r here (not below) both) in
    record {
      reached = is_true here (and_l here (not below) both);
      least = λ b h. not_reached (reaches (of_bits binary32 b) k) (λ r. true≢false (sym (reaches_up b (n - 1) k (omega arith) (omega arith) r) ∙ missed));
    }
  where
    not_reached : (b : Bool) → (b ≡ true → ⊥) → b ≡ false
    not_reached true f = absurd (f refl)
    not_reached false f = refl

-- ---- the patterns of the floats from 1 on
abbrev pub one : Float
one = of_bits binary32 0x3f80_0000

fields : (b : ℕ) → le one (of_bits binary32 b) ≡ le one (of_fields binary32 (leb 2147483648 b) (b % 2147483648 / 8388608) (b % 8388608))
unfolding of_bits
fields b = refl

negative_below : (m : ℕ) (e : ℤ) → le one (fin true m e) ≡ false
unfolding le of_bits
negative_below m e = rw (ne_eqb (1 * down e) 0 (let d = down_pos e in omega arith)) (and_false (eqb (1 * down e) (m * up e * 1)))
  where
    and_false : (b : Bool) → (b && false) ≡ false
    and_false true = refl
    and_false false = refl

negative_odd : (d q k l : ℕ) → le one (odd d true q k l) ≡ false
unfolding odd
negative_odd d zero k l = negative_below 0 (pos 0)
negative_odd d (suc q) k l = negative_below _ _

negative_fields : (x t : ℕ) → le one (of_fields binary32 true x t) ≡ false
unfolding of_fields le of_bits
negative_fields zero t = negative_odd 24 t 0 149
negative_fields (suc x) t = go (eqb (suc x) 255) (eqb t 0)
  where
    go : (a b : Bool) → le one (cond a (cond b (inf true) nan) (odd 24 true (8388608 + t) x 149)) ≡ false
    go true true = refl
    go true false = refl
    go false b = negative_odd 24 (8388608 + t) x 149

pub number : (v : Float) → le one v ≡ true → T (not (is_nan v))
unfolding le is_nan of_bits
number nan h = absurd (true≢false (sym h))
number (inf s) h = tt
number (fin s m e) h = tt

unsigned : (b : ℕ) → le one (of_bits binary32 b) ≡ true → b < 2147483648
unsigned b h = go (leb 2147483648 b) (leb-false 2147483648 b) (sym (fields b) ∙ h)
  where
    go : (s : Bool) → (s ≡ false → b < 2147483648) → le one (of_fields binary32 s (b % 2147483648 / 8388608) (b % 8388608)) ≡ true → b < 2147483648
    go true f r = absurd (true≢false (sym r ∙ negative_fields (b % 2147483648 / 8388608) (b % 8388608)))
    go false f r = f refl

at_most_infinity : (b : ℕ) → le one (of_bits binary32 b) ≡ true → b ≤ 0x7f80_0000
at_most_infinity b h =
    let l = unsigned b h in
    let n = sym (nan_bits_above binary32 b) ∙ nan_bits_is binary32 b ∙ is_false (is_nan (of_bits binary32 b)) (number (of_bits binary32 b) h) in
    let g = ltb-false (255 * 8388608) (b % 2147483648) n in
    let e : b % 2147483648 ≡ b = mod-eq_of_lt l in
    omega arith

pub read_back : (v : Float) → fits binary32 v ≡ true → of_bits binary32 (to_bits binary32 v) ≡ v
read_back v f = of_bits-to_bits binary32 v (subst T (sym f) tt)

pub bits_from_one : (v : Float) → fits binary32 v ≡ true → le one v ≡ true → to_bits binary32 v ≤ 0x7f80_0000
bits_from_one v f h = at_most_infinity (to_bits binary32 v) (rw (read_back v f) h)
