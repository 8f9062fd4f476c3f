-- The definition of the root is the nearest f32 to the root, and nothing else is.
use Rattle.std.specs.Prelude.{Some}
use Rattle.std.proofs.Common.{◌≡◌, ℕ, zero, suc, ◌+◌, ◌-◌, ◌*◌, ◌/◌, ◌%◌, ◌^◌, ◌<◌, ◌≤◌, true, false, T, ◌⊎◌, ℤ, sym, refl, ap, ◌∙◌, subst, ap₂, inl, inr, true≢false, zero-le, le_trans, le_of_eq, lt_of_lt_of_le, lt_of_le_of_lt, le_of_lt, lt_irrefl, mul-le-mul_right, zero-lt-suc, mul_assoc, mul_comm, div-lt_iff_lt-mul, add-mul, eq-zero-or-pos, mul-le-mul, add_comm, le_antisymm, lt_of_mul-lt-mul_right, eq-or-lt_of_le, mul-le-mul_left, mul-lt-mul_of_pos_right, mul-pos, one-mul, pow-suc, mul-one, mul_right_comm, le_of_mul-le-mul_right, mul_left_comm, arith, lit<, lit≤, ltb→lt, lt→ltb, pow_pos, pow_mono, pow-add, shl_lt}
use Prim.Native.Nat.{compare}
use native.Mathlib.Nat.{eq_of_mul-eq-mul_right, pow-succ'}
use lib.Pow.{pow-lt}
use lib.Ieee.{Float, nan, inf, fin, binary32, up, down, size, round, fits, lt, of_bits, to_bits}
use lib.Ieee.Digits.{Equals, size-le}
use lib.Ieee.Fits.{round-fits, nearest-le, down_pos}
use lib.Ieee.Bits.{of_bits-to_bits}
use lib.Ieee.Exact.{HasValue, round_exact}
use lib.Ieee.Order.{drop, kept}
use lib.Ieee.Scale.{grid, overflow, round_val}
use lib.Ieee.Positive.{num, den, positive, den_pos}
use Rattle.float.specs.Inside.{field_of, place_at, M, Q}
use Rattle.float.specs.Finite.{rounded}
use Rattle.float.specs.Root.{integer_root, twice_root, root_of}
use Rattle.float.specs.Nearest.{not_negative, total, scale, RootBelowMiddle, RootAboveMiddle, NearestRoot}
use Rattle.float.proofs.Sticky.{side, drop_bounds}
use Rattle.float.proofs.Encode.{to_bits_val, Signed}
use Rattle.float.proofs.Decode.{decoded, significand_lt, place_lt}
use Rattle.float.proofs.Roots.{Root, integer_root_lem, twice_exact, twice_cut, square_back}
use Rattle.float.proofs.RootExact.{number, not_zero}
use Rattle.float.proofs.Near.{nearest_over, nearest_under}

-- ---- a finite f32 that is not negative is q * 2 ^ i smallest values, with q of at most 24 digits
abbrev Units : Float → ℕ → ℕ → Type 0
Units z q i = (q < 2 ^ 24) × (num z * 2 ^ 149 ≡ q * 2 ^ i * den z)

place_pos : (b : ℕ) → 0 < Q b
place_pos b = go (field_of b)
  where
    go : (x : ℕ) → 0 < place_at x
    go zero = zero-lt-suc 0
    go (suc x) = zero-lt-suc x

units_of : (z : Float) → T (fits binary32 z) → T (not_negative z) → (q : ℕ) × (i : ℕ) × Units z q i
units_of nan t p = absurd p
units_of (inf s) t p = absurd p
units_of (fin true m e) t p = absurd p
units_of (fin false m e) t p =
    let b = to_bits binary32 (fin false m e) in
    let d = decoded (fin false m e) t in
    (M b, Q b - 1, (significand_lt b, eq_of_mul-eq-mul_right 2 (pow_pos 1) (m * up e * 2 ^ 149) (M b * 2 ^ (Q b - 1) * down e) (mul_assoc (m * up e) (2 ^ 149) 2 ∙ ap (λ (k : ℕ). m * up e * k) (sym (pow-suc 2 149)) ∙ d.2 ∙ ap (λ (k : ℕ). M b * k * down e) (step (Q b) (place_pos b)) ∙ ap (λ (k : ℕ). k * down e) (sym (mul_assoc (M b) (2 ^ (Q b - 1)) 2)) ∙ mul_right_comm (M b * 2 ^ (Q b - 1)) 2 (down e))))
  where
    step : (k : ℕ) → 0 < k → 2 ^ k ≡ 2 ^ (k - 1) * 2
    step k h = ap (λ (x : ℕ). 2 ^ x) (omega arith) ∙ pow-suc 2 (k - 1)

-- ---- what twice the root, with its sticky digit, says of a whole number s
twice_le : (n s : ℕ) → twice_root n ≤ 2 * s → n ≤ s * s
twice_le n s h =
    let r = integer_root n in
    let p : Root n r = integer_root_lem n in
    elim (side (r * r) n) [
      | inl l ↦
          let w : twice_root n ≡ 2 * r + 1 = twice_cut n r p (λ e. lt_irrefl n (subst (λ (x : ℕ). x < n) e l)) in
          let g : r + 1 ≤ s = omega (arith, (le_trans (le_of_eq (sym w)) h)) in
          le_trans (le_of_lt p.1) (mul-le-mul g g)
      | inr l ↦
          let e : r * r ≡ n = le_antisymm p.0 l in
          let g : r ≤ s = omega (arith, (le_trans (le_of_eq (sym (twice_exact n r p e))) h)) in
          le_trans (le_of_eq (sym e)) (mul-le-mul g g)
    ]

twice_at_most : (n : ℕ) → twice_root n ≤ 2 * integer_root n + 1
twice_at_most n =
    let r = integer_root n in
    let p : Root n r = integer_root_lem n in
    elim (side (r * r) n) [
      | inl l ↦ le_of_eq (twice_cut n r p (λ e. lt_irrefl n (subst (λ (x : ℕ). x < n) e l)))
      | inr l ↦ le_trans (le_of_eq (twice_exact n r p (le_antisymm p.0 l))) (omega arith)
    ]

twice_ge : (n s : ℕ) → 2 * s ≤ twice_root n → s * s ≤ n
twice_ge n s h =
    let r = integer_root n in
    let g : s ≤ r = omega (arith, (le_trans h (twice_at_most n))) in
    le_trans (mul-le-mul g g) (integer_root_lem n).0

-- ---- from smallest values to fractions. x is n / 2 ^ 300, y is g and z is b smallest values
module _ (x y z : Float) (n g b : ℕ) (X : num x * 2 ^ 300 ≡ n * den x) (Y : num y * 2 ^ 149 ≡ g * den y) (Z : num z * 2 ^ 149 ≡ b * den z) where
  sum_units : total y z * 2 ^ 149 ≡ (g + b) * scale y z
  sum_units =
      add-mul (num y * den z) (num z * den y) (2 ^ 149)
      ∙ ap₂ (λ (u v : ℕ). u + v) (mul_right_comm (num y) (den z) (2 ^ 149) ∙ ap (λ (k : ℕ). k * den z) Y ∙ mul_assoc g (den y) (den z)) (mul_right_comm (num z) (den y) (2 ^ 149) ∙ ap (λ (k : ℕ). k * den y) Z ∙ mul_assoc b (den z) (den y) ∙ ap (λ (k : ℕ). b * k) (mul_comm (den z) (den y)))
      ∙ sym (add-mul g b (scale y z))

  left : 4 * num x * (scale y z * scale y z) * (2 ^ 149 * 2 ^ 149) ≡ n * (den x * (scale y z * scale y z))
  left = regroup (num x) (scale y z * scale y z) (2 ^ 149 * 2 ^ 149) ∙ ap (λ (k : ℕ). k * (scale y z * scale y z)) X ∙ mul_assoc n (den x) (scale y z * scale y z)
    where
      regroup : (a d h : ℕ) → 4 * a * d * h ≡ a * (4 * h) * d
      regroup a d h = ap (λ (k : ℕ). k * h) (mul_right_comm 4 a d) ∙ shuffle a d h
        where
          shuffle : (a d h : ℕ) → 4 * d * a * h ≡ a * (4 * h) * d
          shuffle a d h = simp (mul_assoc, mul_comm, mul_left_comm)

  right : total y z * total y z * den x * (2 ^ 149 * 2 ^ 149) ≡ (g + b) * (g + b) * (den x * (scale y z * scale y z))
  right = spread (total y z) (den x) (2 ^ 149) ∙ ap₂ (λ (u v : ℕ). u * v * den x) sum_units sum_units ∙ gather (g + b) (scale y z) (den x)
    where
      spread : (t d h : ℕ) → t * t * d * (h * h) ≡ t * h * (t * h) * d
      spread t d h = simp (mul_assoc, mul_comm, mul_left_comm)

      gather : (s c d : ℕ) → s * c * (s * c) * d ≡ s * s * (d * (c * c))
      gather s c d = simp (mul_assoc, mul_comm, mul_left_comm)

  below_middle : n ≤ (g + b) * (g + b) → RootBelowMiddle x y z
  below_middle h = le_of_mul-le-mul_right (le_trans (le_of_eq left) (le_trans (mul-le-mul_right (den x * (scale y z * scale y z)) h) (le_of_eq (sym right)))) (mul-pos (pow_pos 149) (pow_pos 149))

  above_middle : (g + b) * (g + b) ≤ n → RootAboveMiddle x y z
  above_middle h = le_of_mul-le-mul_right (le_trans (le_of_eq right) (le_trans (mul-le-mul_right (den x * (scale y z * scale y z)) h) (le_of_eq (sym left)))) (mul-pos (pow_pos 149) (pow_pos 149))

  weight : 0 < den x * (scale y z * scale y z)
  weight = mul-pos (den_pos x) (mul-pos (mul-pos (den_pos y) (den_pos z)) (mul-pos (den_pos y) (den_pos z)))

  below_back : RootBelowMiddle x y z → n ≤ (g + b) * (g + b)
  below_back h = le_of_mul-le-mul_right (le_trans (le_of_eq (sym left)) (le_trans (mul-le-mul_right (2 ^ 149 * 2 ^ 149) h) (le_of_eq right))) weight

  above_back : RootAboveMiddle x y z → (g + b) * (g + b) ≤ n
  above_back h = le_of_mul-le-mul_right (le_trans (le_of_eq (sym right)) (le_trans (mul-le-mul_right (2 ^ 149 * 2 ^ 149) h) (le_of_eq left))) weight

-- the order
less_units : (y z : Float) (g b : ℕ) → T (not_negative y) → T (not_negative z) → num y * 2 ^ 149 ≡ g * den y → num z * 2 ^ 149 ≡ b * den z → T (lt y z) → g < b
unfolding lt
less_units (fin false m e) (fin false n d) g b p q Y Z t =
    lt_of_mul-lt-mul_right (down e * down d)
    (subst (λ (k : ℕ). k < b * (down e * down d)) (mul_right_comm (m * up e) (down d) (2 ^ 149) ∙ ap (λ (k : ℕ). k * down d) Y ∙ mul_assoc g (down e) (down d))
    (subst (λ (k : ℕ). m * up e * down d * 2 ^ 149 < k) (mul_right_comm (n * up d) (down e) (2 ^ 149) ∙ ap (λ (k : ℕ). k * down e) Z ∙ mul_assoc b (down d) (down e) ∙ ap (λ (k : ℕ). b * k) (mul_comm (down d) (down e)))
    (mul-lt-mul_of_pos_right (ltb→lt (m * up e * down d) (n * up d * down e) t) (pow_pos 149))))
less_units (fin false m e) (fin true n d) g b p q Y Z t = absurd q
less_units (fin false m e) (inf s) g b p q Y Z t = absurd q
less_units (fin false m e) nan g b p q Y Z t = absurd q
less_units (fin true m e) z g b p q Y Z t = absurd p
less_units (inf s) z g b p q Y Z t = absurd p
less_units nan z g b p q Y Z t = absurd p

units_less : (y z : Float) (g b : ℕ) → T (not_negative y) → T (not_negative z) → num y * 2 ^ 149 ≡ g * den y → num z * 2 ^ 149 ≡ b * den z → g < b → T (lt y z)
unfolding lt
units_less (fin false m e) (fin false n d) g b p q Y Z t =
    lt→ltb (m * up e * down d) (n * up d * down e)
    (lt_of_mul-lt-mul_right (2 ^ 149)
    (subst (λ (k : ℕ). k < n * up d * down e * 2 ^ 149) (sym (mul_right_comm (m * up e) (down d) (2 ^ 149) ∙ ap (λ (k : ℕ). k * down d) Y ∙ mul_assoc g (down e) (down d)))
    (subst (λ (k : ℕ). g * (down e * down d) < k) (sym (mul_right_comm (n * up d) (down e) (2 ^ 149) ∙ ap (λ (k : ℕ). k * down e) Z ∙ mul_assoc b (down d) (down e) ∙ ap (λ (k : ℕ). b * k) (mul_comm (down d) (down e))))
    (mul-lt-mul_of_pos_right t (mul-pos (down_pos e) (down_pos d))))))
units_less (fin false m e) (fin true n d) g b p q Y Z t = absurd q
units_less (fin false m e) (inf s) g b p q Y Z t = absurd q
units_less (fin false m e) nan g b p q Y Z t = absurd q
units_less (fin true m e) z g b p q Y Z t = absurd p
units_less (inf s) z g b p q Y Z t = absurd p
units_less nan z g b p q Y Z t = absurd p

-- ---- the rounded value
plus_of : (v : Float) (g : ℕ) → HasValue v false g (2 ^ 149) → T (not_negative v)
plus_of nan g h = absurd h
plus_of (inf s) g h = absurd h
plus_of (fin true m e) g h = absurd (true≢false h.0)
plus_of (fin false m e) g h = tt

value_of : (v : Float) (g : ℕ) → HasValue v false g (2 ^ 149) → num v * 2 ^ 149 ≡ g * den v
value_of nan g h = absurd h
value_of (inf s) g h = absurd h
value_of (fin s m e) g h = h.1

word_of : (v : Float) (g : ℕ) → HasValue v false g (2 ^ 149) → rounded v ≡ Some v
word_of nan g h = absurd h
word_of (inf s) g h = absurd h
word_of (fin s m e) g h = refl

-- ---- x as a number over 2 ^ 300, and the definition at it
abbrev Number : Float → ℕ → Type 0
Number x n = (num x * 2 ^ 300 ≡ n * den x) × (root_of x ≡ rounded (round binary32 false (twice_root n) (2 ^ 151))) × ((m : ℕ) × (c : ℕ) × (m < 2 ^ 24) × (0 < m) × (150 < c) × (c < 406) × (n ≡ m * 2 ^ c))

number_of_lem : (x : Float) → T (fits binary32 x) → T (positive x) → (n : ℕ) × Number x n
unfolding root_of
number_of_lem nan t p = absurd p
number_of_lem (inf s) t p = absurd p
number_of_lem (fin true m e) t p = absurd p
number_of_lem (fin false zero e) t p = absurd p
number_of_lem (fin false (suc k) e) t p =
    let b = to_bits binary32 (fin false (suc k) e) in
    let d = decoded (fin false (suc k) e) t in
    let n = M b * 2 ^ (Q b + 150) in
    let q : suc k * up e * 2 ^ 300 / down e ≡ n = number k e (M b) (Q b) d.2 in (
      n,
      (
        exact k e (M b) (Q b) d.2,
        ap (λ (z : ℕ). rounded (round binary32 false (twice_root z) (2 ^ 151))) q,
        (M b, Q b + 150, significand_lt b, has k e (M b) (Q b) d.2, omega (arith, place_pos b), omega (arith, place_lt b), refl),
      ),
    )
  where
    exact : (k : ℕ) (e : ℤ) (m q : ℕ) → suc k * up e * 2 ^ 150 ≡ m * 2 ^ q * down e → suc k * up e * 2 ^ 300 ≡ m * 2 ^ (q + 150) * down e
    exact k e m q h =
        ap (λ (x : ℕ). suc k * up e * x) (pow-add 2 150 150) ∙ sym (mul_assoc (suc k * up e) (2 ^ 150) (2 ^ 150)) ∙ ap (λ (x : ℕ). x * 2 ^ 150) h
        ∙ mul_right_comm (m * 2 ^ q) (down e) (2 ^ 150) ∙ ap (λ (x : ℕ). x * down e) (mul_assoc m (2 ^ q) (2 ^ 150) ∙ ap (λ (x : ℕ). m * x) (sym (pow-add 2 q 150)))

    has : (k : ℕ) (e : ℤ) (m q : ℕ) → suc k * up e * 2 ^ 150 ≡ m * 2 ^ q * down e → 0 < m
    has k e m q h = elim (eq-zero-or-pos m) [
      | inl z ↦ absurd (not_zero k e m q h z)
      | inr p ↦ p
    ]

-- ---- the root is finite: in smallest values it is below 2 ^ 216
root_under : (n : ℕ) → n < 2 ^ 430 → grid binary32 (twice_root n) (2 ^ 151) < overflow binary32
root_under n h =
    let w = twice_root n in
    let a = w * 2 ^ 149 in
    let c = 2 ^ 151 in
    let k = drop 24 a c in
    let r_lt : integer_root n < 2 ^ 215 = square_back (integer_root n) (2 ^ 215) (lt_of_le_of_lt (integer_root_lem n).0 (lt_of_lt_of_le h (le_of_eq (pow-add 2 215 215)))) in
    let w_lt : w < 2 ^ 216 = lt_of_le_of_lt (twice_at_most n) (lt_of_lt_of_le (odd_lt (integer_root n) (2 ^ 215) r_lt) (le_of_eq (sym (pow-suc 2 215)))) in
    let a_lt : a < 2 ^ 216 * c = lt_of_lt_of_le (mul-lt-mul_of_pos_right w_lt (pow_pos 149)) (mul-le-mul_left (2 ^ 216) (pow_mono {i = 149} {j = 151} (lit≤ tt))) in
    let k_le : k ≤ 192 = small (size (a / c)) (size-le (a / c) 216 ((div-lt_iff_lt-mul {k = c} {x = a} {y = 2 ^ 216} (pow_pos 151)).1 a_lt)) in
    let q_le : kept 24 a c ≤ 2 ^ 24 = le_trans (nearest-le (a / (c * 2 ^ k)) (compare (a % (c * 2 ^ k) * 2) (c * 2 ^ k))) ((div-lt_iff_lt-mul {k = c * 2 ^ k} {x = a} {y = 2 ^ 24} (mul-pos (pow_pos 151) (pow_pos k))).1 (lt_of_lt_of_le (drop_bounds 24 a c (lit< tt) (pow_pos 151)).0 (le_of_eq (ap (λ (x : ℕ). x * c) (pow-add 2 24 k) ∙ mul_assoc (2 ^ 24) (2 ^ k) c ∙ ap (λ (x : ℕ). 2 ^ 24 * x) (mul_comm (2 ^ k) c))))) in
    lt_of_le_of_lt (mul-le-mul q_le (pow_mono {i = k} {j = 192} k_le)) (lt_of_le_of_lt (le_of_eq (sym (pow-add 2 24 192))) (pow-lt {i = 216} {j = 277} (lit< tt)))
  where
    odd_lt : (r p : ℕ) → r < p → 2 * r + 1 < p * 2
    odd_lt r p h = omega arith

    small : (z : ℕ) → z ≤ 216 → z - 24 ≤ 192
    small z h = omega arith

-- ---- the theorem
number_lt : (n m c : ℕ) → m < 2 ^ 24 → c < 406 → n ≡ m * 2 ^ c → n < 2 ^ 430
number_lt n m c h g e = subst (λ (x : ℕ). x < 2 ^ 430) (sym e) (lt_of_lt_of_le (shl_lt 24 c h) (pow_mono (under c g)))
  where
    under : (c : ℕ) → c < 406 → 24 + c ≤ 430
    under c g = omega arith

-- in smallest values: w / 2 ^ 151 rounds to g, and b is another value
over_units : (w g b : ℕ) → 2 * (w * 2 ^ 149) ≤ (g + b) * 2 ^ 151 → w ≤ 2 * (g + b)
over_units w g b h = le_of_mul-le-mul_right (le_trans (le_of_eq (sym (left w))) (le_trans h (le_of_eq (right (g + b))))) (pow_pos 150)
  where
    left : (w : ℕ) → 2 * (w * 2 ^ 149) ≡ w * 2 ^ 150
    left w = mul_left_comm 2 w (2 ^ 149)

    right : (s : ℕ) → s * 2 ^ 151 ≡ 2 * s * 2 ^ 150
    right s = ap (λ (x : ℕ). s * x) (pow-add 2 1 150) ∙ mul_left_comm s 2 (2 ^ 150) ∙ sym (mul_assoc 2 s (2 ^ 150))

under_units : (w g b : ℕ) → (g + b) * 2 ^ 151 ≤ 2 * (w * 2 ^ 149) → 2 * (g + b) ≤ w
under_units w g b h = le_of_mul-le-mul_right (le_trans (le_of_eq (sym (right (g + b)))) (le_trans h (le_of_eq (left w)))) (pow_pos 150)
  where
    left : (w : ℕ) → 2 * (w * 2 ^ 149) ≡ w * 2 ^ 150
    left w = mul_left_comm 2 w (2 ^ 149)

    right : (s : ℕ) → s * 2 ^ 151 ≡ 2 * s * 2 ^ 150
    right s = ap (λ (x : ℕ). s * x) (pow-add 2 1 150) ∙ mul_left_comm s 2 (2 ^ 150) ∙ sym (mul_assoc 2 s (2 ^ 150))

-- of a number above zero the definition is an f32, and the nearest to its root
pub root_nearest : (x : Float) → T (fits binary32 x) → T (positive x) → (y : Float) × (root_of x ≡ Some y) × NearestRoot x y
root_nearest x t p =
    let n = (number_of_lem x t p).0 in
    let N = (number_of_lem x t p).1 in
    let o = N.2 in
    let w = twice_root n in
    let y = round binary32 false w (2 ^ 151) in
    let g = grid binary32 w (2 ^ 151) in
    let v : HasValue y false g (2 ^ 149) = round_val binary32 w (2 ^ 151) (root_under n (number_lt n o.0 o.1 o.2 o.5 o.6)) in
    let Y : num y * 2 ^ 149 ≡ g * den y = value_of y g v in
    let P : T (not_negative y) = plus_of y g v in (
      y,
      N.1 ∙ word_of y g v,
      record {
        held = round-fits binary32 false w (2 ^ 151);
        plus = P;
        over = λ z f q l.
            let u = units_of z f q in
            let b = u.0 * 2 ^ u.1 in
            below_middle x y z n g b N.0 Y u.2.1 (twice_le n (g + b) (over_units w g b (nearest_over 24 (w * 2 ^ 149) (2 ^ 151) u.0 u.1 (lit< tt) (pow_pos 151) u.2.0 (less_units y z g b P q Y u.2.1 l))));
        under = λ z f q l.
            let u = units_of z f q in
            let b = u.0 * 2 ^ u.1 in
            above_middle x y z n g b N.0 Y u.2.1 (twice_ge n (g + b) (under_units w g b (nearest_under 24 (w * 2 ^ 149) (2 ^ 151) u.0 u.1 (lit< tt) (pow_pos 151) u.2.0 (less_units z y b g q P u.2.1 Y l))));
      },
    )

-- ---- nothing else is: a root is never half way between two values
-- a square that is m * 2 ^ c, with m of at most 24 digits, is that of a number of at most 12 digits and zeros
even_root : (s k : ℕ) → s * s ≡ 2 * k → s ≡ 2 * (s / 2)
even_root s k e = elim (small s) [
  | inl z ↦ whole s z
  | inr o ↦
      let h = s / 2 in
      let t : s ≡ 2 * h + 1 = odd s o in
      absurd (clash h (h * (2 * h + 1)) k (sym (ap₂ (λ (x y : ℕ). x * y) t t ∙ add-mul (2 * h) 1 (2 * h + 1) ∙ ap₂ (λ (x y : ℕ). x + y) (mul_assoc 2 h (2 * h + 1)) (one_mul' (2 * h + 1))) ∙ e))
]
  where
    small : (s : ℕ) → (s % 2 ≡ 0) ⊎ (s % 2 ≡ 1)
    small s = elim (eq-zero-or-pos (s % 2)) [ inl z ↦ inl z | inr p ↦ inr (one s p) ]
      where
        one : (s : ℕ) → 0 < s % 2 → s % 2 ≡ 1
        one s p = omega arith

    whole : (s : ℕ) → s % 2 ≡ 0 → s ≡ 2 * (s / 2)
    whole s z = omega arith

    odd : (s : ℕ) → s % 2 ≡ 1 → s ≡ 2 * (s / 2) + 1
    odd s o = omega arith

    one_mul' : (x : ℕ) → 1 * x ≡ x
    one_mul' x = omega arith

    clash : (h x k : ℕ) → 2 * x + (2 * h + 1) ≡ 2 * k → ⊥
    clash h x k e = omega arith

four : (h : ℕ) → 2 * h * (2 * h) ≡ 2 * (2 * (h * h))
four h = mul_assoc 2 h (2 * h) ∙ ap (λ (x : ℕ). 2 * x) (mul_left_comm h 2 h)

halve : (a b : ℕ) → 2 * a ≡ 2 * b → a ≡ b
halve a b e = omega arith

abbrev Short : ℕ → Type 0
Short s = (q : ℕ) × (i : ℕ) × (q < 2 ^ 12) × (s ≡ q * 2 ^ i)

-- twice such a number is one
twice_short : (s k : ℕ) → s ≡ 2 * k → Short k → Short s
twice_short s k t (q, i, l, e) = (q, suc i, l, t ∙ ap (λ (x : ℕ). 2 * x) e ∙ mul_left_comm 2 q (2 ^ i) ∙ ap (λ (x : ℕ). q * x) (mul_comm 2 (2 ^ i) ∙ sym (pow-suc 2 i)))

short_root : (c s m : ℕ) → s * s ≡ m * 2 ^ c → m < 2 ^ 24 → Short s
short_root zero s m e h = (s, 0, square_back s (2 ^ 12) (lt_of_le_of_lt (le_of_eq (e ∙ mul-one m)) h), sym (mul-one s))
short_root (suc zero) s m e h =
    let k = s / 2 in
    let t : s ≡ 2 * k = even_root s m (e ∙ mul_comm m 2) in
    let d : 2 * (k * k) ≡ m = halve (2 * (k * k)) m (sym (four k) ∙ sym (ap₂ (λ (x y : ℕ). x * y) t t) ∙ e ∙ mul_comm m 2) in
    (k, 1, square_back k (2 ^ 12) (lt_of_le_of_lt (at_most (k * k) m d) h), t ∙ mul_comm 2 k)
  where
    at_most : (x m : ℕ) → 2 * x ≡ m → x ≤ m
    at_most x m e = omega arith
short_root (suc (suc c)) s m e h =
    let k = s / 2 in
    let p : m * 2 ^ suc (suc c) ≡ 2 * (2 * (m * 2 ^ c)) = ap (λ (x : ℕ). m * x) (pow-suc 2 (suc c) ∙ ap (λ (x : ℕ). x * 2) (pow-suc 2 c)) ∙ turn m (2 ^ c) in
    let t : s ≡ 2 * k = even_root s (2 * (m * 2 ^ c)) (e ∙ p) in
    let d : k * k ≡ m * 2 ^ c = halve (k * k) (m * 2 ^ c) (halve (2 * (k * k)) (2 * (m * 2 ^ c)) (sym (four k) ∙ sym (ap₂ (λ (x y : ℕ). x * y) t t) ∙ e ∙ p)) in
    twice_short s k t (short_root c k m d h)
  where
    turn : (m k : ℕ) → m * (k * 2 * 2) ≡ 2 * (2 * (m * k))
    turn m k = simp (mul_assoc, mul_comm, mul_left_comm)

square_lt : (a b : ℕ) → a < b → a * a < b * b
square_lt a b h = lt_of_le_of_lt (mul-le-mul_left a (le_of_lt h)) (mul-lt-mul_of_pos_right h (lt_of_le_of_lt zero-le h))

-- half of such a number is an f32
middle : (s : ℕ) → Short s → 2 ^ 12 ≤ s → s < 2 ^ 215 → (z : Float) × (h : ℕ) × T (fits binary32 z) × T (not_negative z) × (num z * 2 ^ 149 ≡ h * den z) × (s ≡ 2 * h)
middle s (q, zero, l, e) big top = absurd (lt_irrefl s (lt_of_lt_of_le (subst (λ (x : ℕ). x < 2 ^ 12) (sym (e ∙ mul-one q)) l) big))
middle s (q, suc i, l, e) big top =
    let h = q * 2 ^ i in
    let s_is : s ≡ 2 * h = e ∙ ap (λ (x : ℕ). q * x) (pow-succ' 2 i) ∙ mul_left_comm q 2 (2 ^ i) in
    let z = round binary32 false h (2 ^ 149) in
    let v : HasValue z false h (2 ^ 149) =
    round_exact binary32 false h (2 ^ 149) q i (pow_pos 149) (lt_of_lt_of_le l (lit≤ tt)) (lt_of_lt_of_le (lt_of_le_of_lt (omega (arith, s_is)) top) (pow_mono {i = 215} {j = 277} (lit≤ tt))) refl in
    (z, h, round-fits binary32 false h (2 ^ 149), plus_of z h v, value_of z h v, s_is)

-- two values of the same size are the same
signed_of : (v : Float) → T (not_negative v) → Signed false v
signed_of nan p = absurd p
signed_of (inf s) p = absurd p
signed_of (fin true m e) p = absurd p
signed_of (fin false m e) p = refl

equals_of : (v : Float) (a : ℕ) → T (not_negative v) → num v * 2 ^ 149 ≡ a * den v → Equals v a (2 ^ 149)
equals_of nan a p h = absurd p
equals_of (inf s) a p h = absurd p
equals_of (fin s m e) a p h = h

same_size : (y z : Float) (a : ℕ) → T (fits binary32 y) → T (fits binary32 z) → T (not_negative y) → T (not_negative z) → num y * 2 ^ 149 ≡ a * den y → num z * 2 ^ 149 ≡ a * den z → y ≡ z
same_size y z a f g p q Y Z =
    sym (of_bits-to_bits binary32 y f)
    ∙ ap (of_bits binary32) (to_bits_val binary32 false y a (signed_of y p) (equals_of y a p Y) ∙ sym (to_bits_val binary32 false z a (signed_of z q) (equals_of z a q Z)))
    ∙ of_bits-to_bits binary32 z g

-- of two nearest values neither is below the other
not_below : (x y z : Float) → T (fits binary32 x) → T (positive x) → NearestRoot x y → NearestRoot x z → (a b : ℕ) → num y * 2 ^ 149 ≡ a * den y → num z * 2 ^ 149 ≡ b * den z → a < b → ⊥
not_below x y z t p Y Z a b A B l =
    let n = (number_of_lem x t p).0 in
    let N = (number_of_lem x t p).1 in
    let o = N.2 in
    let s = a + b in
    let lo : n ≤ s * s = below_back x y z n a b N.0 A B (Y.over z Z.held Z.plus (units_less y z a b Y.plus Z.plus A B l)) in
    let hi : s * s ≤ n = subst (λ (k : ℕ). k * k ≤ n) (add_comm b a) (above_back x z y n b a N.0 B A (Z.under y Y.held Y.plus (units_less y z a b Y.plus Z.plus A B l))) in
    let e : s * s ≡ n = le_antisymm hi lo in
    let big : 2 ^ 12 ≤ s = le_of_lt (square_back (2 ^ 12) s (lt_of_lt_of_le (pow-lt {i = 24} {j = o.1} (far o.1 o.4)) (le_trans (le_of_eq (sym (one-mul (2 ^ o.1)))) (le_trans (mul-le-mul_right (2 ^ o.1) o.3) (le_of_eq (sym o.6 ∙ sym e)))))) in
    let top : s < 2 ^ 215 = square_back s (2 ^ 215) (lt_of_le_of_lt (le_of_eq e) (lt_of_lt_of_le (number_lt n o.0 o.1 o.2 o.5 o.6) (le_of_eq (pow-add 2 215 215)))) in
    let m = middle s (short_root o.1 s o.0 (e ∙ o.6) o.2) big top in
    let h = m.1 in
    let near : n ≤ (a + h) * (a + h) = below_back x y m.0 n a h N.0 A m.4 (Y.over m.0 m.2 m.3 (units_less y m.0 a h Y.plus m.3 A m.4 (left a b h m.5 l))) in
    beyond n s (a + h) near (right a b h m.5 l) e
  where
    beyond : (n s k : ℕ) → n ≤ k * k → k < s → s * s ≡ n → ⊥
    beyond n s k near l e = lt_irrefl n (lt_of_le_of_lt near (lt_of_lt_of_le (square_lt k s l) (le_of_eq e)))

    far : (c : ℕ) → 150 < c → 24 < c
    far c h = omega arith

    left : (a b h : ℕ) → a + b ≡ 2 * h → a < b → a < h
    left a b h e l = omega arith

    right : (a b h : ℕ) → a + b ≡ 2 * h → a < b → a + h < a + b
    right a b h e l = omega arith

pub nearest_unique : (x y z : Float) → T (fits binary32 x) → T (positive x) → NearestRoot x y → NearestRoot x z → y ≡ z
nearest_unique x y z t p Y Z =
    let u = units_of y Y.held Y.plus in
    let v = units_of z Z.held Z.plus in
    let a = u.0 * 2 ^ u.1 in
    let b = v.0 * 2 ^ v.1 in
    elim (side a b) [
      | inl l ↦ absurd (not_below x y z t p Y Z a b u.2.1 v.2.1 l)
      | inr l ↦ elim (eq-or-lt_of_le l) [
        | inl e ↦ same_size y z a Y.held Z.held Y.plus Z.plus u.2.1 (subst (λ (k : ℕ). num z * 2 ^ 149 ≡ k * den z) e v.2.1)
        | inr g ↦ absurd (not_below x z y t p Z Y b a v.2.1 u.2.1 g)
      ]
    ]

-- so the definition is the nearest f32 to the root, and that alone
pub nearest_is_root : (x y : Float) → T (fits binary32 x) → T (positive x) → NearestRoot x y → root_of x ≡ Some y
nearest_is_root x y t p Y =
    let r = root_nearest x t p in
    r.1 ∙ ap Some (nearest_unique x r.0 y t p r.2 Y)
