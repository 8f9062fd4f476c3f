-- Rounding looks only at the kept digits and at whether anything is below: a tail may be replaced by a sticky digit.
use Rattle.std.proofs.Common.{◌≡◌, ℕ, suc, ◌+◌, ◌-◌, ◌*◌, ◌/◌, ◌%◌, ◌^◌, ◌<◌, ◌≤◌, Bool, true, false, not, T, eqb, ltb, ◌⊎◌, sym, refl, ap, ◌∙◌, subst, ap₂, inl, inr, le_trans, le_of_eq, le_refl, lt_of_lt_of_le, le_of_suc-le-suc, lt_of_le_of_lt, le_of_lt, add_assoc, lt_irrefl, mul-le-mul_right, mod-lt, mul_assoc, suc-mul, mul_comm, div-lt_iff_lt-mul, add-mul, eq-zero-or-pos, add_comm, le_antisymm, lt_of_mul-lt-mul_right, mul-lt-mul_of_pos_right, mul-pos, lt_of_not-le, div-add-mod', le-div_iff_mul-le, le_of_mul-le-mul_right, mul_left_comm, arith, eqb→eq, ltb→lt, leb→le, nltb→le, pow_pos, pow_mono, pow-add}
use Prim.Native.Nat.{compare, Ordering}
use lib.Dec.{is_le, compare_is_eq, nleb→lt, eqb_refl}
use lib.Arith.{lt_of_le-ne}
use lib.Ieee.{Format, prec, low, size, nearest, units, round}
use lib.Ieee.Digits.{size-lt, size-le, size_reaches}
use lib.Ieee.Fits.{round_is, two, two-le_pos}
use lib.Ieee.Nearest.{closest, closest_same}
use lib.Ieee.Order.{drop}

-- ---- what `compare` says
abbrev pub Cmp : Ordering → ℕ → ℕ → Type 0
Cmp Ordering.lt a b = a < b
Cmp Ordering.eq a b = a ≡ b
Cmp Ordering.gt a b = b < a

pub cmp : (a b : ℕ) → Cmp (compare a b) a b
cmp a b = go (compare a b) (leb→le a b) (nleb→lt a b) (eqb→eq a b) (λ (e : a ≡ b). subst (λ (x : ℕ). T (eqb a x)) e (eqb_refl a))
  where
    go : (o : Ordering) → (T (is_le o) → a ≤ b) → (T (not (is_le o)) → b < a) → (T (compare_is_eq o) → a ≡ b) → (a ≡ b → T (compare_is_eq o)) → Cmp o a b
    go Ordering.lt h k e n = lt_of_le-ne (h tt) n
    go Ordering.eq h k e n = e tt
    go Ordering.gt h k e n = k tt

clash : {X : Type 0} (a b : ℕ) → a < b → b ≤ a → X
clash a b h k = absurd (lt_irrefl a (lt_of_lt_of_le h k))

pub nearest_lt : (q a b : ℕ) → a < b → nearest q (compare a b) ≡ q
nearest_lt q a b h = go (compare a b) (cmp a b)
  where
    go : (o : Ordering) → Cmp o a b → nearest q o ≡ q
    go Ordering.lt c = refl
    go Ordering.eq c = clash a b h (le_of_eq (sym c))
    go Ordering.gt c = clash b a c (le_trans (le_of_suc-le-suc (le_trans h (omega arith))) (le_refl b))

pub nearest_gt : (q a b : ℕ) → b < a → nearest q (compare a b) ≡ suc q
nearest_gt q a b h = go (compare a b) (cmp a b)
  where
    go : (o : Ordering) → Cmp o a b → nearest q o ≡ suc q
    go Ordering.lt c = clash a b c (omega arith)
    go Ordering.eq c = clash b a h (le_of_eq c)
    go Ordering.gt c = refl

pub nearest_eq : (q a b : ℕ) → a ≡ b → nearest q (compare a b) ≡ q + q % 2
nearest_eq q a b h = go (compare a b) (cmp a b)
  where
    go : (o : Ordering) → Cmp o a b → nearest q o ≡ q + q % 2
    go Ordering.lt c = clash a b c (le_of_eq (sym h))
    go Ordering.eq c = refl
    go Ordering.gt c = clash b a c (le_of_eq h)

-- ---- a / b below the half above p, and above it
pub div_is : (a b p : ℕ) → 0 < b → p * b ≤ a → a < p * b + b → a / b ≡ p
div_is a b p B lo hi =
    le_antisymm (le_of_suc-le-suc ((div-lt_iff_lt-mul {k = b} {x = a} {y = suc p} B).1 (le_trans hi (le_of_eq (sym (suc-mul p b)))))) ((le-div_iff_mul-le {k = b} {x = p} {y = a} B).1 lo)

pub closest_down : (a b p : ℕ) → 0 < b → p * b ≤ a → a * 2 < p * b * 2 + b → closest a b ≡ p
closest_down a b p B lo hi =
    let q : a / b ≡ p = div_is a b p B lo (omega arith) in
    let r : p * b + a % b ≡ a = ap (λ (x : ℕ). x * b + a % b) (sym q) ∙ div-add-mod' a b in
    ap (λ (x : ℕ). nearest x (compare (a % b * 2) b)) q ∙ nearest_lt p (a % b * 2) b (omega arith)

pub closest_up : (a b p : ℕ) → 0 < b → p * b * 2 + b < a * 2 → a < p * b + b → closest a b ≡ suc p
closest_up a b p B lo hi =
    let q : a / b ≡ p = div_is a b p B (omega arith) hi in
    let r : p * b + a % b ≡ a = ap (λ (x : ℕ). x * b + a % b) (sym q) ∙ div-add-mod' a b in
    ap (λ (x : ℕ). nearest x (compare (a % b * 2) b)) q ∙ nearest_gt p (a % b * 2) b (omega arith)

-- ---- The sticky lemma. n / c lies strictly between the even numbers 2 * h and 2 * h + 2, as 2 * h + 1 does. To a multiple of 4 * t both round alike.
pub side : (g t : ℕ) → (g < t) ⊎ (t ≤ g)
side g t = go (ltb g t) (ltb→lt g t) (nltb→le g t)
  where
    go : (x : Bool) → (T x → g < t) → (T (not x) → t ≤ g) → (g < t) ⊎ (t ≤ g)
    go true a z = inl (a tt)
    go false a z = inr (z tt)

-- h is 2 * t * p + g
sticky_at : (n c h t p g : ℕ) → 0 < c → 0 < t → 2 * (p * t) + g ≡ h → g < 2 * t → 2 * h * c < n → n < 2 * h * c + 2 * c → closest n (c * (4 * t)) ≡ closest (2 * h + 1) (4 * t)
sticky_at n c h t p g C T0 hh g-lt lo hi =
    let u = t * c in
    let b = c * (4 * t) in
    let B : 0 < b = mul-pos C (mul-pos (pow_pos 2) T0) in
    let B' : 0 < 4 * t = mul-pos (pow_pos 2) T0 in
    let bb : b ≡ 4 * u = mul_left_comm c 4 t ∙ ap (λ (x : ℕ). 4 * x) (mul_comm c t) in
    let pb : p * b ≡ 4 * (p * u) = ap (λ (x : ℕ). p * x) bb ∙ mul_left_comm p 4 u in
    let pt : p * (4 * t) ≡ 4 * (p * t) = mul_left_comm p 4 t in
    let hc : h * c ≡ 2 * (p * u) + g * c = ap (λ (x : ℕ). x * c) (sym hh) ∙ add-mul (2 * (p * t)) g c ∙ ap (λ (x : ℕ). x + g * c) (mul_assoc 2 (p * t) c ∙ ap (λ (x : ℕ). 2 * x) (mul_assoc p t c)) in
    let lo2 : 2 * (h * c) < n = subst (λ (x : ℕ). x < n) (mul_assoc 2 h c) lo in
    let hi2 : n < 2 * (h * c) + 2 * c = subst (λ (x : ℕ). n < x + 2 * c) (mul_assoc 2 h c) hi in
    elim (side g t) [
      | inl l ↦
          closest_down n b p B (omega arith) (omega (arith, (le_trans (le_of_eq (sym (suc-mul g c))) (mul-le-mul_right c l))))
          ∙ sym (closest_down (2 * h + 1) (4 * t) p B' (omega arith) (omega arith))
      | inr l ↦
          closest_up n b p B (omega (arith, mul-le-mul_right c l)) (omega (arith, (le_trans (le_of_eq (sym (suc-mul g c))) (le_trans (mul-le-mul_right c g-lt) (le_of_eq (mul_assoc 2 t c))))))
          ∙ sym (closest_up (2 * h + 1) (4 * t) p B' (omega arith) (omega (arith, g-lt)))
    ]

pub sticky_closest : (n c h t : ℕ) → 0 < c → 0 < t → 2 * h * c < n → n < 2 * h * c + 2 * c → closest n (c * (4 * t)) ≡ closest (2 * h + 1) (4 * t)
sticky_closest n c h t C T0 lo hi =
    sticky_at n c h t (h / (2 * t)) (h % (2 * t)) C T0 (ap (λ (x : ℕ). x + h % (2 * t)) (sym (mul_left_comm (h / (2 * t)) 2 t)) ∙ div-add-mod' h (2 * t)) (mod-lt h (mul-pos (pow_pos 1) T0)) lo hi

-- ---- how many digits are dropped, by bounds on the fraction
pub pow_lt_back : (i p : ℕ) → 2 ^ i < 2 ^ p → i < p
pow_lt_back i p h = lt_of_not-le (λ (g : p ≤ i). lt_irrefl (2 ^ i) (lt_of_lt_of_le h (pow_mono g)))

-- n / c is below 2 ^ (p + k), and, if k is above 0, is 2 ^ (p + k - 1) at least
abbrev pub Dropped : ℕ → ℕ → ℕ → ℕ → Type 0
Dropped p n c k = (n < 2 ^ (p + k) * c) × ((k ≡ 0) ⊎ (2 ^ (p - 1 + k) * c ≤ n))

pub drop_bounds : (p n c : ℕ) → 0 < p → 0 < c → Dropped p n c (drop p n c)
drop_bounds p n c P C = let k = size (n / c) - p in (
  (div-lt_iff_lt-mul {k = c} {x = n} {y = 2 ^ (p + k)} C).0 (lt_of_lt_of_le (size-lt (n / c)) (pow_mono (omega arith))),
  elim (eq-zero-or-pos k) [ inl z ↦ inl z | inr g ↦ inr ((le-div_iff_mul-le {k = c} {x = 2 ^ (p - 1 + k)} {y = n} C).0 (size_reaches (n / c) (p - 1 + k) (omega arith))) ],
)

pub drop_is : (p n c k : ℕ) → 0 < p → 0 < c → Dropped p n c k → drop p n c ≡ k
drop_is p n c k P C d =
    let up : size (n / c) ≤ p + k = size-le (n / c) (p + k) ((div-lt_iff_lt-mul {k = c} {x = n} {y = 2 ^ (p + k)} C).1 d.0) in
    elim d.1 [
      | inl z ↦ omega arith
      | inr g ↦ omega (arith, (pow_lt_back (p - 1 + k) (size (n / c)) (lt_of_le_of_lt ((le-div_iff_mul-le {k = c} {x = 2 ^ (p - 1 + k)} {y = n} C).1 g) (size-lt (n / c)))))
    ]

-- the bounds of (2 * h + 1) * q at even multiples of q are those of every n between 2 * h * q and (2 * h + 2) * q
below_even : (n h q m : ℕ) → n < 2 * h * q + 2 * q → (2 * h + 1) * q < 2 * m * q → n < 2 * m * q
below_even n h q m hi l = lt_of_lt_of_le hi (le_trans (le_of_eq (sym (add-mul (2 * h) 2 q))) (mul-le-mul_right q (omega (arith, lt_of_mul-lt-mul_right q l))))

above_even : (n h q m : ℕ) → 0 < q → 2 * h * q < n → 2 * m * q ≤ (2 * h + 1) * q → 2 * m * q ≤ n
above_even n h q m Q lo l = le_of_lt (lt_of_le_of_lt (mul-le-mul_right q (omega (arith, le_of_mul-le-mul_right l Q))) lo)

four : (t : ℕ) → 4 * t ≡ 2 * (2 * t)
four t = omega arith

place_of : (a k j q t : ℕ) → 2 ^ j * 2 ^ k ≡ q * (4 * t) → 2 ^ (a + k) * 2 ^ j ≡ 2 * (2 ^ a * (2 * t)) * q
place_of a k j q t u =
    ap (λ (z : ℕ). z * 2 ^ j) (pow-add 2 a k)
    ∙ mul_assoc (2 ^ a) (2 ^ k) (2 ^ j)
    ∙ ap (λ (z : ℕ). 2 ^ a * z) (mul_comm (2 ^ k) (2 ^ j) ∙ u ∙ mul_comm q (4 * t) ∙ ap (λ (z : ℕ). z * q) (four t) ∙ mul_assoc 2 (2 * t) q)
    ∙ mul_left_comm (2 ^ a) 2 (2 * t * q)
    ∙ ap (λ (z : ℕ). 2 * z) (sym (mul_assoc (2 ^ a) (2 * t) q))
    ∙ sym (mul_assoc 2 (2 ^ a * (2 * t)) q)

moved : (p n1 h q t k j : ℕ) → 0 < q → 2 * h * q < n1 → n1 < 2 * h * q + 2 * q → 2 ^ j * 2 ^ k ≡ q * (4 * t) → Dropped p ((2 * h + 1) * q) (2 ^ j) k → Dropped p n1 (2 ^ j) k
moved p n1 h q t k j Q lo hi u dr = (
  subst (λ (z : ℕ). n1 < z) (sym (place_of p k j q t u)) (below_even n1 h q (2 ^ p * (2 * t)) hi (subst (λ (z : ℕ). (2 * h + 1) * q < z) (place_of p k j q t u) dr.0)),
  elim dr.1 [
    | inl z ↦ inl z
    | inr g ↦ inr (subst (λ (z : ℕ). z ≤ n1) (sym (place_of (p - 1) k j q t u)) (above_even n1 h q (2 ^ (p - 1) * (2 * t)) Q lo (subst (λ (z : ℕ). z ≤ (2 * h + 1) * q) (place_of (p - 1) k j q t u) g)))
  ],
)

-- ---- `round` with a sticky digit. The value is n * 2 ^ e, over 2 ^ j, and n / 2 ^ d lies strictly between 2 * h and 2 * h + 2.
-- It rounds as (2 * h + 1) * 2 ^ (d + e) does, if the format's smallest value is 4 times 2 ^ (d + e) / 2 ^ j at least, or if h has prec + 1 digits.
module _ (f : Format) (s : Bool) (n d h e j : ℕ) (lo : 2 * h * 2 ^ d < n) (hi : n < 2 * h * 2 ^ d + 2 * 2 ^ d) where
  -- the same with k, the digits dropped of (2 * h + 1) * 2 ^ (d + e), and x, which says that the unit is 4 * 2 ^ x places above the sticky digit
  sticky_with : (k x : ℕ) → k + j ≡ d + e + low f + (2 + x) → Dropped (prec f) ((2 * h + 1) * 2 ^ (d + e) * 2 ^ low f) (2 ^ j) k → round f s (n * 2 ^ e) (2 ^ j) ≡ round f s ((2 * h + 1) * 2 ^ (d + e)) (2 ^ j)
  sticky_with k x unit dr =
      let p = prec f in
      let l = low f in
      let P : 0 < p = two-le_pos p (two f) in
      let q = 2 ^ (d + e + l) in
      let t = 2 ^ x in
      let w = 2 * h + 1 in
      let n1 = n * 2 ^ e * 2 ^ l in
      let n2 = w * 2 ^ (d + e) * 2 ^ l in
      let v = 2 ^ (e + l) in
      let n1_is : n1 ≡ n * v = mul_assoc n (2 ^ e) (2 ^ l) ∙ ap (λ (z : ℕ). n * z) (sym (pow-add 2 e l)) in
      let n2_is : n2 ≡ w * q = mul_assoc w (2 ^ (d + e)) (2 ^ l) ∙ ap (λ (z : ℕ). w * z) (sym (pow-add 2 (d + e) l)) in
      let q_is : 2 ^ d * v ≡ q = sym (pow-add 2 d (e + l)) ∙ ap (λ (z : ℕ). 2 ^ z) (sym (add_assoc d e l)) in
      let Q : 0 < q = pow_pos (d + e + l) in
      let lo' : 2 * h * q < n1 = subst (λ (z : ℕ). 2 * h * q < z) (sym n1_is) (subst (λ (z : ℕ). z < n * v) (mul_assoc (2 * h) (2 ^ d) v ∙ ap (λ (z : ℕ). 2 * h * z) q_is) (mul-lt-mul_of_pos_right lo (pow_pos (e + l)))) in
      let hi' : n1 < 2 * h * q + 2 * q =
      subst (λ (z : ℕ). z < 2 * h * q + 2 * q) (sym n1_is)
      (subst (λ (z : ℕ). n * v < z) (add-mul (2 * h * 2 ^ d) (2 * 2 ^ d) v ∙ ap₂ (λ (y z : ℕ). y + z) (mul_assoc (2 * h) (2 ^ d) v ∙ ap (λ (z : ℕ). 2 * h * z) q_is) (mul_assoc 2 (2 ^ d) v ∙ ap (λ (z : ℕ). 2 * z) q_is)) (mul-lt-mul_of_pos_right hi (pow_pos (e + l)))) in
      let u_is : 2 ^ j * 2 ^ k ≡ q * (4 * t) = sym (pow-add 2 j k) ∙ ap (λ (z : ℕ). 2 ^ z) (add_comm j k ∙ unit) ∙ pow-add 2 (d + e + l) (2 + x) ∙ ap (λ (z : ℕ). q * z) (pow-add 2 2 x) in
      let same : closest n1 (2 ^ j * 2 ^ k) ≡ closest n2 (2 ^ j * 2 ^ k) =
      ap (λ (z : ℕ). closest n1 z) u_is
      ∙ sticky_closest n1 q h t Q (pow_pos x) lo' hi'
      ∙ closest_same w (4 * t) (w * q) (q * (4 * t)) (mul-pos (pow_pos 2) (pow_pos x)) (mul-pos Q (mul-pos (pow_pos 2) (pow_pos x))) (sym (mul_assoc w q (4 * t)))
      ∙ ap (λ (z : ℕ). closest z (q * (4 * t))) (sym n2_is)
      ∙ ap (λ (z : ℕ). closest n2 z) (sym u_is) in
      let dr1 : Dropped p n1 (2 ^ j) k = moved p n1 h q t k j Q lo' hi' u_is (subst (λ (z : ℕ). Dropped p z (2 ^ j) k) n2_is dr) in
      round_is f s (n * 2 ^ e) (2 ^ j)
      ∙ ap (λ (z : ℕ). units f s (closest n1 (2 ^ j * 2 ^ z)) z) (drop_is p n1 (2 ^ j) k P (pow_pos j) dr1)
      ∙ ap (λ (z : ℕ). units f s z k) same
      ∙ sym (ap (λ (z : ℕ). units f s (closest n2 (2 ^ j * 2 ^ z)) z) (drop_is p n2 (2 ^ j) k P (pow_pos j) dr))
      ∙ sym (round_is f s (w * 2 ^ (d + e)) (2 ^ j))

  -- the format's smallest value is 4 sticky digits at least
  pub sticky_low : d + e + low f + 2 ≤ j → round f s (n * 2 ^ e) (2 ^ j) ≡ round f s ((2 * h + 1) * 2 ^ (d + e)) (2 ^ j)
  sticky_low g =
      let m = (2 * h + 1) * 2 ^ (d + e) * 2 ^ low f in
      let k = drop (prec f) m (2 ^ j) in
      sticky_with k (k + j - (d + e + low f + 2)) (omega arith) (drop_bounds (prec f) m (2 ^ j) (two-le_pos (prec f) (two f)) (pow_pos j))

  -- the sticky digit stands two places or more below the kept digits
  pub sticky_high : 2 ^ (prec f + 1) ≤ h → round f s (n * 2 ^ e) (2 ^ j) ≡ round f s ((2 * h + 1) * 2 ^ (d + e)) (2 ^ j)
  sticky_high g =
      let m = (2 * h + 1) * 2 ^ (d + e) * 2 ^ low f in
      let k = drop (prec f) m (2 ^ j) in
      let dr : Dropped (prec f) m (2 ^ j) k = drop_bounds (prec f) m (2 ^ j) (two-le_pos (prec f) (two f)) (pow_pos j) in
      let big : 2 ^ (prec f + 1 + (d + e + low f)) < 2 ^ (prec f + k + j) =
      lt_of_le_of_lt
      (le_trans (le_of_eq (pow-add 2 (prec f + 1) (d + e + low f)))
      (le_trans (mul-le-mul_right (2 ^ (d + e + low f)) (omega arith))
      (le_of_eq (ap (λ (z : ℕ). (2 * h + 1) * z) (pow-add 2 (d + e) (low f)) ∙ sym (mul_assoc (2 * h + 1) (2 ^ (d + e)) (2 ^ low f))))))
      (lt_of_lt_of_le dr.0 (le_of_eq (sym (pow-add 2 (prec f + k) j)))) in
      sticky_with k (k + j - (d + e + low f + 2)) (omega (arith, (pow_lt_back (prec f + 1 + (d + e + low f)) (prec f + k + j) big))) dr
