-- `round` gives the nearest value: no value of the format is nearer to the fraction. Nothing here is about roots.
use Rattle.std.proofs.Common.{◌≡◌, ℕ, suc, ◌+◌, ◌-◌, ◌*◌, ◌/◌, ◌%◌, ◌^◌, ◌<◌, ◌≤◌, ◌⊎◌, sym, refl, ap, ◌∙◌, subst, ap₂, inl, inr, le_trans, le_of_eq, lt_of_lt_of_le, le_of_lt, lt_irrefl, mul-le-mul_right, mod-lt, mul_assoc, suc-mul, mul_comm, add-mul, eq-zero-or-pos, lt_of_mul-lt-mul_right, eq-or-lt_of_le, mul-le-mul_left, mul-lt-mul_of_pos_right, mul-pos, div-add-mod', le-div_iff_mul-le, arith, pow_pos, pow_mono, pow-add}
use Prim.Native.Nat.{compare, Ordering}
use native.Mathlib.Nat.{mul-sub}
use lib.Ieee.{nearest}
use lib.Ieee.Nearest.{closest, nearest-ge}
use lib.Ieee.Order.{drop, kept}
use Rattle.float.proofs.Sticky.{Cmp, cmp, div_is, side, drop_bounds}

-- ---- how far `closest` can be from its fraction: half a unit
pub closest_bounds : (n c : ℕ) → 0 < c → (2 * n ≤ 2 * (closest n c * c) + c) × (2 * (closest n c * c) ≤ 2 * n + c)
closest_bounds n c C = go (compare (n % c * 2) c) (cmp (n % c * 2) c)
  where
    e : n / c * c + n % c ≡ n
    e = div-add-mod' n c

    two : (q : ℕ) → (q + q % 2 ≡ q) ⊎ (q + q % 2 ≡ suc q)
    two q = half (q % 2) (small q) q
      where
        small : (q : ℕ) → (q % 2 ≡ 0) ⊎ (q % 2 ≡ 1)
        small q = elim (eq-zero-or-pos (q % 2)) [ inl z ↦ inl z | inr p ↦ inr (omega arith) ]

        half : (r : ℕ) → (r ≡ 0) ⊎ (r ≡ 1) → (q : ℕ) → (q + r ≡ q) ⊎ (q + r ≡ suc q)
        half r (inl z) q = inl (omega arith)
        half r (inr z) q = inr (omega arith)

    same : (x r n c : ℕ) → x + r ≡ n → r * 2 ≤ c → (2 * n ≤ 2 * x + c) × (2 * x ≤ 2 * n + c)
    same x r n c e h = (omega arith, omega arith)

    next : (x r n c : ℕ) → x + r ≡ n → c ≤ r * 2 → r ≤ c → (2 * n ≤ 2 * (x + c) + c) × (2 * (x + c) ≤ 2 * n + c)
    next x r n c e h k = (omega arith, omega arith)

    at : (q : ℕ) → (q ≡ n / c) → n % c * 2 ≤ c → (2 * n ≤ 2 * (q * c) + c) × (2 * (q * c) ≤ 2 * n + c)
    at q p h = subst (λ (x : ℕ). (2 * n ≤ 2 * (x * c) + c) × (2 * (x * c) ≤ 2 * n + c)) (sym p) (same (n / c * c) (n % c) n c e h)

    after : (q : ℕ) → (q ≡ suc (n / c)) → c ≤ n % c * 2 → n % c ≤ c → (2 * n ≤ 2 * (q * c) + c) × (2 * (q * c) ≤ 2 * n + c)
    after q p h k = subst (λ (x : ℕ). (2 * n ≤ 2 * (x * c) + c) × (2 * (x * c) ≤ 2 * n + c)) (sym p) (subst (λ (y : ℕ). (2 * n ≤ 2 * y + c) × (2 * y ≤ 2 * n + c)) (sym (suc-mul (n / c) c)) (next (n / c * c) (n % c) n c e h k))

    small : n % c ≤ c
    small = le_of_lt (mod-lt n C)

    go : (o : Ordering) → Cmp o (n % c * 2) c → (2 * n ≤ 2 * (nearest (n / c) o * c) + c) × (2 * (nearest (n / c) o * c) ≤ 2 * n + c)
    go Ordering.lt h = at (n / c) refl (le_of_lt h)
    go Ordering.eq h = elim (two (n / c)) [ inl z ↦ at (n / c + n / c % 2) z (le_of_eq h) | inr z ↦ after (n / c + n / c % 2) z (le_of_eq (sym h)) small ]
    go Ordering.gt h = after (suc (n / c)) refl (le_of_lt h) small

-- ---- `closest` by a sum: half a unit less one carries what lies above a half, and one more a half that stands over an odd number
module _ (q r h : ℕ) (U : 0 < 2 * h) (R : r < 2 * h) where
  stays : r + (h - 1) + q % 2 < 2 * h → (q * (2 * h) + r + (h - 1) + q % 2) / (2 * h) ≡ q
  stays b = div_is (q * (2 * h) + r + (h - 1) + q % 2) (2 * h) q U (omega arith) (omega arith)

  carries : 2 * h ≤ r + (h - 1) + q % 2 → (q * (2 * h) + r + (h - 1) + q % 2) / (2 * h) ≡ suc q
  carries b = div_is (q * (2 * h) + r + (h - 1) + q % 2) (2 * h) (suc q) U (omega (arith, suc-mul q (2 * h))) (omega (arith, suc-mul q (2 * h)))

  carried : (o : Ordering) → Cmp o (r * 2) (2 * h) → (q * (2 * h) + r + (h - 1) + q % 2) / (2 * h) ≡ nearest q o
  carried Ordering.lt c = stays (omega arith)
  carried Ordering.eq c = elim (eq-zero-or-pos (q % 2)) [ inl z ↦ stays (omega arith) ∙ omega arith | inr p ↦ carries (omega arith) ∙ omega arith ]
  carried Ordering.gt c = carries (omega arith)

pub closest_sum : (w h : ℕ) → 0 < h → (w + (h - 1) + w / (2 * h) % 2) / (2 * h) ≡ closest w (2 * h)
closest_sum w h H =
    let u = 2 * h in
    ap (λ (x : ℕ). (x + (h - 1) + w / u % 2) / u) (sym (div-add-mod' w u))
    ∙ carried (w / u) (w % u) h (omega arith) (mod-lt w (omega arith)) (compare (w % u * 2) u) (cmp (w % u * 2) u)

-- ---- a value of the format, q * 2 ^ i with q of at most p digits, against what is kept of n / c
module _ (p n c q i : ℕ) (P : 0 < p) (C : 0 < c) (Q : q < 2 ^ p) where
  -- it is a whole number of the units that are kept, or below the first of them with all its digits
  unit_or_low : ((b : ℕ) × (q * 2 ^ i ≡ b * 2 ^ drop p n c)) ⊎ ((0 < drop p n c) × (q * 2 ^ i < 2 ^ (p - 1) * 2 ^ drop p n c))
  unit_or_low = elim (side i (drop p n c)) [
    | inl l ↦ inr ((omega arith), lt_of_lt_of_le (mul-lt-mul_of_pos_right Q (pow_pos i)) (le_trans (le_of_eq (sym (pow-add 2 p i))) (le_trans (pow_mono (omega arith)) (le_of_eq (pow-add 2 (p - 1) (drop p n c))))))
    | inr l ↦ inl (q * 2 ^ (i - drop p n c), ap (λ (x : ℕ). q * x) (ap (λ (x : ℕ). 2 ^ x) (sym (omega arith)) ∙ pow-add 2 (i - drop p n c) (drop p n c)) ∙ sym (mul_assoc q (2 ^ (i - drop p n c)) (2 ^ drop p n c)))
  ]

  -- where digits are dropped, all p digits are kept, and the fraction is no less than the first such value
  all_kept : 0 < drop p n c → (2 ^ (p - 1) ≤ kept p n c) × (2 ^ (p - 1) * 2 ^ drop p n c * c ≤ n)
  all_kept g =
      let k = drop p n c in
      let low : 2 ^ (p - 1 + k) * c ≤ n = elim (drop_bounds p n c P C).1 [ inl z ↦ absurd (omega arith) | inr l ↦ l ] in
      let low' : 2 ^ (p - 1) * 2 ^ k * c ≤ n = le_trans (le_of_eq (ap (λ (x : ℕ). x * c) (sym (pow-add 2 (p - 1) k)))) low in
      (le_trans ((le-div_iff_mul-le {k = c * 2 ^ k} {x = 2 ^ (p - 1)} {y = n} (mul-pos C (pow_pos k))).1 (le_trans (le_of_eq (ap (λ (x : ℕ). 2 ^ (p - 1) * x) (mul_comm c (2 ^ k)) ∙ sym (mul_assoc (2 ^ (p - 1)) (2 ^ k) c))) low')) (nearest-ge (n / (c * 2 ^ k)) (compare (n % (c * 2 ^ k) * 2) (c * 2 ^ k))), low')

  -- the bounds on the fraction, in units
  half_unit : (2 * n ≤ (2 * (kept p n c * 2 ^ drop p n c) + 2 ^ drop p n c) * c) × (2 * (kept p n c * 2 ^ drop p n c) * c ≤ 2 * n + 2 ^ drop p n c * c)
  half_unit =
      let k = drop p n c in
      let u = 2 ^ k in
      let g = kept p n c in
      let b = closest_bounds n (c * u) (mul-pos C (pow_pos k)) in
      let e : g * (c * u) ≡ g * u * c = ap (λ (x : ℕ). g * x) (mul_comm c u) ∙ sym (mul_assoc g u c) in (
        le_trans b.0 (le_of_eq (ap₂ (λ (x y : ℕ). 2 * x + y) e (mul_comm c u) ∙ ap (λ (x : ℕ). x + u * c) (sym (mul_assoc 2 (g * u) c)) ∙ sym (add-mul (2 * (g * u)) u c))),
        le_trans (le_of_eq (mul_assoc 2 (g * u) c ∙ ap (λ (x : ℕ). 2 * x) (sym e))) (le_trans b.1 (le_of_eq (ap (λ (x : ℕ). 2 * n + x) (mul_comm c u)))),
      )

  pub nearest_over : kept p n c * 2 ^ drop p n c < q * 2 ^ i → 2 * n ≤ (kept p n c * 2 ^ drop p n c + q * 2 ^ i) * c
  nearest_over l =
      let u = 2 ^ drop p n c in
      let g = kept p n c in
      let gap : g * u + u ≤ q * 2 ^ i = elim unit_or_low [
        | inl b ↦ subst (λ (x : ℕ). g * u + u ≤ x) (sym b.1) (le_trans (le_of_eq (sym (suc-mul g u))) (mul-le-mul_right u (lt_of_mul-lt-mul_right u (subst (λ (x : ℕ). g * u < x) b.1 l))))
        | inr b ↦ absurd (lt_irrefl (g * u) (lt_of_lt_of_le l (le_trans (le_of_lt b.1) (mul-le-mul_right u (all_kept b.0).0))))
      ] in
      le_trans half_unit.0 (mul-le-mul_right c (omega arith))

  pub nearest_under : q * 2 ^ i < kept p n c * 2 ^ drop p n c → (kept p n c * 2 ^ drop p n c + q * 2 ^ i) * c ≤ 2 * n
  nearest_under l =
      let u = 2 ^ drop p n c in
      let g = kept p n c in
      let b = q * 2 ^ i in
      let far : b + u ≤ g * u → (g * u + b) * c ≤ 2 * n = λ h.
      le_trans (mul-le-mul_right c (omega arith)) (cancel (2 * (g * u)) u c (2 * n) (omega arith) half_unit.1) in
      elim unit_or_low [
        | inl d ↦ far (subst (λ (x : ℕ). x + u ≤ g * u) (sym d.1) (le_trans (le_of_eq (sym (suc-mul d.0 u))) (mul-le-mul_right u (lt_of_mul-lt-mul_right u (subst (λ (x : ℕ). x < g * u) d.1 l)))))
        | inr d ↦ elim (eq-or-lt_of_le (all_kept d.0).0) [
          | inl e ↦ le_trans (mul-le-mul_right c (omega (arith, le_of_lt l))) (le_trans (le_of_eq (mul_assoc 2 (g * u) c)) (mul-le-mul_left 2 (subst (λ (x : ℕ). x * u * c ≤ n) e (all_kept d.0).1)))
          | inr s ↦ far (le_trans (omega (arith, d.1)) (le_trans (le_of_eq (sym (suc-mul (2 ^ (p - 1)) u))) (mul-le-mul_right u s)))
        ]
      ]
    where
      cancel : (x u c n : ℕ) → u ≤ x → x * c ≤ n + u * c → (x - u) * c ≤ n
      cancel x u c n h k =
          le_trans (le_of_eq (mul_comm (x - u) c ∙ mul-sub c x u)) (omega (arith, (le_trans (le_of_eq (mul_comm c x)) (le_trans k (le_of_eq (ap (λ (y : ℕ). n + y) (mul_comm u c)))))))
