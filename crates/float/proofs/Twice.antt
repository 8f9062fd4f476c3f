-- A number rounded to f64 and then to f32 is the number rounded to f32, where the f64 is not in the middle of two neighbouring f32: every such middle is an
-- f64, so that the number and its nearest f64 lie on the same side of each.
use Rattle.std.specs.Prelude.{None, Some}
use Rattle.std.proofs.Common.{◌≡◌, ℕ, zero, suc, ◌+◌, ◌-◌, ◌*◌, ◌/◌, ◌%◌, ◌^◌, ◌<◌, ◌≤◌, Bool, true, false, cond, ◌⊎◌, sym, refl, ap, ◌∙◌, subst, ap₂, inl, inr, le_trans, le_of_eq, lt_of_lt_of_le, le_of_suc-le-suc, lt_of_le_of_lt, add_assoc, mul-le-mul_right, mod-lt, mul_assoc, suc-mul, mul_comm, div-lt_iff_lt-mul, add-mul, lt_of_mul-lt-mul_right, mul-le-mul_left, mul-pos, div-add-mod', le-div_iff_mul-le, mul-one, mul_right_comm, le_of_mul-le-mul_right, mul_left_comm, arith, lit<, lit≤, pow_pos, pow_mono, pow-add, le-ltb}
use Prim.Native.Nat.{compare}
use lib.Arith.{lt_of_le-ne}
use lib.Ieee.{Float, nan, inf, fin, binary32, binary64, size, odd, units, round, to_bits, of_bits}
use lib.Ieee.Digits.{Equals}
use lib.Ieee.Fits.{nearest-le, round_is}
use lib.Ieee.Exact.{HasValue, units_val}
use lib.Ieee.Nearest.{closest, closest_same, nearest-ge}
use lib.Ieee.Order.{drop}
use Rattle.float.specs.Finite.{rounded}
use Rattle.float.specs.Inside.{Narrowed}
use Rattle.float.proofs.Sticky.{side, div_is, closest_down, closest_up, pow_lt_back, Dropped, drop_bounds, drop_is}
use Rattle.float.proofs.Near.{closest_bounds}
use Rattle.float.proofs.Encode.{Signed, to_bits_val, fields_of_lem, in_range, pack_in}

-- ---- the whole number p is nearer to a / b than by a half
closest_is : (a b p : ℕ) → 0 < b → p * b * 2 < a * 2 + b → a * 2 < p * b * 2 + b → closest a b ≡ p
closest_is a b p B lo hi = elim (side a (p * b)) [
  | inl l ↦ before p lo l
  | inr l ↦ closest_down a b p B l hi
]
  where
    before : (p : ℕ) → p * b * 2 < a * 2 + b → a < p * b → closest a b ≡ p
    before zero h l = absurd (omega arith)
    before (suc p) h l = let e : suc p * b ≡ p * b + b = suc-mul p b in closest_up a b p B (omega arith) (omega arith)

-- ---- q is nearest to n / u. To a multiple of 2 * h both round alike, unless q is in the middle of two.
pub narrow_by : (n u q h : ℕ) → 0 < u → 0 < h → closest n u ≡ q → (q % (2 * h) ≡ h → ⊥) → closest n (u * (2 * h)) ≡ (q + h) / (2 * h)
narrow_by n u q h U H e m =
    let p = q / (2 * h) in
    let r = q % (2 * h) in
    let z = h * u in
    let b = closest_bounds n u U in
    let lo : 2 * (q * u) ≤ 2 * n + u = subst (λ (x : ℕ). 2 * (x * u) ≤ 2 * n + u) e b.1 in
    let hi : 2 * n ≤ 2 * (q * u) + u = subst (λ (x : ℕ). 2 * n ≤ 2 * (x * u) + u) e b.0 in
    let q_is : p * (2 * h) + r ≡ q = div-add-mod' q (2 * h) in
    let two : 0 < 2 * h = mul-pos (lit< tt) H in
    let r_lt : r < 2 * h = mod-lt q two in
    let w_is : u * (2 * h) ≡ 2 * z = mul_left_comm u 2 h ∙ ap (λ (x : ℕ). 2 * x) (mul_comm u h) in
    let pw : p * (u * (2 * h)) ≡ 2 * (p * z) = ap (λ (x : ℕ). p * x) w_is ∙ mul_left_comm p 2 z in
    let sw : suc p * (u * (2 * h)) ≡ p * (u * (2 * h)) + u * (2 * h) = suc-mul p (u * (2 * h)) in
    let qu : q * u ≡ 2 * (p * z) + r * u = ap (λ (x : ℕ). x * u) (sym q_is) ∙ add-mul (p * (2 * h)) r u ∙ ap (λ (x : ℕ). x + r * u) (mul_assoc p (2 * h) u ∙ ap (λ (x : ℕ). p * x) (mul_assoc 2 h u) ∙ mul_left_comm p 2 z) in
    let W : 0 < u * (2 * h) = mul-pos U two in
    elim (side r h) [
      | inl l ↦
          let ru : r * u + u ≤ z = le_trans (le_of_eq (sym (suc-mul r u))) (mul-le-mul_right u l) in
          closest_is n (u * (2 * h)) p W (omega arith) (omega arith) ∙ sym (div_is (q + h) (2 * h) p two (omega arith) (omega arith))
      | inr l ↦
          let g : h < r = lt_of_le-ne l (λ x. m (sym x)) in
          let ru : r * u + u ≤ 2 * z = le_trans (le_of_eq (sym (suc-mul r u))) (le_trans (mul-le-mul_right u r_lt) (le_of_eq (mul_assoc 2 h u))) in
          let zu : z + u ≤ r * u = le_trans (le_of_eq (sym (suc-mul h u))) (mul-le-mul_right u g) in
          closest_is n (u * (2 * h)) (suc p) W (omega arith) (omega arith) ∙ sym (div_is (q + h) (2 * h) (suc p) two (omega (arith, suc-mul p (2 * h))) (omega (arith, suc-mul p (2 * h))))
    ]

pub narrow_closest : (n u q : ℕ) → 0 < u → closest n u ≡ q → (q % 0x2000_0000 ≡ 0x1000_0000 → ⊥) → closest n (u * 0x2000_0000) ≡ (q + 0x1000_0000) / 0x2000_0000
narrow_closest n u q U e m = narrow_by n u q 0x1000_0000 U (lit< tt) e m

-- ---- what is kept of n / c in f64: at most 53 digits or 2^53, and all 53 where digits are dropped
module _ (n c k : ℕ) (C : 0 < c) (d : Dropped 53 n c k) where
  kept_le : closest n (c * 2 ^ k) ≤ 2 ^ 53
  kept_le =
      let u = c * 2 ^ k in
      le_trans (nearest-le (n / u) (compare (n % u * 2) u))
      ((div-lt_iff_lt-mul {k = u} {x = n} {y = 2 ^ 53} (mul-pos C (pow_pos k))).1
      (lt_of_lt_of_le d.0 (le_of_eq (ap (λ (x : ℕ). x * c) (pow-add 2 53 k) ∙ mul_assoc (2 ^ 53) (2 ^ k) c ∙ ap (λ (x : ℕ). 2 ^ 53 * x) (mul_comm (2 ^ k) c)))))

  kept_ge : (k ≡ 0) ⊎ (2 ^ 52 ≤ closest n (c * 2 ^ k))
  kept_ge = elim d.1 [
    | inl z ↦ inl z
    | inr g ↦
        let u = c * 2 ^ k in
        inr (le_trans
        ((le-div_iff_mul-le {k = u} {x = 2 ^ 52} {y = n} (mul-pos C (pow_pos k))).1
        (le_trans (le_of_eq (sym (ap (λ (x : ℕ). x * c) (pow-add 2 52 k) ∙ mul_assoc (2 ^ 52) (2 ^ k) c ∙ ap (λ (x : ℕ). 2 ^ 52 * x) (mul_comm (2 ^ k) c)))) g))
        (nearest-ge (n / u) (compare (n % u * 2) u)))
  ]

-- ---- the bits of an f64 of q * 2 ^ k units
signed : (v : Float) (s : Bool) (a c : ℕ) → HasValue v s a c → Signed s v
signed nan s a c h = absurd h
signed (inf t) s a c h = absurd h
signed (fin t m e) s a c h = h.0

equals : (v : Float) (s : Bool) (a c : ℕ) → HasValue v s a c → Equals v a c
equals nan s a c h = absurd h
equals (inf t) s a c h = absurd h
equals (fin t m e) s a c h = h.1

units_bits : (s : Bool) (q k : ℕ) → q ≤ 2 ^ 53 → (k ≡ 0) ⊎ (2 ^ 52 ≤ q) → q * 2 ^ k < 2 ^ 2098 → to_bits binary64 (units binary64 s q k) ≡ cond s 0x8000_0000_0000_0000 0 + (k * 2 ^ 52 + q)
units_bits s q k le ge h =
    let v = units binary64 s q k in
    let a = q * 2 ^ k in
    let w = units_val binary64 s q k h in
    to_bits_val binary64 s v a (signed v s a (2 ^ 1074) w) (equals v s a (2 ^ 1074) w)
    ∙ add_assoc (cond s 0x8000_0000_0000_0000 0) ((size a - 53) * 2 ^ 52) (a / 2 ^ (size a - 53))
    ∙ ap (λ (x : ℕ). cond s 0x8000_0000_0000_0000 0 + x) (fields_of_lem 52 q k le ge)

inf_bits : (s : Bool) (q k : ℕ) → 2 ^ 2098 ≤ q * 2 ^ k → to_bits binary64 (units binary64 s q k) ≡ cond s 0x8000_0000_0000_0000 0 + 0x7ff0_0000_0000_0000
unfolding units to_bits
inf_bits s q k h = ap (λ (t : Bool). to_bits binary64 (cond t (odd 54 s q k 1074) (inf s))) (le-ltb (q * 2 ^ k) (2 ^ 2098) h)

-- ---- the same number in f32, whose smallest value is 2^925 of f64's: where f64 drops j + 896 digits, f32 drops j, and keeps 29 digits less
module _ (n c j : ℕ) (C : 0 < c) where
  unit_is : n * 2 ^ 1074 ≡ n * 2 ^ 149 * 2 ^ 925
  unit_is = ap (λ (x : ℕ). n * x) (pow-add 2 149 925) ∙ sym (mul_assoc n (2 ^ 149) (2 ^ 925))

  edge_is : (p : ℕ) → 2 ^ (p + 29 + (j + 896)) * c ≡ 2 ^ (p + j) * c * 2 ^ 925
  edge_is p = ap (λ (x : ℕ). x * c) (ap (λ (x : ℕ). 2 ^ x) (omega arith) ∙ pow-add 2 (p + j) 925) ∙ mul_right_comm (2 ^ (p + j)) (2 ^ 925) c

  dropped_less : Dropped 53 (n * 2 ^ 1074) c (j + 896) → Dropped 24 (n * 2 ^ 149) c j
  dropped_less d = (
    lt_of_mul-lt-mul_right (2 ^ 925) (lt_of_le_of_lt (le_of_eq (sym unit_is)) (lt_of_lt_of_le d.0 (le_of_eq (edge_is 24)))),
    elim d.1 [
      | inl z ↦ absurd (omega arith)
      | inr g ↦ inr (le_of_mul-le-mul_right (le_trans (le_of_eq (sym (edge_is 23))) (le_trans g (le_of_eq unit_is))) (pow_pos 925))
    ],
  )

  kept_less : closest (n * 2 ^ 149) (c * 2 ^ j) ≡ closest (n * 2 ^ 1074) (c * 2 ^ (j + 896) * 0x2000_0000)
  kept_less =
      let u = c * 2 ^ j in
      let w : c * 2 ^ (j + 896) * 0x2000_0000 ≡ u * 2 ^ 925 = ap (λ (x : ℕ). c * x * 2 ^ 29) (pow-add 2 j 896) ∙ ap (λ (x : ℕ). x * 2 ^ 29) (sym (mul_assoc c (2 ^ j) (2 ^ 896))) ∙ mul_assoc u (2 ^ 896) (2 ^ 29) ∙ ap (λ (x : ℕ). u * x) (sym (pow-add 2 896 29)) in
      closest_same (n * 2 ^ 149) u (n * 2 ^ 1074) (c * 2 ^ (j + 896) * 0x2000_0000) (mul-pos C (pow_pos j)) (mul-pos (mul-pos C (pow_pos (j + 896))) (pow_pos 29))
      (ap (λ (x : ℕ). n * 2 ^ 149 * x) w ∙ sym (mul_assoc (n * 2 ^ 149) u (2 ^ 925)) ∙ mul_right_comm (n * 2 ^ 149) u (2 ^ 925) ∙ ap (λ (x : ℕ). x * u) (sym unit_is))

  narrow_units : (s : Bool) (r : ℕ) → Dropped 53 (n * 2 ^ 1074) c (j + 896) → closest (n * 2 ^ 1074) (c * 2 ^ (j + 896) * 0x2000_0000) ≡ r → round binary32 s n c ≡ units binary32 s r j
  narrow_units s r d e =
      round_is binary32 s n c
      ∙ ap (λ (z : ℕ). units binary32 s (closest (n * 2 ^ 149) (c * 2 ^ z)) z) (drop_is 24 (n * 2 ^ 149) c j (lit< tt) C (dropped_less d))
      ∙ ap (λ (z : ℕ). units binary32 s z j) (kept_less ∙ e)

-- ---- the pattern: its sign, and what is left of it
parts : (s : Bool) (b a : ℕ) → b ≡ cond s 0x8000_0000_0000_0000 0 + a → a < 0x8000_0000_0000_0000 → (b % 0x8000_0000_0000_0000 ≡ a) × (b / 0x8000_0000_0000_0000 * 0x8000_0000 ≡ cond s 0x8000_0000 0)
parts true b a e h = (omega arith, omega arith)
parts false b a e h = (omega arith, omega arith)

-- q * 2 ^ k units below the infinity, so that the pattern's fields do not run into the sign
small : (q k : ℕ) → q ≤ 2 ^ 53 → (k ≡ 0) ⊎ (2 ^ 52 ≤ q) → q * 2 ^ k < 2 ^ 2098 → k * 2 ^ 52 + q < 0x8000_0000_0000_0000
small q k le (inl z) h = omega arith
small q k le (inr g) h = let l : 52 + k < 2098 = pow_lt_back (52 + k) 2098 (lt_of_le_of_lt (le_trans (le_of_eq (pow-add 2 52 k)) (mul-le-mul_right (2 ^ k) g)) h) in omega arith

-- what the pattern b of a fraction's nearest f64 says, where it is no infinity's: the f64 is q * 2 ^ k units
pub record Seen (s : Bool) (n c b : ℕ) : Type 0 where
  pub k : ℕ
  pub q : ℕ
  pub dropped : Dropped 53 (n * 2 ^ 1074) c k
  pub kept : closest (n * 2 ^ 1074) (c * 2 ^ k) ≡ q
  pub le : q ≤ 2 ^ 53
  pub ge : (k ≡ 0) ⊎ (2 ^ 52 ≤ q)
  pub size_is : b % 0x8000_0000_0000_0000 ≡ k * 2 ^ 52 + q
  pub sign_is : b / 0x8000_0000_0000_0000 * 0x8000_0000 ≡ cond s 0x8000_0000 0

pub seen : (s : Bool) (n c b : ℕ) → 0 < c → to_bits binary64 (round binary64 s n c) ≡ b → b % 0x8000_0000_0000_0000 < 0x7ff0_0000_0000_0000 → Seen s n c b
seen s n c b C e h =
    let w = n * 2 ^ 1074 in
    let k = drop 53 w c in
    let q = closest w (c * 2 ^ k) in
    let d : Dropped 53 w c k = drop_bounds 53 w c (lit< tt) C in
    let le = kept_le w c k C d in
    let ge = kept_ge w c k C d in
    let f : b ≡ to_bits binary64 (units binary64 s q k) = sym e ∙ ap (to_bits binary64) (round_is binary64 s n c) in
    elim (side (q * 2 ^ k) (2 ^ 2098)) [
      | inl l ↦
          let p = parts s b (k * 2 ^ 52 + q) (f ∙ units_bits s q k le ge l) (small q k le ge l) in
          record { k = k; q = q; dropped = d; kept = refl; le = le; ge = ge; size_is = p.0; sign_is = p.1 }
      | inr l ↦ absurd (no (parts s b 0x7ff0_0000_0000_0000 (f ∙ inf_bits s q k l) (lit< tt)).0)
    ]
  where
    no : b % 0x8000_0000_0000_0000 ≡ 0x7ff0_0000_0000_0000 → ⊥
    no z = omega arith

has_rounded : (v : Float) (s : Bool) (a c : ℕ) → HasValue v s a c → rounded v ≡ Some v
has_rounded nan s a c h = absurd h
has_rounded (inf t) s a c h = absurd h
has_rounded (fin t m e) s a c h = refl

-- ---- where f64 keeps q, f32 keeps r, and the f32 is normal
pub narrow_at : (s : Bool) (n c k j r : ℕ) → 0 < c → Dropped 53 (n * 2 ^ 1074) c k → k ≡ j + 896 → closest (n * 2 ^ 1074) (c * 2 ^ k * 0x2000_0000) ≡ r → r ≤ 2 ^ 24 → 2 ^ 23 ≤ r → j * 8388608 + r < 2139095040
    → rounded (round binary32 s n c) ≡ Some (of_bits binary32 (cond s 0x8000_0000 0 + (j * 8388608 + r)))
narrow_at s n c k j r C d k_is e le ge top =
    ap rounded (narrow_units n c j C s r (subst (λ (x : ℕ). Dropped 53 (n * 2 ^ 1074) c x) k_is d) (subst (λ (x : ℕ). closest (n * 2 ^ 1074) (c * 2 ^ x * 0x2000_0000) ≡ r) k_is e))
    ∙ has_rounded (units binary32 s r j) s (r * 2 ^ j) (2 ^ 149) (units_val binary32 s r j (in_range r j le (inr ge) top))
    ∙ ap Some (sym (pack_in s r j le (inr ge) top))

-- ---- an f64 that is neither subnormal nor an infinity in f32, nor in the middle of two f32
pub narrow_round : (s : Bool) (n c b : ℕ) → 0 < c → to_bits binary64 (round binary64 s n c) ≡ b
    → 0x3810_0000_0000_0000 < b % 0x8000_0000_0000_0000 → b % 0x8000_0000_0000_0000 < 0x47ef_ffff_e000_0000 → (b % 0x8000_0000_0000_0000 % 0x2000_0000 ≡ 0x1000_0000 → ⊥) → rounded (round binary32 s n c) ≡ Some (of_bits binary32 (b / 0x8000_0000_0000_0000 * 0x8000_0000 + ((b % 0x8000_0000_0000_0000 + 0x1000_0000) / 0x2000_0000 - 0x1_c000_0000)))
narrow_round s n c b C e lo hi m = go (seen s n c b C e (lt_of_lt_of_le hi (lit≤ tt)))
  where
    go : Seen s n c b → rounded (round binary32 s n c) ≡ Some (of_bits binary32 (b / 0x8000_0000_0000_0000 * 0x8000_0000 + ((b % 0x8000_0000_0000_0000 + 0x1000_0000) / 0x2000_0000 - 0x1_c000_0000)))
    go v =
        let j = v.k - 896 in
        let r = (v.q + 0x1000_0000) / 0x2000_0000 in
        let ge : 2 ^ 52 ≤ v.q = elim v.ge [ inl z ↦ absurd (omega arith) | inr g ↦ g ] in
        narrow_at s n c v.k j r C v.dropped (omega arith) (narrow_closest (n * 2 ^ 1074) (c * 2 ^ v.k) v.q (mul-pos C (pow_pos v.k)) v.kept (λ x. m (omega arith))) (omega arith) (omega arith) (omega arith)
        ∙ ap (λ (x : ℕ). Some (of_bits binary32 x)) (ap₂ (λ (x y : ℕ). x + y) (sym v.sign_is) (omega arith))

-- ---- zero: a fraction that f64 rounds to zero is at most half of f64's smallest value, and so less than half of f32's
module _ (s : Bool) (n c : ℕ) (C : 0 < c) (e : closest (n * 2 ^ 1074) (c * 2 ^ 0) ≡ 0) where
  tiny : n * 2 ^ 149 * 2 < c
  tiny =
      let x = n * 2 ^ 149 in
      let g : 2 * (n * 2 ^ 1074) ≤ 2 * (0 * c) + c = subst (λ (y : ℕ). 2 * (n * 2 ^ 1074) ≤ 2 * (y * c) + c) (ap (λ (y : ℕ). closest (n * 2 ^ 1074) y) (sym (mul-one c)) ∙ e) (closest_bounds (n * 2 ^ 1074) c C).0 in
      let h : n * 2 ^ 1074 ≡ x * 2 ^ 925 = unit_is n c 0 C in
      let i : x * 2 ≤ x * 2 ^ 925 = mul-le-mul_left x (lit≤ tt) in
      below x (n * 2 ^ 1074) (x * 2 ^ 925) g h i
    where
      below : (x y z : ℕ) → 2 * y ≤ 2 * (0 * c) + c → y ≡ z → x * 2 ≤ z → x * 2 < c
      below x y z g h i = omega arith

  zero_units : round binary32 s n c ≡ units binary32 s 0 0
  zero_units =
      round_is binary32 s n c
      ∙ ap (λ (z : ℕ). units binary32 s (closest (n * 2 ^ 149) (c * 2 ^ z)) z) (drop_is 24 (n * 2 ^ 149) c 0 (lit< tt) C (under (n * 2 ^ 149) tiny, inl refl))
      ∙ ap (λ (z : ℕ). units binary32 s z 0) (first (n * 2 ^ 149) tiny)
    where
      under : (x : ℕ) → x * 2 < c → x < 16777216 * c
      under x h = omega arith

      first : (x : ℕ) → x * 2 < c → closest x (c * 2 ^ 0) ≡ 0
      first x h = closest_down x (c * 2 ^ 0) 0 (omega arith) (omega arith) (omega arith)

pub narrow_zero : (s : Bool) (n c b : ℕ) → 0 < c → to_bits binary64 (round binary64 s n c) ≡ b → b % 0x8000_0000_0000_0000 ≡ 0 → rounded (round binary32 s n c) ≡ Some (of_bits binary32 (b / 0x8000_0000_0000_0000 * 0x8000_0000))
narrow_zero s n c b C e z = go (seen s n c b C e (below z))
  where
    below : b % 0x8000_0000_0000_0000 ≡ 0 → b % 0x8000_0000_0000_0000 < 0x7ff0_0000_0000_0000
    below h = omega arith

    go : Seen s n c b → rounded (round binary32 s n c) ≡ Some (of_bits binary32 (b / 0x8000_0000_0000_0000 * 0x8000_0000))
    go v =
        let k0 : v.k ≡ 0 = omega arith in
        let q0 : v.q ≡ 0 = omega arith in
        ap rounded (zero_units s n c C (subst (λ (x : ℕ). closest (n * 2 ^ 1074) (c * 2 ^ x) ≡ 0) k0 (v.kept ∙ q0)))
        ∙ has_rounded (units binary32 s 0 0) s 0 (2 ^ 149) (units_val binary32 s 0 0 (lit< tt))
        ∙ ap Some (sym (pack_in s 0 0 (lit≤ tt) (inl refl) (lit< tt)) ∙ ap (of_bits binary32) (omega (arith, v.sign_is)))

-- ---- a subnormal f32, whose units are 2^925 of f64's: where f64 keeps q of units of 2 ^ k, t + 1 more digits are dropped
pub low_le : (q t : ℕ) → q < 2 ^ 53 → 28 ≤ t → (q + 2 ^ t) / (2 * 2 ^ t) ≤ 2 ^ 24
low_le q t h g =
    let u : 2 ^ 28 ≤ 2 ^ t = pow_mono g in
    le_of_suc-le-suc ((div-lt_iff_lt-mul {k = 2 * 2 ^ t} {x = q + 2 ^ t} {y = suc (2 ^ 24)} (omega arith)).1 (omega arith))

module _ (n c k q t : ℕ) (C : 0 < c) (e : closest (n * 2 ^ 1074) (c * 2 ^ k) ≡ q) (q-lt : q < 2 ^ 53) (k_is : k + t ≡ 924) (t-ge : 28 ≤ t) where
  low_dropped : Dropped 24 (n * 2 ^ 149) c 0
  low_dropped =
      let u = c * 2 ^ k in
      let top : 2 ^ 53 * u ≤ 2 ^ 24 * c * 2 ^ 925 =
      le_trans (le_of_eq (mul_left_comm (2 ^ 53) c (2 ^ k) ∙ ap (λ (x : ℕ). c * x) (sym (pow-add 2 53 k))))
      (le_trans (mul-le-mul_left c (pow_mono {i = 53 + k} {j = 24 + 925} (omega arith)))
      (le_of_eq (ap (λ (x : ℕ). c * x) (pow-add 2 24 925) ∙ sym (mul_assoc c (2 ^ 24) (2 ^ 925)) ∙ ap (λ (x : ℕ). x * 2 ^ 925) (mul_comm c (2 ^ 24))))) in
      let up : q * u + u ≤ 2 ^ 24 * c * 2 ^ 925 = le_trans (le_of_eq (sym (suc-mul q u))) (le_trans (mul-le-mul_right u q-lt) top) in
      let bound : 2 * (n * 2 ^ 1074) ≤ 2 * (q * u) + u = subst (λ (x : ℕ). 2 * (n * 2 ^ 1074) ≤ 2 * (x * u) + u) e (closest_bounds (n * 2 ^ 1074) u (mul-pos C (pow_pos k))).0 in
      (lt_of_mul-lt-mul_right (2 ^ 925) (lt_of_le_of_lt (le_of_eq (sym (unit_is n c 0 C))) (below (n * 2 ^ 1074) (q * u) u (2 ^ 24 * c * 2 ^ 925) bound (mul-pos C (pow_pos k)) up)), inl refl)
    where
      below : (y z w a : ℕ) → 2 * y ≤ 2 * z + w → 0 < w → z + w ≤ a → y < a
      below y z w a h p g = omega arith

  low_kept : (q % (2 * 2 ^ t) ≡ 2 ^ t → ⊥) → closest (n * 2 ^ 149) (c * 2 ^ 0) ≡ (q + 2 ^ t) / (2 * 2 ^ t)
  low_kept m =
      let w = c * 2 ^ k * (2 * 2 ^ t) in
      let all : k + (1 + t) ≡ 925 = omega arith in
      let w_is : w ≡ c * 2 ^ 925 = mul_assoc c (2 ^ k) (2 * 2 ^ t) ∙ ap (λ (x : ℕ). c * x) (ap (λ (x : ℕ). 2 ^ k * x) (sym (pow-add 2 1 t)) ∙ sym (pow-add 2 k (1 + t)) ∙ ap (λ (x : ℕ). 2 ^ x) all) in
      closest_same (n * 2 ^ 149) (c * 2 ^ 0) (n * 2 ^ 1074) w (mul-pos C (pow_pos 0)) (mul-pos (mul-pos C (pow_pos k)) (mul-pos (lit< tt) (pow_pos t)))
      (ap (λ (x : ℕ). n * 2 ^ 149 * x) w_is ∙ mul_left_comm (n * 2 ^ 149) c (2 ^ 925) ∙ ap (λ (x : ℕ). c * x) (sym (unit_is n c 0 C)) ∙ mul_comm c (n * 2 ^ 1074) ∙ ap (λ (x : ℕ). n * 2 ^ 1074 * x) (sym (mul-one c)))
      ∙ narrow_by (n * 2 ^ 1074) (c * 2 ^ k) q (2 ^ t) (mul-pos C (pow_pos k)) (pow_pos t) e m

  low_at : (s : Bool) → (q % (2 * 2 ^ t) ≡ 2 ^ t → ⊥) → rounded (round binary32 s n c) ≡ Some (of_bits binary32 (cond s 0x8000_0000 0 + (q + 2 ^ t) / (2 * 2 ^ t)))
  low_at s m =
      let r = (q + 2 ^ t) / (2 * 2 ^ t) in
      let le : r ≤ 2 ^ 24 = low_le q t q-lt t-ge in
      let top : 0 * 8388608 + r < 2139095040 = omega arith in
      ap rounded
      (round_is binary32 s n c
      ∙ ap (λ (z : ℕ). units binary32 s (closest (n * 2 ^ 149) (c * 2 ^ z)) z) (drop_is 24 (n * 2 ^ 149) c 0 (lit< tt) C low_dropped)
      ∙ ap (λ (z : ℕ). units binary32 s z 0) (low_kept m))
      ∙ has_rounded (units binary32 s r 0) s (r * 2 ^ 0) (2 ^ 149) (units_val binary32 s r 0 (in_range r 0 le (inl refl) top))
      ∙ ap Some (sym (pack_in s r 0 le (inl refl) top) ∙ ap (of_bits binary32) (omega arith))

-- the pattern's field is 925 - t and its significand q; a significand that was rounded up to 2^53 stands there as 2^52, one place higher
pub narrow_low : (s : Bool) (n c b q t : ℕ) → 0 < c → to_bits binary64 (round binary64 s n c) ≡ b → b % 0x8000_0000_0000_0000 / 0x10_0000_0000_0000 + t ≡ 925 → b % 0x8000_0000_0000_0000 % 0x10_0000_0000_0000 + 0x10_0000_0000_0000 ≡ q → 28 ≤ t → t < 900
    → (q % (2 * 2 ^ t) ≡ 2 ^ t → ⊥) → rounded (round binary32 s n c) ≡ Some (of_bits binary32 (b / 0x8000_0000_0000_0000 * 0x8000_0000 + (q + 2 ^ t) / (2 * 2 ^ t)))
narrow_low s n c b q t C e f g lo hi m = go (seen s n c b C e (omega arith))
  where
    signs : (x y r : ℕ) → x ≡ y → Some (of_bits binary32 (y + r)) ≡ Some (of_bits binary32 (x + r))
    signs x y r h = ap (λ (z : ℕ). Some (of_bits binary32 (z + r))) (sym h)

    go : Seen s n c b → rounded (round binary32 s n c) ≡ Some (of_bits binary32 (b / 0x8000_0000_0000_0000 * 0x8000_0000 + (q + 2 ^ t) / (2 * 2 ^ t)))
    go v =
        let i = v.size_is in
        let le = v.le in
        let ge : 2 ^ 52 ≤ v.q = elim v.ge [ inl z ↦ absurd (omega arith) | inr g ↦ g ] in
        elim (side v.q (2 ^ 53)) [
          | inl l ↦
              let q_is : v.q ≡ q = omega arith in
              low_at n c v.k q t C (v.kept ∙ q_is) (omega arith) (omega arith) lo s m
          | inr l ↦
              let q_is : 2 ^ 52 ≡ q = omega arith in
              low_at n c (suc v.k) q t C (twice v.k (v.kept ∙ omega arith) ∙ q_is) (omega arith) (omega arith) lo s m
        ]
        ∙ signs (b / 0x8000_0000_0000_0000 * 0x8000_0000) (cond s 0x8000_0000 0) ((q + 2 ^ t) / (2 * 2 ^ t)) v.sign_is
      where
        twice : (k : ℕ) → closest (n * 2 ^ 1074) (c * 2 ^ k) ≡ 2 ^ 53 → closest (n * 2 ^ 1074) (c * 2 ^ suc k) ≡ 2 ^ 52
        twice k h =
            let next : suc k ≡ k + 1 = omega arith in
            ap (closest (n * 2 ^ 1074)) (ap (λ (x : ℕ). c * 2 ^ x) next ∙ ap (λ (x : ℕ). c * x) (pow-add 2 k 1) ∙ sym (mul_assoc c (2 ^ k) 2)) ∙ narrow_by (n * 2 ^ 1074) (c * 2 ^ k) (2 ^ 53) 1 (mul-pos C (pow_pos k)) (lit< tt) h (λ x. omega arith)

-- ---- the contract of `narrowed`, for each of its answers
pub none : (b : ℕ) → Narrowed b None
none b x e = absurd (let z : ◌≡◌ {A = ℕ} 0 1 = cc in omega arith)

pub some : (b : ℕ) → 0x3810_0000_0000_0000 < b % 0x8000_0000_0000_0000 → b % 0x8000_0000_0000_0000 < 0x47ef_ffff_e000_0000 → (b % 0x8000_0000_0000_0000 % 0x2000_0000 ≡ 0x1000_0000 → ⊥) → Narrowed b (Some (of_bits binary32 (b / 0x8000_0000_0000_0000 * 0x8000_0000 + ((b % 0x8000_0000_0000_0000 + 0x1000_0000) / 0x2000_0000 - 0x1_c000_0000))))
some b lo hi m x e = (lt_of_lt_of_le hi (lit≤ tt), λ s n c C f. narrow_round s n c b C f lo hi m)

pub zeros : (b : ℕ) → b % 0x8000_0000_0000_0000 ≡ 0 → Narrowed b (Some (of_bits binary32 (b / 0x8000_0000_0000_0000 * 0x8000_0000)))
zeros b z x e = (omega arith, λ s n c C f. narrow_zero s n c b C f z)

pub lows : (b q t : ℕ) → b % 0x8000_0000_0000_0000 / 0x10_0000_0000_0000 + t ≡ 925 → b % 0x8000_0000_0000_0000 % 0x10_0000_0000_0000 + 0x10_0000_0000_0000 ≡ q → 28 ≤ t → t < 900
    → (q % (2 * 2 ^ t) ≡ 2 ^ t → ⊥) → Narrowed b (Some (of_bits binary32 (b / 0x8000_0000_0000_0000 * 0x8000_0000 + (q + 2 ^ t) / (2 * 2 ^ t))))
lows b q t f g lo hi m x e = (omega arith, λ s n c C h. narrow_low s n c b q t C h f g lo hi m)
