-- A sum that is itself in the middle of two neighbouring f32 goes to the even one. Its f64 shows it, where nothing was lost there: where the product and the addend
-- stand so near to each other that their exact sum has at most 53 digits.
use Rattle.std.specs.Prelude.{Some}
use Rattle.std.proofs.Common.{◌≡◌, ℕ, ◌+◌, ◌-◌, ◌*◌, ◌/◌, ◌%◌, ◌^◌, ◌<◌, ◌≤◌, Bool, true, false, cond, ◌&&◌, ◌||◌, T, eqb, ltb, leb, sym, refl, ap, ◌∙◌, subst, ap₂, inl, inr, true≢false, le_refl, lt_of_lt_of_le, lt_of_le_of_lt, mul_assoc, mul_comm, mul-pos, zero-mul, mul-one, le_of_mul-le-mul_right, arith, lit≤, pow_pos, pow_mono, pow-add, shl_lt, eqb-true, leb-true}
use mathlib.Core.Bool.{beq}
use lib.Ieee.{Float, nan, inf, fin, Format, binary32, binary64, unlike, up, down, round, sum, fits, to_bits, of_bits}
use lib.Ieee.Nearest.{closest, closest_same}
use lib.Ieee.Scale.{finite}
use Rattle.float.specs.Finite.{rounded}
use Rattle.float.specs.Fused.{fused_of}
use Rattle.float.specs.Inside.{field_of, significand_at, M, Q, mag_of, neg_of}
use Rattle.float.specs.Settled.{exact_of}
use Rattle.float.proofs.Sticky.{side, nearest_eq, closest_down, pow_lt_back, Dropped}
use Rattle.float.proofs.Decode.{decoded, significand_lt}
use Rattle.float.proofs.Align.{exact}
use Rattle.float.proofs.Exact.{parts_sum}
use Rattle.float.proofs.Fuse.{mul_small}
use Rattle.float.proofs.Twice.{Seen, seen, narrow_at}
use Rattle.float.proofs.Wide.{Wide, wide_is}

-- ---- q units exactly, and q in the middle of two multiples of 2^29: the even one
tie_closest : (n u q : ℕ) → 0 < u → n ≡ q * u → q % 0x2000_0000 ≡ 0x1000_0000 → closest n (u * 0x2000_0000) ≡ q / 0x2000_0000 + q / 0x2000_0000 % 2
tie_closest n u q U e m =
    closest_same n (u * 0x2000_0000) q 0x2000_0000 (mul-pos U (pow_pos 29)) (pow_pos 29) (ap (λ (x : ℕ). x * 0x2000_0000) e ∙ mul_assoc q u 0x2000_0000)
    ∙ nearest_eq (q / 0x2000_0000) (q % 0x2000_0000 * 2) 0x2000_0000 (omega arith)

-- ---- a number of at most 53 digits loses nothing in f64: what is dropped are zeros
module _ (n c w j k : ℕ) (C : 0 < c) (small : w < 2 ^ 53) (n_is : n ≡ w * 2 ^ j * c) (d : Dropped 53 n c k) where
  none_dropped : k ≤ j
  none_dropped = elim d.1 [
    | inl z ↦ omega arith
    | inr g ↦
        let l : 2 ^ (52 + k) ≤ w * 2 ^ j = le_of_mul-le-mul_right (subst (λ (x : ℕ). 2 ^ (52 + k) * c ≤ x) n_is g) C in
        let h : 52 + k < 53 + j = pow_lt_back (52 + k) (53 + j) (lt_of_le_of_lt l (shl_lt 53 j small)) in
        omega arith
  ]

  all_kept : n ≡ closest n (c * 2 ^ k) * (c * 2 ^ k)
  all_kept =
      let u = c * 2 ^ k in
      let r = w * 2 ^ (j - k) in
      let U : 0 < u = mul-pos C (pow_pos k) in
      let j_is : 2 ^ j ≡ 2 ^ (j - k) * 2 ^ k = ap (λ (x : ℕ). 2 ^ x) (back j k none_dropped) ∙ pow-add 2 (j - k) k in
      let is : n ≡ r * u = n_is ∙ ap (λ (x : ℕ). w * x * c) j_is ∙ ap (λ (x : ℕ). x * c) (sym (mul_assoc w (2 ^ (j - k)) (2 ^ k))) ∙ mul_assoc r (2 ^ k) c ∙ ap (λ (x : ℕ). r * x) (mul_comm (2 ^ k) c) in
      is ∙ ap (λ (x : ℕ). x * u) (sym (ap (λ (x : ℕ). closest x u) is ∙ itself r u U))
    where
      back : (j k : ℕ) → k ≤ j → j ≡ j - k + k
      back j k h = omega arith

      itself : (r u : ℕ) → 0 < u → closest (r * u) u ≡ r
      itself r u U = closest_down (r * u) u r U (le_refl (r * u)) (omega arith)

-- ---- the f32 of an exact middle
pub tie_round : (s : Bool) (w e b : ℕ) → w < 2 ^ 53 → to_bits binary64 (round binary64 s (w * 2 ^ e) (2 ^ 314)) ≡ b
    → 0x3810_0000_0000_0000 < b % 0x8000_0000_0000_0000 → b % 0x8000_0000_0000_0000 < 0x47ef_ffff_e000_0000 → b % 0x8000_0000_0000_0000 % 0x2000_0000 ≡ 0x1000_0000
    → rounded (round binary32 s (w * 2 ^ e) (2 ^ 314)) ≡ Some (of_bits binary32 (b / 0x8000_0000_0000_0000 * 0x8000_0000 + (b % 0x8000_0000_0000_0000 / 0x2000_0000 + b % 0x8000_0000_0000_0000 / 0x2000_0000 % 2 - 0x1_c000_0000)))
tie_round s w e b small f lo hi m = go (seen s (w * 2 ^ e) (2 ^ 314) b (pow_pos 314) f (lt_of_lt_of_le hi (lit≤ tt)))
  where
    n_is : w * 2 ^ e * 2 ^ 1074 ≡ w * 2 ^ (e + 760) * 2 ^ 314
    n_is = mul_assoc w (2 ^ e) (2 ^ 1074) ∙ ap (λ (x : ℕ). w * x) (sym (pow-add 2 e 1074) ∙ ap (λ (x : ℕ). 2 ^ x) (omega arith) ∙ pow-add 2 (e + 760) 314) ∙ sym (mul_assoc w (2 ^ (e + 760)) (2 ^ 314))

    go : Seen s (w * 2 ^ e) (2 ^ 314) b → rounded (round binary32 s (w * 2 ^ e) (2 ^ 314)) ≡ Some (of_bits binary32 (b / 0x8000_0000_0000_0000 * 0x8000_0000 + (b % 0x8000_0000_0000_0000 / 0x2000_0000 + b % 0x8000_0000_0000_0000 / 0x2000_0000 % 2 - 0x1_c000_0000)))
    go v =
        let n = w * 2 ^ e * 2 ^ 1074 in
        let u = 2 ^ 314 * 2 ^ v.k in
        let j = v.k - 896 in
        let r = v.q / 0x2000_0000 + v.q / 0x2000_0000 % 2 in
        let ge : 2 ^ 52 ≤ v.q = elim v.ge [ inl z ↦ absurd (omega arith) | inr g ↦ g ] in
        let q_is : n ≡ v.q * u = all_kept n (2 ^ 314) w (e + 760) v.k (pow_pos 314) small n_is v.dropped ∙ ap (λ (x : ℕ). x * u) v.kept in
        narrow_at s (w * 2 ^ e) (2 ^ 314) v.k j r (pow_pos 314) v.dropped (omega arith) (tie_closest n u v.q (mul-pos (pow_pos 314) (pow_pos v.k)) q_is (omega arith)) (omega arith) (omega arith) (omega arith)
        ∙ ap (λ (x : ℕ). Some (of_bits binary32 x)) (ap₂ (λ (x y : ℕ). x + y) (sym v.sign_is) (omega arith))

-- ---- a and b are whole numbers of one unit, and not more than 53 digits together
abbrev Near : ℕ → ℕ → Type 0
Near a b = (x : ℕ) × (y : ℕ) × (e : ℕ) × (a ≡ x * 2 ^ e) × (b ≡ y * 2 ^ e) × (x + y < 2 ^ 53)

shift : (m i j : ℕ) → j ≤ i → m * 2 ^ i ≡ m * 2 ^ (i - j) * 2 ^ j
shift m i j h = ap (λ (x : ℕ). m * x) (ap (λ (x : ℕ). 2 ^ x) (back i j h) ∙ pow-add 2 (i - j) j) ∙ sym (mul_assoc m (2 ^ (i - j)) (2 ^ j))
  where
    back : (i j : ℕ) → j ≤ i → i ≡ i - j + j
    back i j h = omega arith

-- p of 48 digits at the place i, and m of 24 at the place j, which stands at most 4 below and at most 28 above it
near : (p m i j : ℕ) → p < 2 ^ 48 → m < 2 ^ 24 → i ≤ j + 4 → j ≤ i + 28 → Near (p * 2 ^ i) (m * 2 ^ j)
near p m i j P M lo hi = elim (side j i) [
  | inl l ↦
      let d = i - j in
      let h : p * 2 ^ d < 2 ^ 52 = lt_of_lt_of_le (shl_lt 48 d P) (pow_mono {i = 48 + d} {j = 52} (omega arith)) in
      (p * 2 ^ d, m, j, shift p i j (omega arith), refl, sums (p * 2 ^ d) m h M)
  | inr l ↦
      let d = j - i in
      let h : m * 2 ^ d < 2 ^ 52 = lt_of_lt_of_le (shl_lt 24 d M) (pow_mono {i = 24 + d} {j = 52} (omega arith)) in
      (p, m * 2 ^ d, i, refl, shift m j i l, sums' p (m * 2 ^ d) P h)
]
  where
    sums : (x y : ℕ) → x < 2 ^ 52 → y < 2 ^ 24 → x + y < 2 ^ 53
    sums x y h g = omega arith

    sums' : (x y : ℕ) → x < 2 ^ 48 → y < 2 ^ 52 → x + y < 2 ^ 53
    sums' x y h g = omega arith

-- by the code's test of the three patterns; an addend that is zero stands anywhere
near_of : (x y z : ℕ) → exact_of x y z ≡ true → Near (M x * M y * 2 ^ (Q x + Q y + 14)) (M z * 2 ^ (Q z + 164))
unfolding exact_of
near_of x y z h = go (eqb (z % 0x8000_0000) 0) refl (leb (Q x + Q y) (Q z + 154)) refl (leb (Q z + 122) (Q x + Q y)) refl h
  where
    small : M x * M y < 2 ^ 48
    small = mul_small (M x) (M y) (significand_lt x) (significand_lt y)

    nothing : z % 0x8000_0000 ≡ 0 → M z ≡ 0
    nothing e =
        let f : field_of z ≡ 0 = omega arith in
        let t : z % 8388608 ≡ 0 = omega arith in
        ap₂ significand_at f t

    sums : (p : ℕ) → p < 2 ^ 48 → p + 0 < 2 ^ 53
    sums p h = omega arith

    go : (a : Bool) → eqb (z % 0x8000_0000) 0 ≡ a → (b : Bool) → leb (Q x + Q y) (Q z + 154) ≡ b → (c : Bool) → leb (Q z + 122) (Q x + Q y) ≡ c → a || (b && c) ≡ true → Near (M x * M y * 2 ^ (Q x + Q y + 14)) (M z * 2 ^ (Q z + 164))
    go true e b f c g h = (M x * M y, 0, Q x + Q y + 14, refl, rw (nothing (eqb-true (z % 0x8000_0000) 0 e), zero-mul (2 ^ (Q z + 164)), zero-mul (2 ^ (Q x + Q y + 14))), sums (M x * M y) small)
    go false e true f true g h = near (M x * M y) (M z) (Q x + Q y + 14) (Q z + 164) small (significand_lt z) (let l = leb-true (Q x + Q y) (Q z + 154) f in omega arith) (let l = leb-true (Q z + 122) (Q x + Q y) g in omega arith)
    go false e true f false g h = absurd (true≢false (sym h))
    go false e false f c g h = absurd (true≢false (sym h))

mag_le : (s : Bool) (x : ℕ) (t : Bool) (y : ℕ) → mag_of s x t y ≤ x + y
mag_le s x t y = go (beq s t) (ltb x y)
  where
    go : (b c : Bool) → cond b (x + y) (cond c (y - x) (x - y)) ≤ x + y
    go true c = omega arith
    go false true = omega arith
    go false false = omega arith

-- such a sum, in either format
near_sum : (f : Format) (s t : Bool) (a b : ℕ) (n : Near a b) → sum f s a t b (2 ^ 314) ≡ round f (neg_of s n.0 t n.1) (mag_of s n.0 t n.1 * 2 ^ n.2) (2 ^ 314)
near_sum f s t a b (x, y, e, p, q, h) =
    ap₂ (λ (u v : ℕ). sum f s u t v (2 ^ 314)) p q
    ∙ subst (λ (i : ℕ). sum f s (x * 2 ^ i) t (y * 2 ^ e) (2 ^ 314) ≡ round f (neg_of s x t y) (mag_of s x t y * 2 ^ i) (2 ^ 314)) (none e) (exact f 314 x y y 0 e s t (sym (mul-one y)))
  where
    none : (e : ℕ) → 0 + e ≡ e
    none e = omega arith

-- ---- the f32 that the pattern of an exact middle gives is the fused result
pub tie_fused : (a b c : Float) → T (fits binary32 a) → T (fits binary32 b) → T (fits binary32 c) → T (finite a) × T (finite b) → T (finite c)
    → exact_of (to_bits binary32 a) (to_bits binary32 b) (to_bits binary32 c) ≡ true → (w : ℕ) → to_bits binary64 (Wide a b c) ≡ w
    → 0x3810_0000_0000_0000 < w % 0x8000_0000_0000_0000 → w % 0x8000_0000_0000_0000 < 0x47ef_ffff_e000_0000 → w % 0x8000_0000_0000_0000 % 0x2000_0000 ≡ 0x1000_0000
    → fused_of a b c ≡ Some (of_bits binary32 (w / 0x8000_0000_0000_0000 * 0x8000_0000 + (w % 0x8000_0000_0000_0000 / 0x2000_0000 + w % 0x8000_0000_0000_0000 / 0x2000_0000 % 2 - 0x1_c000_0000)))
unfolding fused_of
tie_fused nan b c p q o f g k w e lo hi on = absurd f.0
tie_fused (inf s) b c p q o f g k w e lo hi on = absurd f.0
tie_fused (fin s m i) nan c p q o f g k w e lo hi on = absurd f.1
tie_fused (fin s m i) (inf t) c p q o f g k w e lo hi on = absurd f.1
tie_fused (fin s m i) (fin t n j) nan p q o f g k w e lo hi on = absurd g
tie_fused (fin s m i) (fin t n j) (inf u) p q o f g k w e lo hi on = absurd g
tie_fused (fin s m i) (fin t n j) (fin u l v) p q o f g k w e lo hi on =
    let a = to_bits binary32 (fin s m i) in
    let b = to_bits binary32 (fin t n j) in
    let c = to_bits binary32 (fin u l v) in
    let r = unlike s t in
    let y = M a * M b * 2 ^ (Q a + Q b + 14) in
    let z = M c * 2 ^ (Q c + 164) in
    let h = near_of a b c k in
    let da = decoded (fin s m i) p in
    let db = decoded (fin t n j) q in
    let same : (f : Format) → sum f r (m * up i * (n * up j) * down v) u (l * up v * (down i * down j)) (down i * down j * down v) ≡ round f (neg_of r h.0 u h.1) (mag_of r h.0 u h.1 * 2 ^ h.2) (2 ^ 314)
    = λ f. parts_sum f r u s m i t n j u l v a b c da db (decoded (fin u l v) o) ∙ near_sum f r u y z h in
    ap rounded (same binary32)
    ∙ tie_round (neg_of r h.0 u h.1) (mag_of r h.0 u h.1) h.2 w (lt_of_le_of_lt (mag_le r h.0 u h.1) h.5)
    (ap (to_bits binary64) (sym (wide_is s m i t n j u l v a b da db ∙ same binary64)) ∙ e) lo hi on
