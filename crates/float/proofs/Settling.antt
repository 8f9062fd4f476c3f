-- The sum that `quick_sum` calls settled is the fused one. And what its casts ask: a sum of finite f32 is no NaN in f64.
use Rattle.std.specs.Prelude.{Some}
use Rattle.std.proofs.Common.{◌≡◌, ℕ, zero, suc, ◌+◌, ◌-◌, ◌*◌, ◌/◌, ◌%◌, ◌^◌, ◌<◌, ◌≤◌, Bool, true, false, cond, not, ◌&&◌, ◌||◌, T, eqb, ltb, sym, refl, ap, ◌∙◌, subst, ap₂, inl, inr, true≢false, add-zero, arith, ltb-true, eqb-true}
use lib.Ieee.{Float, nan, inf, fin, binary32, binary64, is_nan, unlike, up, down, odd, units, round, fits, to_bits, of_bits}
use lib.Ieee.Fits.{and_i, fits_widens, round_is}
use lib.Ieee.Scale.{finite}
use borrow.Author.Tests.{eqb-false}
use Rattle.float.specs.Fused.{fused_of}
use Rattle.float.specs.Inside.{mag_of, neg_of}
use Rattle.float.specs.Settled.{normal_size, cut_of, up_of, evened_of, exact_of, settled_by, quick_of}
use Rattle.lists.proofs.Tests.{both}
use Rattle.float.proofs.Sticky.{side}
use Rattle.float.proofs.Decode.{decoded}
use Rattle.float.proofs.Align.{sum_is}
use Rattle.float.proofs.Twice.{some, zeros}
use Rattle.float.proofs.Wide.{Wide, wide_is, narrow_fused}
use Rattle.float.proofs.Ties.{tie_fused}

-- ---- what the casts ask
pub number : (x : Float) → T (finite x) → T (not (is_nan x))
unfolding is_nan
number nan h = absurd h
number (inf s) h = absurd h
number (fin s m e) h = tt

pub casts : (x : Float) → T (fits binary32 x) → T (finite x) → T (fits binary64 x && not (is_nan x))
casts x t h = and_i (fits binary64 x) (not (is_nan x)) (fits_widens x t) (number x h)

odd_number : (d : ℕ) (s : Bool) (q k l : ℕ) → T (not (is_nan (odd d s q k l)))
unfolding odd is_nan
odd_number d s zero k l = tt
odd_number d s (suc q) k l = tt

inf_number : (s : Bool) → T (not (is_nan (inf s)))
unfolding is_nan
inf_number s = tt

units_number : (s : Bool) (q k : ℕ) → T (not (is_nan (units binary64 s q k)))
unfolding units
units_number s q k = go (ltb (q * 2 ^ k) (2 ^ 2098)) (odd 54 s q k 1074) (odd_number 54 s q k 1074)
  where
    go : (b : Bool) (v : Float) → T (not (is_nan v)) → T (not (is_nan (cond b v (inf s))))
    go true v h = h
    go false v h = inf_number s

round_number : (s : Bool) (n c : ℕ) → T (not (is_nan (round binary64 s n c)))
round_number s n c = subst (λ (v : Float). T (not (is_nan v))) (sym (round_is binary64 s n c)) (units_number s _ _)

pub wide_number : (a b c : Float) → T (fits binary32 a) → T (fits binary32 b) → T (finite a) × T (finite b) × T (finite c) → T (not (is_nan (Wide a b c)))
wide_number nan b c p q f = absurd f.0
wide_number (inf s) b c p q f = absurd f.0
wide_number (fin s m i) nan c p q f = absurd f.1
wide_number (fin s m i) (inf t) c p q f = absurd f.1
wide_number (fin s m i) (fin t n j) nan p q f = absurd f.2
wide_number (fin s m i) (fin t n j) (inf u) p q f = absurd f.2
wide_number (fin s m i) (fin t n j) (fin u l k) p q f =
    let a = m * up i * (n * up j) * down k in
    let b = l * up k * (down i * down j) in
    let c = down i * down j * down k in
    let w = unlike s t in
    subst (λ (v : Float). T (not (is_nan v)))
    (sym (wide_is s m i t n j u l k (to_bits binary32 (fin s m i)) (to_bits binary32 (fin t n j)) (decoded (fin s m i) p) (decoded (fin t n j) q) ∙ sum_is binary64 w a u b c))
    (round_number (neg_of w a u b) (mag_of w a u b) c)

-- ---- what `evened` works out stays below an infinity
pub normal_says : (n : ℕ) → normal_size n ≡ true → (0x3810_0000 < n) × (n < 0x47ef_ffff)
unfolding normal_size
normal_says n h = let t = both (ltb 0x3810_0000 n) (ltb n 0x47ef_ffff) h in (ltb-true 0x3810_0000 n t.0, ltb-true n 0x47ef_ffff t.1)

pub up_le : (m low : ℕ) → (low % 0x2000_0000 + 0x0fff_ffff + m % 2) / 0x2000_0000 ≤ 1
up_le m low = omega arith

-- ---- the halves of a pattern, and the pattern
module _ (w : ℕ) where
  abbrev high : ℕ
  high = w / 0x1_0000_0000

  abbrev low : ℕ
  low = w % 0x1_0000_0000

  abbrev size : ℕ
  size = high % 0x8000_0000

  sign_is : w / 0x8000_0000_0000_0000 * 0x8000_0000 ≡ high / 0x8000_0000 * 0x8000_0000
  sign_is = omega arith

  size_is : w % 0x8000_0000_0000_0000 ≡ size * 0x1_0000_0000 + low
  size_is = omega arith

-- the digits that f32 keeps, m, and those that it cuts off
kept_is : (n size low : ℕ) → n ≡ size * 0x1_0000_0000 + low → 0x3800_0000 ≤ size → n / 0x2000_0000 ≡ (size - 0x3800_0000) * 8 + low / 0x2000_0000 + 0x1_c000_0000
kept_is n size low e h = omega arith

rest_is : (n size low : ℕ) → n ≡ size * 0x1_0000_0000 + low → n % 0x2000_0000 ≡ low % 0x2000_0000
rest_is n size low e = omega arith

bound_low : (n size low : ℕ) → n ≡ size * 0x1_0000_0000 + low → 0x3810_0000 < size → 0x3810_0000_0000_0000 < n
bound_low n size low e h = omega arith

bound_high : (n size low : ℕ) → n ≡ size * 0x1_0000_0000 + low → size < 0x47ef_ffff → low < 0x1_0000_0000 → n < 0x47ef_ffff_e000_0000
bound_high n size low e h l = omega arith

-- rounded in halves, and as `narrow_round` and `tie_round` have it
below_half_lem : (r b : ℕ) → r < 0x1000_0000 → b < 2 → (r + 0x0fff_ffff + b) / 0x2000_0000 ≡ 0
below_half_lem r b h l = omega arith

above_half : (r b : ℕ) → 0x1000_0000 < r → r < 0x2000_0000 → b < 2 → (r + 0x0fff_ffff + b) / 0x2000_0000 ≡ 1
above_half r b h u l = omega arith

half : (r b : ℕ) → r ≡ 0x1000_0000 → b < 2 → (r + 0x0fff_ffff + b) / 0x2000_0000 ≡ b
half r b e l = omega arith

up_is : (n m r : ℕ) → n / 0x2000_0000 ≡ m + 0x1_c000_0000 → n % 0x2000_0000 ≡ r → (r ≡ 0x1000_0000 → ⊥) → (n + 0x1000_0000) / 0x2000_0000 - 0x1_c000_0000 ≡ m + (r + 0x0fff_ffff + m % 2) / 0x2000_0000
up_is n m r e d h = elim (side r 0x1000_0000) [
  | inl l ↦ down (n / 0x2000_0000) ((n + 0x1000_0000) / 0x2000_0000) e (omega arith) (below_half_lem r (m % 2) l (omega arith))
  | inr l ↦ up (n / 0x2000_0000) ((n + 0x1000_0000) / 0x2000_0000) e (omega arith) (above_half r (m % 2) (strict l) (omega arith) (omega arith))
]
  where
    strict : 0x1000_0000 ≤ r → 0x1000_0000 < r
    strict l = elim (side 0x1000_0000 r) [ inl g ↦ g | inr g ↦ absurd (h (omega arith)) ]

    down : (k j : ℕ) {u : ℕ} → k ≡ m + 0x1_c000_0000 → j ≡ k → u ≡ 0 → j - 0x1_c000_0000 ≡ m + u
    down k j {u} e f g = omega arith

    up : (k j : ℕ) {u : ℕ} → k ≡ m + 0x1_c000_0000 → j ≡ k + 1 → u ≡ 1 → j - 0x1_c000_0000 ≡ m + u
    up k j {u} e f g = omega arith

even_is : (n m r : ℕ) → n / 0x2000_0000 ≡ m + 0x1_c000_0000 → r ≡ 0x1000_0000 → n / 0x2000_0000 + n / 0x2000_0000 % 2 - 0x1_c000_0000 ≡ m + (r + 0x0fff_ffff + m % 2) / 0x2000_0000
even_is n m r e h = go (n / 0x2000_0000) e (half r (m % 2) h (omega arith))
  where
    go : (k : ℕ) {u : ℕ} → k ≡ m + 0x1_c000_0000 → u ≡ m % 2 → k + k % 2 - 0x1_c000_0000 ≡ m + u
    go k {u} e f = omega arith

-- ---- the three ways to be settled: zero, in no middle, exactly in one
pub quick_fused : (a b c : Float) → T (fits binary32 a) → T (fits binary32 b) → T (fits binary32 c) → T (finite a) × T (finite b) × T (finite c) → (quick_of a b c).settled ≡ true → Some (quick_of a b c).sum ≡ fused_of a b c
unfolding quick_of settled_by evened_of cut_of up_of
quick_fused a b c p q o f t = go (eqb (size w) 0 && eqb (low w) 0) refl (normal_size (size w)) refl (eqb (low w % 0x2000_0000) 0x1000_0000) refl t
  where
    w : ℕ
    w = to_bits binary64 (Wide a b c)

    n : ℕ
    n = w % 0x8000_0000_0000_0000

    m : ℕ
    m = (size w - 0x3800_0000) * 8 + low w / 0x2000_0000

    nothing : eqb (size w) 0 && eqb (low w) 0 ≡ true → n ≡ 0
    nothing h = let l = eqb-true (size w) 0 (both (eqb (size w) 0) (eqb (low w) 0) h).0 in let r = eqb-true (low w) 0 (both (eqb (size w) 0) (eqb (low w) 0) h).1 in size_is w ∙ ap₂ (λ (x y : ℕ). x * 0x1_0000_0000 + y) l r

    result : ℕ → Float
    result v = of_bits binary32 (w / 0x8000_0000_0000_0000 * 0x8000_0000 + v)

    same : (v u : ℕ) → v ≡ u → Some (of_bits binary32 (high w / 0x8000_0000 * 0x8000_0000 + u)) ≡ Some (result v)
    same v u e = ap₂ (λ (x y : ℕ). Some (of_bits binary32 (x + y))) (sym (sign_is w)) (sym e)

    go : (z : Bool) → eqb (size w) 0 && eqb (low w) 0 ≡ z → (l : Bool) → normal_size (size w) ≡ l → (k : Bool) → eqb (low w % 0x2000_0000) 0x1000_0000 ≡ k
        → z || (l && (not k || exact_of (to_bits binary32 a) (to_bits binary32 b) (to_bits binary32 c))) ≡ true
        → Some (of_bits binary32 (high w / 0x8000_0000 * 0x8000_0000 + cond l (m + (low w % 0x2000_0000 + 0x0fff_ffff + m % 2) / 0x2000_0000) 0)) ≡ fused_of a b c
    go true e true d k g t = absurd (let x = nothing e in let y = (normal_says (size w) d).0 in let s = size_is w in omega arith)
    go true e false d k g t =
        same 0 0 refl
        ∙ ap (λ (v : ℕ). Some (of_bits binary32 v)) (add-zero (w / 0x8000_0000_0000_0000 * 0x8000_0000))
        ∙ narrow_fused a b c w (Some (of_bits binary32 (w / 0x8000_0000_0000_0000 * 0x8000_0000))) (of_bits binary32 (w / 0x8000_0000_0000_0000 * 0x8000_0000)) p q (inr refl) (zeros w (nothing e)) refl
    go false e true d false g t =
        let h = eqb-false (low w % 0x2000_0000) 0x1000_0000 g in
        let s = normal_says (size w) d in
        let r = rest_is n (size w) (low w) (size_is w) in
        let v = (n + 0x1000_0000) / 0x2000_0000 - 0x1_c000_0000 in
        same v (m + (low w % 0x2000_0000 + 0x0fff_ffff + m % 2) / 0x2000_0000) (up_is n m (low w % 0x2000_0000) (kept_is n (size w) (low w) (size_is w) (omega (arith, s.0))) r h)
        ∙ narrow_fused a b c w (Some (result v)) (result v) p q (inr refl) (some w (bound_low n (size w) (low w) (size_is w) s.0) (bound_high n (size w) (low w) (size_is w) s.1 (omega arith)) (λ x. h (sym r ∙ x))) refl
    go false e true d true g t =
        let h = eqb-true (low w % 0x2000_0000) 0x1000_0000 g in
        let s = normal_says (size w) d in
        let r = rest_is n (size w) (low w) (size_is w) in
        let v = n / 0x2000_0000 + n / 0x2000_0000 % 2 - 0x1_c000_0000 in
        same v (m + (low w % 0x2000_0000 + 0x0fff_ffff + m % 2) / 0x2000_0000) (even_is n m (low w % 0x2000_0000) (kept_is n (size w) (low w) (size_is w) (omega (arith, s.0))) h)
        ∙ sym (tie_fused a b c p q o (f.0, f.1) f.2 t w refl (bound_low n (size w) (low w) (size_is w) s.0) (bound_high n (size w) (low w) (size_is w) s.1 (omega arith)) (r ∙ h))
    go false e false d k g t = absurd (true≢false (sym t))
