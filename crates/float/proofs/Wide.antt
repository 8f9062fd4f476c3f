-- a * b + c in f64: a finite result has finite operands, and then the product is exact, so that the sum is the exact one, rounded once to f64.
use Rattle.std.specs.Prelude.{Option, Some}
use Rattle.std.proofs.Common.{◌≡◌, ℕ, ◌+◌, ◌*◌, ◌%◌, ◌^◌, ◌<◌, Bool, true, false, cond, T, eqb, ◌⊎◌, ℤ, sym, ap, ◌∙◌, subst, ap₂, inl, inr, lt_of_lt_of_le, mul_assoc, mul_comm, mul-pos, mul_left_comm, arith, lit≤, pow_mono, shl_lt}
use mathlib.Core.Bool.{beq}
use lib.Ieee.{Float, nan, inf, fin, Format, binary32, binary64, unlike, up, down, round, sum, add, mul, fits, to_bits}
use lib.Ieee.Fits.{down_pos}
use lib.Ieee.Exact.{HasValue, round_exact}
use lib.Ieee.Scale.{finite}
use Rattle.float.specs.Finite.{rounded}
use Rattle.float.specs.Fused.{fused_of}
use Rattle.float.specs.Inside.{M, Q, mag_of, neg_of, Narrowed}
use Rattle.float.proofs.Decode.{Decoded, decoded, significand_lt, place_lt}
use Rattle.float.proofs.Align.{sum_is, sum_same}
use Rattle.float.proofs.Exact.{product_of}
use Rattle.float.proofs.Fuse.{mul_small}

-- ---- a finite result has finite operands
neither : (b s : Bool) → T (finite (cond b nan (inf s))) → ⊥
neither true s h = h
neither false s h = h

pub mul_finite : (f : Format) (x y : Float) → T (finite (mul f x y)) → T (finite x) × T (finite y)
unfolding mul
mul_finite f nan y h = absurd h
mul_finite f (inf s) nan h = absurd h
mul_finite f (inf s) (inf t) h = absurd h
mul_finite f (inf s) (fin t n d) h = absurd (neither (eqb n 0) (unlike s t) h)
mul_finite f (fin s m e) nan h = absurd h
mul_finite f (fin s m e) (inf t) h = absurd (neither (eqb m 0) (unlike s t) h)
mul_finite f (fin s m e) (fin t n d) h = (tt, tt)

pub add_finite : (f : Format) (x y : Float) → T (finite (add f x y)) → T (finite x) × T (finite y)
unfolding add
add_finite f nan y h = absurd h
add_finite f (inf s) nan h = absurd h
add_finite f (inf s) (inf t) h = absurd (no (beq s t) h)
  where
    no : (b : Bool) → T (finite (cond b (inf s) nan)) → ⊥
    no true h = h
    no false h = h
add_finite f (inf s) (fin t n d) h = absurd h
add_finite f (fin s m e) nan h = absurd h
add_finite f (fin s m e) (inf t) h = absurd h
add_finite f (fin s m e) (fin t n d) h = (tt, tt)

-- by the pattern
pub bits_finite : (v : Float) → to_bits binary64 v % 0x8000_0000_0000_0000 < 0x7ff0_0000_0000_0000 → T (finite v)
unfolding to_bits
bits_finite nan h = absurd (omega arith)
bits_finite (inf true) h = absurd (omega arith)
bits_finite (inf false) h = absurd (omega arith)
bits_finite (fin s m e) h = tt

-- ---- the product: 48 digits at most, and a place that f64 has
cross : (a b h k x y d e : ℕ) → a * h ≡ x * d → b * h ≡ y * e → a * b * (h * h * k) ≡ x * y * k * (d * e)
cross a b h k x y d e p q =
    let l : a * b * (h * h * k) ≡ a * h * (b * h * k) = simp (mul_assoc, mul_left_comm) in
    let r : x * d * (y * e * k) ≡ x * y * k * (d * e) = simp (mul_assoc, mul_comm, mul_left_comm) in
    l ∙ ap₂ (λ (u v : ℕ). u * (v * k)) p q ∙ r

product_exact : (a d b e x y : ℕ) (r : Bool) → 0 < d → 0 < e → a * 2 ^ 150 ≡ M x * 2 ^ Q x * d → b * 2 ^ 150 ≡ M y * 2 ^ Q y * e → HasValue (round binary64 r (a * b) (d * e)) r (a * b) (d * e)
product_exact a d b e x y r D E p q =
    let i = Q x + Q y + 774 in
    let near : 48 + i < 2098 = omega (arith, place_lt x, place_lt y) in
    let small : M x * M y < 2 ^ 48 = mul_small (M x) (M y) (significand_lt x) (significand_lt y) in
    round_exact binary64 r (a * b) (d * e) (M x * M y) i (mul-pos D E) (lt_of_lt_of_le small (lit≤ tt))
    (lt_of_lt_of_le (shl_lt 48 i small) (pow_mono {i = 48 + i} {j = 2098} (omega arith)))
    (cross a b (2 ^ 150) (2 ^ 774) (M x * 2 ^ Q x) (M y * 2 ^ Q y) d e p q ∙ ap (λ (z : ℕ). z * (d * e)) (product_of (M x) (M y) (Q x) (Q y) 774))

-- ---- the sum of an exact product and an addend
add_exact : (v : Float) (r : Bool) (a c : ℕ) (u : Bool) (l : ℕ) (g : ℤ) → 0 < c → HasValue v r a c → add binary64 v (fin u l g) ≡ sum binary64 r (a * down g) u (l * up g * c) (c * down g)
unfolding add
add_exact nan r a c u l g C h = absurd h
add_exact (inf t) r a c u l g C h = absurd h
add_exact (fin t m e) r a c u l g C h =
    ap (λ (s : Bool). sum binary64 s (m * up e * down g) u (l * up g * down e) (down e * down g)) h.0
    ∙ sum_same binary64 r (m * up e * down g) u (l * up g * down e) (down e * down g) (a * down g) (l * up g * c) (c * down g) (mul-pos (down_pos e) (down_pos g)) (mul-pos C (down_pos g))
    (first (m * up e) (down g) c a (down e) h.1) (second (l * up g) (down e) c (down g))
  where
    first : (x g c a e : ℕ) → x * c ≡ a * e → x * g * (c * g) ≡ a * g * (e * g)
    first x g c a e p =
        let k : x * g * (c * g) ≡ x * c * (g * g) = simp (mul_assoc, mul_comm, mul_left_comm) in
        let j : a * e * (g * g) ≡ a * g * (e * g) = simp (mul_assoc, mul_comm, mul_left_comm) in
        k ∙ ap (λ (z : ℕ). z * (g * g)) p ∙ j

    second : (y e c g : ℕ) → y * e * (c * g) ≡ y * c * (e * g)
    second y e c g = simp (mul_assoc, mul_left_comm)

pub wide_is : (s : Bool) (m : ℕ) (e : ℤ) (t : Bool) (n : ℕ) (d : ℤ) (u : Bool) (l : ℕ) (g : ℤ) (x y : ℕ) → Decoded (fin s m e) x → Decoded (fin t n d) y
    → add binary64 (mul binary64 (fin s m e) (fin t n d)) (fin u l g) ≡ sum binary64 (unlike s t) (m * up e * (n * up d) * down g) u (l * up g * (down e * down d)) (down e * down d * down g)
unfolding mul
wide_is s m e t n d u l g x y p q =
    add_exact (round binary64 (unlike s t) (m * up e * (n * up d)) (down e * down d)) (unlike s t) (m * up e * (n * up d)) (down e * down d) u l g (mul-pos (down_pos e) (down_pos d))
    (product_exact (m * up e) (down e) (n * up d) (down d) x y (unlike s t) (down_pos e) (down_pos d) p.2 q.2)

-- ---- the f32 that the pattern settles is the fused result
abbrev pub Wide : Float → Float → Float → Float
Wide a b c = add binary64 (mul binary64 a b) c

settled : (a b c : Float) (r : Option Float) (x : Float) → T (fits binary32 a) → T (fits binary32 b) → T (finite a) × T (finite b) → T (finite c) → Narrowed (to_bits binary64 (Wide a b c)) r → r ≡ Some x → r ≡ fused_of a b c
unfolding fused_of
settled nan b c r x p q f g h e = absurd f.0
settled (inf s) b c r x p q f g h e = absurd f.0
settled (fin s m i) nan c r x p q f g h e = absurd f.1
settled (fin s m i) (inf t) c r x p q f g h e = absurd f.1
settled (fin s m i) (fin t n j) nan r x p q f g h e = absurd g
settled (fin s m i) (fin t n j) (inf u) r x p q f g h e = absurd g
settled (fin s m i) (fin t n j) (fin u l k) r x p q f g h e =
    let a = m * up i * (n * up j) * down k in
    let b = l * up k * (down i * down j) in
    let c = down i * down j * down k in
    let w = unlike s t in
    sym (ap rounded (sum_is binary32 w a u b c)
    ∙ (h x e).1 (neg_of w a u b) (mag_of w a u b) c (mul-pos (mul-pos (down_pos i) (down_pos j)) (down_pos k))
    (ap (to_bits binary64) (sym (wide_is s m i t n j u l k (to_bits binary32 (fin s m i)) (to_bits binary32 (fin t n j)) (decoded (fin s m i) p) (decoded (fin t n j) q) ∙ sum_is binary64 w a u b c))))

-- w is what `wide_bits` answers; a NaN's pattern settles nothing
pub narrow_fused : (a b c : Float) (w : ℕ) (r : Option Float) (x : Float) → T (fits binary32 a) → T (fits binary32 b) → (w ≡ 0x7ff8_0000_0000_0000) ⊎ (w ≡ to_bits binary64 (add binary64 (mul binary64 a b) c)) → Narrowed w r → r ≡ Some x → r ≡ fused_of a b c
narrow_fused a b c w r x p q (inl k) h e = absurd (let l = (h x e).0 in omega arith)
narrow_fused a b c w r x p q (inr k) h e =
    let g : Narrowed (to_bits binary64 (Wide a b c)) r = subst (λ (n : ℕ). Narrowed n r) k h in
    let f = add_finite binary64 (mul binary64 a b) c (bits_finite (Wide a b c) (g x e).0) in
    settled a b c r x p q (mul_finite binary64 a b f.0) f.1 g e
