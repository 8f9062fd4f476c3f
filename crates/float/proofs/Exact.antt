-- The definition of the fused operation, on the bits' parts.
use Rattle.std.specs.Prelude.{None}
use Rattle.std.proofs.Common.{◌≡◌, ℕ, ◌+◌, ◌*◌, ◌^◌, ◌<◌, Bool, T, ℤ, sym, refl, ap, ◌∙◌, subst, ap₂, lt_irrefl, mul_assoc, mul_comm, mul-pos, mul_left_comm, pow_pos, pow-add}
use lib.Ieee.{Float, nan, inf, fin, Format, binary32, unlike, up, down, sum, fits, to_bits}
use lib.Ieee.Fits.{down_pos}
use Rattle.float.specs.Inside.{field_of, sign_of, fused_bits_of, M, Q}
use Rattle.float.specs.Finite.{rounded}
use Rattle.float.specs.Fused.{fused_of}
use Rattle.float.proofs.Align.{sum_same}
use Rattle.float.proofs.Decode.{Decoded, decoded}

-- ---- an operand that is not finite
clash : {X : Type 0} (x : ℕ) → x < 255 → x ≡ 255 → X
clash x h e = absurd (lt_irrefl 255 (subst (λ (z : ℕ). z < 255) e h))

pub no_first : (a b c : Float) → T (fits binary32 a) → field_of (to_bits binary32 a) ≡ 255 → None ≡ fused_of a b c
unfolding fused_of
no_first nan b c t e = refl
no_first (inf s) b c t e = refl
no_first (fin s m d) b c t e = clash (field_of (to_bits binary32 (fin s m d))) (decoded (fin s m d) t).0 e

pub no_second : (a b c : Float) → T (fits binary32 b) → field_of (to_bits binary32 b) ≡ 255 → None ≡ fused_of a b c
unfolding fused_of
no_second nan b c t e = refl
no_second (inf s) b c t e = refl
no_second (fin s m d) nan c t e = refl
no_second (fin s m d) (inf u) c t e = refl
no_second (fin s m d) (fin u n g) c t e = clash (field_of (to_bits binary32 (fin u n g))) (decoded (fin u n g) t).0 e

pub no_third : (a b c : Float) → T (fits binary32 c) → field_of (to_bits binary32 c) ≡ 255 → None ≡ fused_of a b c
unfolding fused_of
no_third nan b c t e = refl
no_third (inf s) b c t e = refl
no_third (fin s m d) nan c t e = refl
no_third (fin s m d) (inf u) c t e = refl
no_third (fin s m d) (fin u n g) nan t e = refl
no_third (fin s m d) (fin u n g) (inf v) t e = refl
no_third (fin s m d) (fin u n g) (fin v p h) t e = clash (field_of (to_bits binary32 (fin v p h))) (decoded (fin v p h) t).0 e

-- ---- the exact fractions are the same
cross_product : (a b g h k x y d e : ℕ) → a * h ≡ x * d → b * h ≡ y * e → a * b * g * (h * h * k) ≡ x * y * k * (d * e * g)
cross_product a b g h k x y d e p q =
    let l : a * b * g * (h * h * k) ≡ a * h * (b * h * (g * k)) = simp (mul_assoc, mul_left_comm) in
    let r : x * d * (y * e * (g * k)) ≡ x * y * k * (d * e * g) = simp (mul_assoc, mul_comm, mul_left_comm) in
    l ∙ ap₂ (λ (u v : ℕ). u * (v * (g * k))) p q ∙ r

cross_addend : (c d e g h k z : ℕ) → c * h ≡ z * g → c * (d * e) * (h * h * k) ≡ z * (h * k) * (d * e * g)
cross_addend c d e g h k z p =
    let l : c * (d * e) * (h * h * k) ≡ c * h * (d * e * (h * k)) = simp (mul_assoc, mul_left_comm) in
    let r : z * g * (d * e * (h * k)) ≡ z * (h * k) * (d * e * g) = simp (mul_assoc, mul_comm, mul_left_comm) in
    l ∙ ap (λ (u : ℕ). u * (d * e * (h * k))) p ∙ r

pub product_of : (m n p q i : ℕ) → m * 2 ^ p * (n * 2 ^ q) * 2 ^ i ≡ m * n * 2 ^ (p + q + i)
product_of m n p q i =
    let l : m * 2 ^ p * (n * 2 ^ q) * 2 ^ i ≡ m * n * (2 ^ p * 2 ^ q * 2 ^ i) = regroup m n (2 ^ p) (2 ^ q) (2 ^ i) in
    l ∙ ap (λ (z : ℕ). m * n * z) (ap (λ (z : ℕ). z * 2 ^ i) (sym (pow-add 2 p q)) ∙ sym (pow-add 2 (p + q) i))
  where
    regroup : (m n a b c : ℕ) → m * a * (n * b) * c ≡ m * n * (a * b * c)
    regroup m n a b c = simp (mul_assoc, mul_left_comm)

addend_of : (m q : ℕ) → m * 2 ^ q * (2 ^ 150 * 2 ^ 14) ≡ m * 2 ^ (q + 164)
addend_of m q = mul_assoc m (2 ^ q) (2 ^ 150 * 2 ^ 14) ∙ ap (λ (z : ℕ). m * z) (sym (pow-add 2 q 164))

-- over the one denominator 2 ^ 314, in either format
pub parts_sum : (f : Format) (w i : Bool) (s : Bool) (m : ℕ) (e : ℤ) (t : Bool) (n : ℕ) (d : ℤ) (u : Bool) (l : ℕ) (g : ℤ) (x y z : ℕ) → Decoded (fin s m e) x → Decoded (fin t n d) y → Decoded (fin u l g) z
    → sum f w (m * up e * (n * up d) * down g) i (l * up g * (down e * down d)) (down e * down d * down g) ≡ sum f w (M x * M y * 2 ^ (Q x + Q y + 14)) i (M z * 2 ^ (Q z + 164)) (2 ^ 314)
parts_sum f w i s m e t n d u l g x y z p q r =
    sum_same f w (m * up e * (n * up d) * down g) i (l * up g * (down e * down d)) (down e * down d * down g)
    (M x * M y * 2 ^ (Q x + Q y + 14)) (M z * 2 ^ (Q z + 164)) (2 ^ 314)
    (mul-pos (mul-pos (down_pos e) (down_pos d)) (down_pos g)) (pow_pos 314)
    (cross_product (m * up e) (n * up d) (down g) (2 ^ 150) (2 ^ 14) (M x * 2 ^ Q x) (M y * 2 ^ Q y) (down e) (down d) p.2 q.2 ∙ ap (λ (k : ℕ). k * (down e * down d * down g)) (product_of (M x) (M y) (Q x) (Q y) 14))
    (cross_addend (l * up g) (down e) (down d) (down g) (2 ^ 150) (2 ^ 14) (M z * 2 ^ Q z) r.2 ∙ ap (λ (k : ℕ). k * (down e * down d * down g)) (addend_of (M z) (Q z)))

pub fused_is : (a b c : Float) → Decoded a (to_bits binary32 a) → Decoded b (to_bits binary32 b) → Decoded c (to_bits binary32 c)
    → (field_of (to_bits binary32 a) ≡ 255 → ⊥) → (field_of (to_bits binary32 b) ≡ 255 → ⊥) → (field_of (to_bits binary32 c) ≡ 255 → ⊥) → fused_bits_of (to_bits binary32 a) (to_bits binary32 b) (to_bits binary32 c) ≡ fused_of a b c
fused_is nan b c p q r u v w = absurd (u p)
fused_is (inf s) b c p q r u v w = absurd (u p)
fused_is (fin s m e) nan c p q r u v w = absurd (v q)
fused_is (fin s m e) (inf t) c p q r u v w = absurd (v q)
fused_is (fin s m e) (fin t n d) nan p q r u v w = absurd (w r)
fused_is (fin s m e) (fin t n d) (inf i) p q r u v w = absurd (w r)
fused_is (fin s m e) (fin t n d) (fin i l g) p q r u v w = both s m e t n d i l g (to_bits binary32 (fin s m e)) (to_bits binary32 (fin t n d)) (to_bits binary32 (fin i l g)) p q r
  where
    both : (s : Bool) (m : ℕ) (e : ℤ) (t : Bool) (n : ℕ) (d : ℤ) (i : Bool) (l : ℕ) (g : ℤ) (x y z : ℕ) → Decoded (fin s m e) x → Decoded (fin t n d) y → Decoded (fin i l g) z → fused_bits_of x y z ≡ fused_of (fin s m e) (fin t n d) (fin i l g)
    both s m e t n d i l g x y z p q r =
        unfold fused_bits_of fused_of in
        ap rounded
        (sym (ap₂ (λ (a b : Bool). sum binary32 (unlike a b) (m * up e * (n * up d) * down g) i (l * up g * (down e * down d)) (down e * down d * down g)) p.1 q.1
        ∙ ap (λ (a : Bool). sum binary32 (unlike (sign_of x) (sign_of y)) (m * up e * (n * up d) * down g) a (l * up g * (down e * down d)) (down e * down d * down g)) r.1
        ∙ parts_sum binary32 (unlike (sign_of x) (sign_of y)) (sign_of z) s m e t n d i l g x y z p q r))
