-- What a float's comparisons with a whole number, or with the middle between two, say of its rounded value.
use Rattle.std.proofs.Common.{◌≡◌, ℕ, zero, suc, ◌+◌, ◌-◌, ◌*◌, ◌/◌, ◌%◌, ◌^◌, ◌<◌, ◌≤◌, min, true, false, ◌&&◌, T, eqb, ltb, leb, ℤ, pos, negsuc, sym, refl, ap, ◌∙◌, subst, true≢false, le_trans, le_of_eq, lt_of_lt_of_le, mod-lt, mul_assoc, div-lt_iff_lt-mul, add-mul, mul-le-mul_left, mul-lt-mul_of_pos_right, mul-pos, one-mul, div-add-mod', mul-one, mul_right_comm, div-mul-le_self, mul_left_comm, arith, lit<, lit≤, ltb→lt, pow_pos, pow_mono, pow-add, ltb-false, ltb-true, lt-ltb}
use lib.Arith.{digits_div}
use lib.Ieee.{Float, nan, inf, fin, binary64, up, down, fits, round, sum, add, lt, of_int, to_unsigned}
use lib.Ieee.Fits.{down_pos, and_l, and_r}
use lib.Ieee.Exact.{HasValue, round_exact}
use lib.Ieee.Back.{round_whole}
use lib.Ieee.Scale.{round_same}
use Rattle.float.specs.Whole.{round_of, ceil_of}
use Rattle.float.proofs.Align.{scale_test}

-- ---- the cast: what its tests say
abbrev pub two : ℕ → Float
two k = fin false 1 (pos k)

no_truth : {X : Type 0} → false ≡ true → X
no_truth h = absurd (true≢false (sym h))

pub cut_small : (x : Float) → lt x (two 52) ≡ true → to_unsigned 64 x < 4503599627370496
unfolding lt to_unsigned
cut_small nan h = no_truth h
cut_small (inf true) h = omega arith
cut_small (inf false) h = no_truth h
cut_small (fin true m e) h = omega arith
cut_small (fin false m e) h =
    let l : m * up e < 2 ^ 52 * down e = simp (one-mul, mul-one) at (ltb-true (m * up e * 1) (1 * 2 ^ 52 * down e) h) in
    let d : m * up e / down e < 2 ^ 52 = (div-lt_iff_lt-mul (down_pos e)).1 l in
    omega arith

-- the whole part of a float below 2 ^ 52 that is not negative
part : (m : ℕ) (e : ℤ) → lt (fin false m e) (two 52) ≡ true → (to_unsigned 64 (fin false m e) ≡ m * up e / down e) × (m * up e / down e < 4503599627370496)
unfolding lt to_unsigned
part m e h =
    let l : m * up e < 2 ^ 52 * down e = simp (one-mul, mul-one) at (ltb-true (m * up e * 1) (1 * 2 ^ 52 * down e) h) in
    let d : m * up e / down e < 2 ^ 52 = (div-lt_iff_lt-mul (down_pos e)).1 l in
    (omega arith, d)

-- ---- comparisons with a value y of b / c
lt_left : (y : Float) (b c m : ℕ) (e : ℤ) → 0 < c → HasValue y false b c → lt (fin false m e) y ≡ ltb (m * up e * c) (b * down e)
unfolding lt
lt_left nan b c m e C v = absurd v
lt_left (inf s) b c m e C v = absurd v
lt_left (fin true n d) b c m e C v = absurd (true≢false v.0)
lt_left (fin false n d) b c m e C v =
    scale_test (m * up e * down d) (n * up d * down e) (m * up e * c) (b * down e) c (down d) C (down_pos d) (mul_right_comm (m * up e) (down d) c)
    (mul_right_comm (n * up d) (down e) c ∙ ap (λ (k : ℕ). k * down e) v.1 ∙ mul_right_comm b (down d) (down e))

lt_right : (y : Float) (b c m : ℕ) (e : ℤ) → 0 < c → HasValue y false b c → lt y (fin false m e) ≡ ltb (b * down e) (m * up e * c)
unfolding lt
lt_right nan b c m e C v = absurd v
lt_right (inf s) b c m e C v = absurd v
lt_right (fin true n d) b c m e C v = absurd (true≢false v.0)
lt_right (fin false n d) b c m e C v =
    scale_test (n * up d * down e) (m * up e * down d) (b * down e) (m * up e * c) c (down d) C (down_pos d)
    (mul_right_comm (n * up d) (down e) c ∙ ap (λ (k : ℕ). k * down e) v.1 ∙ mul_right_comm b (down d) (down e))
    (mul_right_comm (m * up e) (down d) c)

-- ---- the middle above a whole number is a value
abbrev pub middle : ℕ → Float
middle t = add binary64 (of_int binary64 (pos t)) (fin false 1 (negsuc 0))

middle_is : (t : ℕ) → t < 4503599627370496 → HasValue (middle t) false (2 * t + 1) 2
unfolding of_int
middle_is t h = go (round binary64 false t 1) (round_whole binary64 false t (omega arith))
  where
    sum_is : (m : ℕ) (e : ℤ) → m * up e * 1 ≡ t * down e → add binary64 (fin false m e) (fin false 1 (negsuc 0)) ≡ round binary64 false (2 * t + 1) 2
    sum_is m e v = unfold add sum in
        round_same binary64 false (m * up e * 2 + 1 * 1 * down e) (down e * 2) (2 * t + 1) 2 (mul-pos (down_pos e) (lit< tt)) (lit< tt) (cross (m * up e) (down e) t v)
      where
        cross : (n d t : ℕ) → n * 1 ≡ t * d → (n * 2 + 1 * 1 * d) * 2 ≡ (2 * t + 1) * (d * 2)
        cross n d t v =
            let a : (2 * t + 1) * (d * 2) ≡ 2 * t * (d * 2) + 1 * (d * 2) = add-mul (2 * t) 1 (d * 2) in
            let b : 2 * t * (d * 2) ≡ 2 * (t * (d * 2)) = mul_assoc 2 t (d * 2) in
            let c : t * (d * 2) ≡ t * d * 2 = sym (mul_assoc t d 2) in
            omega arith

    go : (x : Float) → HasValue x false t 1 → HasValue (add binary64 x (fin false 1 (negsuc 0))) false (2 * t + 1) 2
    go nan v = absurd v
    go (inf s) v = absurd v
    go (fin true m e) v = absurd (true≢false v.0)
    go (fin false m e) v =
        let q : 2 * t + 1 < 2 ^ 53 = omega arith in
        rw (sum_is m e v.1) (round_exact binary64 false (2 * t + 1) 2 (2 * t + 1) 1073 (lit< tt) (omega arith) (lt_of_lt_of_le (mul-lt-mul_of_pos_right q (pow_pos 1073)) (le_trans (le_of_eq (sym (pow-add 2 53 1073))) (pow_mono {i = 53 + 1073} {j = 1074 + 1024} (lit≤ tt)))) (ap (λ (k : ℕ). (2 * t + 1) * k) (pow-add 2 1073 1) ∙ sym (mul_assoc (2 * t + 1) (2 ^ 1073) 2)))

-- ---- a fraction cut, rounded half up, rounded up
div_is : (n d q : ℕ) → 0 < d → q * d ≤ n → n < q * d + d → n / d ≡ q
div_is n d q D l h =
    let e : q * d + (n - q * d) ≡ n = omega arith in
    rw e at (digits_div q {m = d} {r = n - q * d} (omega arith))

module _ (n d : ℕ) (D : 0 < d) where
  cut_lo : n / d * d ≤ n
  cut_lo = div-mul-le_self n d

  cut_hi : n < n / d * d + d
  cut_hi = let e = div-add-mod' n d in let m = mod-lt n D in omega arith

  twice : n / d * (2 * d) ≡ 2 * (n / d * d)
  twice = mul_left_comm (n / d) 2 d

  odd : (2 * (n / d) + 1) * d ≡ 2 * (n / d * d) + d
  odd = add-mul (2 * (n / d)) 1 d ∙ ap (λ (z : ℕ). z + 1 * d) (mul_assoc 2 (n / d) d) ∙ ap (λ (z : ℕ). 2 * (n / d * d) + z) (one-mul d)

  next : (k : ℕ) → (n / d + 1) * k ≡ n / d * k + k
  next k = add-mul (n / d) 1 k ∙ ap (λ (z : ℕ). n / d * k + z) (one-mul k)

  half_over : (2 * (n / d) + 1) * d ≤ n * 2 → (2 * n + d) / (2 * d) ≡ n / d + 1
  half_over h =
      let lo = cut_lo in let hi = cut_hi in let a = odd in let b = next (2 * d) in let c = twice in
      div_is (2 * n + d) (2 * d) (n / d + 1) (omega arith) (omega arith) (omega arith)

  half_under : n * 2 < (2 * (n / d) + 1) * d → (2 * n + d) / (2 * d) ≡ n / d
  half_under h =
      let lo = cut_lo in let hi = cut_hi in let a = odd in let c = twice in
      div_is (2 * n + d) (2 * d) (n / d) (omega arith) (omega arith) (omega arith)

  up_over : n / d * d < n * 1 → (n + (d - 1)) / d ≡ n / d + 1
  up_over h =
      let hi = cut_hi in let b = next d in
      div_is (n + (d - 1)) d (n / d + 1) D (omega arith) (omega arith)

  up_under : n * 1 ≤ n / d * d → (n + (d - 1)) / d ≡ n / d
  up_under h = let lo = cut_lo in div_is (n + (d - 1)) d (n / d) D (omega arith) (omega arith)

-- ---- below 2 ^ 52: by the comparison with the middle, and with the whole part
round_at : (m : ℕ) (e : ℤ) → round_of (fin false m e) ≡ min ((2 * (m * up e) + down e) / (2 * down e)) 18446744073709551615
unfolding round_of
round_at m e = refl

ceil_at : (m : ℕ) (e : ℤ) → ceil_of (fin false m e) ≡ min ((m * up e + (down e - 1)) / down e) 18446744073709551615
unfolding ceil_of
ceil_at m e = refl

-- t is the whole part k, which is small, and r the rounded value
over : (t k r q : ℕ) → t ≡ k → k < 4503599627370496 → r ≡ min q 18446744073709551615 → q ≡ k + 1 → t + 1 ≡ r
over t k r q a b c d = omega arith

under : (t k r q : ℕ) → t ≡ k → k < 4503599627370496 → r ≡ min q 18446744073709551615 → q ≡ k → t ≡ r
under t k r q a b c d = omega arith

half : middle 0 ≡ fin false 1 (negsuc 0)
unfolding add sum round of_int
half = refl

negative_half : (m : ℕ) (e : ℤ) → lt (fin true m e) (middle 0) ≡ true
negative_half m e = ap (lt (fin true m e)) half ∙ (unfold lt in lt-ltb 0 (m * up e * 2 + 1 * 1 * down e) (let d = down_pos e in omega arith))

pub round_over : (x : Float) → lt x (two 52) ≡ true → lt x (middle (to_unsigned 64 x)) ≡ false → to_unsigned 64 x + 1 ≡ round_of x
round_over nan h g = unfold lt in no_truth h
round_over (inf true) h g = unfold lt to_unsigned add sum round of_int in absurd (true≢false g)
round_over (inf false) h g = unfold lt in no_truth h
round_over (fin true m e) h g = unfold to_unsigned in absurd (true≢false (sym (negative_half m e) ∙ g))
round_over (fin false m e) h g =
    let p = part m e h in
    let n = m * up e in
    let d = down e in
    let q : lt (fin false m e) (middle (n / d)) ≡ false = ap (λ (t : ℕ). lt (fin false m e) (middle t)) (sym p.0) ∙ g in
    let l : (2 * (n / d) + 1) * d ≤ n * 2 = ltb-false (n * 2) ((2 * (n / d) + 1) * d) (sym (lt_left (middle (n / d)) (2 * (n / d) + 1) 2 m e (lit< tt) (middle_is (n / d) p.1)) ∙ q) in
    over (to_unsigned 64 (fin false m e)) (n / d) (round_of (fin false m e)) _ p.0 p.1 (round_at m e) (half_over n d (down_pos e) l)

pub round_under : (x : Float) → lt x (two 52) ≡ true → lt x (middle (to_unsigned 64 x)) ≡ true → to_unsigned 64 x ≡ round_of x
round_under nan h g = unfold lt in no_truth h
round_under (inf s) h g = unfold to_unsigned round_of in refl
round_under (fin true m e) h g = unfold to_unsigned round_of in refl
round_under (fin false m e) h g =
    let p = part m e h in
    let n = m * up e in
    let d = down e in
    let q : lt (fin false m e) (middle (n / d)) ≡ true = ap (λ (t : ℕ). lt (fin false m e) (middle t)) (sym p.0) ∙ g in
    let l : n * 2 < (2 * (n / d) + 1) * d = ltb-true (n * 2) ((2 * (n / d) + 1) * d) (sym (lt_left (middle (n / d)) (2 * (n / d) + 1) 2 m e (lit< tt) (middle_is (n / d) p.1)) ∙ q) in
    under (to_unsigned 64 (fin false m e)) (n / d) (round_of (fin false m e)) _ p.0 p.1 (round_at m e) (half_under n d (down_pos e) l)

whole_is : (t : ℕ) → t < 4503599627370496 → HasValue (of_int binary64 (pos t)) false t 1
unfolding of_int
whole_is t h = round_whole binary64 false t (omega arith)

pub ceil_over : (x : Float) → lt x (two 52) ≡ true → lt (of_int binary64 (pos (to_unsigned 64 x))) x ≡ true → to_unsigned 64 x + 1 ≡ ceil_of x
ceil_over nan h g = unfold lt in no_truth h
ceil_over (inf true) h g = unfold lt to_unsigned round of_int in no_truth g
ceil_over (inf false) h g = unfold lt in no_truth h
ceil_over (fin true m e) h g = unfold lt to_unsigned round of_int in no_truth g
ceil_over (fin false m e) h g =
    let p = part m e h in
    let n = m * up e in
    let d = down e in
    let q : lt (of_int binary64 (pos (n / d))) (fin false m e) ≡ true = ap (λ (t : ℕ). lt (of_int binary64 (pos t)) (fin false m e)) (sym p.0) ∙ g in
    let l : n / d * d < n * 1 = ltb-true (n / d * d) (n * 1) (sym (lt_right (of_int binary64 (pos (n / d))) (n / d) 1 m e (lit< tt) (whole_is (n / d) p.1)) ∙ q) in
    over (to_unsigned 64 (fin false m e)) (n / d) (ceil_of (fin false m e)) _ p.0 p.1 (ceil_at m e) (up_over n d (down_pos e) l)

pub ceil_under : (x : Float) → lt x (two 52) ≡ true → lt (of_int binary64 (pos (to_unsigned 64 x))) x ≡ false → to_unsigned 64 x ≡ ceil_of x
ceil_under nan h g = unfold lt in no_truth h
ceil_under (inf s) h g = unfold to_unsigned ceil_of in refl
ceil_under (fin true m e) h g = unfold to_unsigned ceil_of in refl
ceil_under (fin false m e) h g =
    let p = part m e h in
    let n = m * up e in
    let d = down e in
    let q : lt (of_int binary64 (pos (n / d))) (fin false m e) ≡ false = ap (λ (t : ℕ). lt (of_int binary64 (pos t)) (fin false m e)) (sym p.0) ∙ g in
    let l : n * 1 ≤ n / d * d = ltb-false (n / d * d) (n * 1) (sym (lt_right (of_int binary64 (pos (n / d))) (n / d) 1 m e (lit< tt) (whole_is (n / d) p.1)) ∙ q) in
    under (to_unsigned 64 (fin false m e)) (n / d) (ceil_of (fin false m e)) _ p.0 p.1 (ceil_at m e) (up_under n d (down_pos e) l)

-- ---- from 2 ^ 52 on a float is a whole number
digits : (m : ℕ) (e : ℤ) → T (fits binary64 (fin false m e)) → m < 2 ^ 53
unfolding fits
digits zero e t = omega arith
digits (suc m) e t = ltb→lt (suc m) (2 ^ 53) (and_r (eqb (suc m % 2) 1) (ltb (suc m) (2 ^ 53)) (and_l (eqb (suc m % 2) 1 && ltb (suc m) (2 ^ 53)) (leb (down e) (2 ^ 1074)) (and_l (eqb (suc m % 2) 1 && ltb (suc m) (2 ^ 53) && leb (down e) (2 ^ 1074)) (ltb (suc m * up e) (2 ^ 1024 * down e)) t)))

whole : (m : ℕ) (e : ℤ) → T (fits binary64 (fin false m e)) → lt (fin false m e) (two 52) ≡ false → down e ≡ 1
whole m (pos k) t h = refl
whole m (negsuc k) t h =
    let l : 1 * 2 ^ 52 * 2 ^ suc k ≤ m * 1 * 1 = unfold lt in ltb-false (m * 1 * 1) (1 * 2 ^ 52 * 2 ^ suc k) h in
    let p : 2 ^ 1 ≤ 2 ^ suc k = pow_mono {i = 1} {j = suc k} (omega arith) in
    let b : 4503599627370496 * 2 ≤ 4503599627370496 * 2 ^ suc k = mul-le-mul_left 4503599627370496 p in
    let d = digits m (negsuc k) t in
    absurd (omega arith)

negative_below : (m : ℕ) (e : ℤ) → lt (fin true m e) (two 52) ≡ true
negative_below m e = unfold lt in lt-ltb 0 (m * up e * 1 + 1 * 2 ^ 52 * down e) (let b : 0 < 1 * 2 ^ 52 * down e = mul-pos (lit< tt) (down_pos e) in omega arith)

cut_at : (m : ℕ) (e : ℤ) → to_unsigned 64 (fin false m e) ≡ min (m * up e / down e) 18446744073709551615
unfolding to_unsigned
cut_at m e = refl

pub round_whole_part : (x : Float) → T (fits binary64 x) → lt x (two 52) ≡ false → to_unsigned 64 x ≡ round_of x
round_whole_part nan t h = unfold to_unsigned round_of in refl
round_whole_part (inf s) t h = unfold to_unsigned round_of in refl
round_whole_part (fin true m e) t h = absurd (true≢false (sym (negative_below m e) ∙ h))
round_whole_part (fin false m e) t h = cut_at m e ∙ ap (λ (k : ℕ). min k 18446744073709551615) (same (m * up e) (down e) (whole m e t h)) ∙ sym (round_at m e)
  where
    same : (n d : ℕ) → d ≡ 1 → n / d ≡ (2 * n + d) / (2 * d)
    same n d w = subst (λ (k : ℕ). n / k ≡ (2 * n + k) / (2 * k)) (sym w) (omega arith)

pub ceil_whole_part : (x : Float) → T (fits binary64 x) → lt x (two 52) ≡ false → to_unsigned 64 x ≡ ceil_of x
ceil_whole_part nan t h = unfold to_unsigned ceil_of in refl
ceil_whole_part (inf s) t h = unfold to_unsigned ceil_of in refl
ceil_whole_part (fin true m e) t h = absurd (true≢false (sym (negative_below m e) ∙ h))
ceil_whole_part (fin false m e) t h = cut_at m e ∙ ap (λ (k : ℕ). min k 18446744073709551615) (same (m * up e) (down e) (whole m e t h)) ∙ sym (ceil_at m e)
  where
    same : (n d : ℕ) → d ≡ 1 → n / d ≡ (n + (d - 1)) / d
    same n d w = subst (λ (k : ℕ). n / k ≡ (n + (k - 1)) / k) (sym w) (omega arith)
