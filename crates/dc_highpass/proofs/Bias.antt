-- The new bias is a finite number, so that no bias refuses a block: of an f32 alpha and a finite f32 bias, over a block of the domain. Assumes nothing.
use Rattle.std.specs.Prelude.{Option}
use mathlib.Core.Path.{◌≡◌, refl, sym, ap, subst, ◌∙◌}
use mathlib.Core.Bool.{true, false}
use mathlib.Core.Logic.{⊎_elim}
use mathlib.Core.List.{List, [], ◌∷◌}
use Prim.Native.Nat.{ℕ, suc, ◌+◌, ◌*◌, ◌≤◌, ◌<◌}
use native.Mathlib.Nat.{add-zero, zero-add, le_refl, mul_left_comm, le_trans, le_of_eq, mul-le-mul_right, mul-one, mul_assoc}
use native.Mathlib.Omega.{arith}
use lib.Dec.{T, ltb→lt, lit≤, lit<}
use lib.IntN.{ℤ, pos, negsuc}
use lib.ListN.{length}
use lib.Ieee.{Float, nan, inf, fin, binary32, of_bits, of_int, fits, up, down, lt, neg, add, sub, mul, round}
use lib.Ieee.Scale.{finite}
use lib.Ieee.Fits.{down_pos}
use lib.Ieee.Bits.{is_true}
use Rattle.float.specs.Fused.{fused_of}
use Rattle.float.specs.Numbers.{zero32 as +0, one32}
use Rattle.float.proofs.Sticky.{side}
use Rattle.lists.proofs.Tests.{both}
use Rattle.float.proofs.Words.{T_of}
use Rattle.float.proofs.Bounds.{fits_parts, Mag, Yields, mag_finite, held_small, held_scaled, held_own, over_value, mul_mag, add_mag, sub_mag, div_mag, fused_mag}
use Rattle.ranges.specs.Ranges.{limit, in_domain, clean_of}
use Rattle.ranges.proofs.Laws.{leading_first, sample_mag}
use Rattle.dc_state.specs.Biquad.{or_nan}
use Rattle.dc_state.specs.Settings.{alpha_taken}
use Rattle.dc_highpass.specs.Filter.{sum_from, mean_of, bias_of}

-- ---- alpha is at most 1 − 2^-24
under_one : (W P : ℕ) → W < 16777216 → W < P → W * 16777216 ≤ 16777215 * P
under_one W P h l = ⊎_elim (λ g. omega arith) (λ g. omega arith) (side P 16777216)

small : (m : ℕ) (e : ℤ) → m < 16777216 → m * up e < down e → m * up e < 16777216
small m (pos i) h l = omega arith
small m (negsuc i) h l = rw (mul-one m) h

weight : (x : Float) → T (fits binary32 x) → T (lt +0 x) → T (lt x one32) → Mag x 16777215 16777216
unfolding lt of_bits
weight nan t h l = absurd h
weight (inf true) t h l = absurd h
weight (inf false) t h l = absurd l
weight (fin true m e) t h l = absurd h
weight (fin false m e) t h l =
    let W = m * up e in
    let P = down e in
    let less : W < P = (let g = ltb→lt (W * 1) (1 * 1 * P) l in omega arith) in
    under_one W P (small m e (fits_parts binary32 false m e t).0 less) less

-- ---- the mean of a block of the domain is at most 65,536
clean_first : (x : Float) (xs : List Float) → suc (length xs) ≤ clean_of (x ∷ xs) → (in_domain x ≡ true) × (length xs ≤ clean_of xs)
unfolding clean_of in_domain
clean_first x xs h = leading_first (neg limit) limit x xs h

sum_mag : (xs : List Float) (t : Float) (k : ℕ) → k + length xs ≤ 1024 → length xs ≤ clean_of xs → Mag t (k * 65536) 1 → Mag (sum_from t xs) ((k + length xs) * 65536) 1
unfolding sum_from
sum_mag [] t k l c h = subst (λ (n : ℕ). Mag t (n * 65536) 1) (sym (add-zero k)) h
sum_mag (x ∷ xs) t k l c h =
    let f = clean_first x xs c in
    let held = held_scaled (k + 1) 16 (omega arith) (lit≤ tt) in
    let next : Mag (add binary32 t x) ((k + 1) * 65536) 1 = add_mag binary32 t x (k * 65536) 1 65536 1 ((k + 1) * 65536) 1 (lit< tt) (lit< tt) (lit< tt) held h (sample_mag x f.0) (omega arith) in
    let count : k + 1 + length xs ≡ k + suc (length xs) = omega arith in
    subst (λ (n : ℕ). Mag (sum_from (add binary32 t x) xs) (n * 65536) 1) count (sum_mag xs (add binary32 t x) (k + 1) (omega arith) f.1 next)

mean_mag : (x : Float) (xs : List Float) → length (x ∷ xs) ≤ 1024 → length (x ∷ xs) ≤ clean_of (x ∷ xs) → Mag (mean_of (x ∷ xs)) 65536 1
unfolding mean_of of_int of_bits neg
mean_mag x xs l c =
    let n = suc (length xs) in
    let total = sum_mag (x ∷ xs) (fin true 0 (pos 0)) 0 (omega arith) c (omega arith) in
    div_mag binary32 (sum_from (fin true 0 (pos 0)) (x ∷ xs)) (round binary32 false n 1) (n * 65536) 1 n 1 65536 1 (lit< tt) (omega arith) (lit< tt) (held_small binary32 65536 (lit≤ tt))
    (subst (λ (k : ℕ). Mag (sum_from (fin true 0 (pos 0)) (x ∷ xs)) (k * 65536) 1) (zero-add n) total)
    (over_value (round binary32 false n 1) n 1 (held_small binary32 n (omega arith)))
    (omega arith)

-- ---- the blend
-- (1 − 2^-24) of b and 2^17 are at most b where b is 2^41 or more
blend_size : (B D : ℕ) → 2199023255552 * D ≤ B → (16777215 * B * 1 + 131072 * (16777216 * D)) * D ≤ B * (16777216 * D * 1)
blend_size B D h = le_trans (mul-le-mul_right D (omega arith)) (le_of_eq (same B D))
  where
    same : (B D : ℕ) → 16777216 * B * D ≡ B * (16777216 * D * 1)
    same B D = simp (mul-one, mul_assoc, mul_left_comm)

found : (w b z : Float) (n k : ℕ) → Yields (fused_of w b z) (λ v. Mag v n k) → finite (or_nan (fused_of w b z)) ≡ true
found w b z n k y = ap (λ (r : Option Float). finite (or_nan r)) y.1 ∙ is_true (finite y.0) (mag_finite y.0 n k y.3)

blend : (w b z : Float) → T (fits binary32 b) → T (finite b) → Mag w 16777215 16777216 → Mag z 131072 1 → finite (or_nan (fused_of w b z)) ≡ true
blend w nan z u t h g = absurd t
blend w (inf s) z u t h g = absurd t
blend w (fin s m e) z u t h g =
    let b = fin s m e in
    let B = m * up e in
    let D = down e in
    ⊎_elim
    (λ l.
    found w b z 4398046511104 1
    (fused_mag w b z 16777215 16777216 2199023255552 1 131072 1 4398046511104 1 (lit< tt) (lit< tt) (lit< tt) (lit< tt) (held_scaled 1 42 (lit< tt) (lit≤ tt)) h (omega arith) g (lit≤ tt)))
    (λ l.
    found w b z B D
    (fused_mag w b z 16777215 16777216 B D 131072 1 B D (lit< tt) (down_pos e) (lit< tt) (down_pos e) (held_own binary32 b s B D u (down_pos e) (refl, refl)) h (le_refl (B * D)) g (blend_size B D l)))
    (side B (2199023255552 * D))

one_mag : Mag one32 1 1
unfolding of_bits
one_mag = lit≤ tt

pub bias_found : (alpha bias : Float) (x : Float) (xs : List Float) → T (fits binary32 alpha) → alpha_taken alpha ≡ true → T (fits binary32 bias) → finite bias ≡ true
    → length (x ∷ xs) ≤ 1024 → length (x ∷ xs) ≤ clean_of (x ∷ xs) → finite (bias_of alpha bias (x ∷ xs)) ≡ true
unfolding bias_of
bias_found alpha bias x xs a taken b t l c =
    let w = weight alpha a (T_of (both (lt +0 alpha) (lt alpha one32) taken).0) (T_of (both (lt +0 alpha) (lt alpha one32) taken).1) in
    let rest = sub_mag binary32 one32 alpha 1 1 16777215 16777216 2 1 (lit< tt) (lit< tt) (lit< tt) (held_small binary32 2 (lit≤ tt)) one_mag w (lit≤ tt) in
    blend alpha bias (mul binary32 (sub binary32 one32 alpha) (mean_of (x ∷ xs))) b (T_of t) w
    (mul_mag binary32 (sub binary32 one32 alpha) (mean_of (x ∷ xs)) 2 1 65536 1 131072 1 (lit< tt) (lit< tt) (lit< tt) (held_small binary32 131072 (lit≤ tt)) rest (mean_mag x xs l c) (lit≤ tt))
