-- A finite result has finite operands all the way back through a stage. Assumes nothing.
use mathlib.Core.Path.{◌≡◌, refl, sym}
use mathlib.Core.Bool.{Bool, true, false, cond, true≢false}
use mathlib.Core.List.{List, [], ◌∷◌, ◌++◌}
use lib.Ieee.{Float, nan, inf, fin, binary32, add, sub, mul, neg}
use lib.Ieee.Scale.{finite}
use Rattle.std.specs.Float.{float_is_finite}
use Rattle.float.specs.Fused.{fused_of}
use Rattle.lists.proofs.Tests.{both}
use Rattle.dc_state.specs.Biquad.{or_nan, output_of, heard}
use Rattle.dc_state.specs.Operations.{stage_results, every_finite}
use Rattle.dc_state.specs.declared.biquad.Biquad.{Biquad}

-- the library's word for it
pub same : (x : Float) → float_is_finite x ≡ finite x
unfolding float_is_finite
same nan = refl
same (inf s) = refl
same (fin s m e) = refl

not_finite : {A : Type 0} → false ≡ true → A
not_finite h = absurd (true≢false (sym h))

-- ---- each operation
pub sub_finite : (a b : Float) → finite (sub binary32 a b) ≡ true → (finite a ≡ true) × (finite b ≡ true)
unfolding sub add neg
sub_finite nan b h = not_finite h
sub_finite (inf s) nan h = not_finite h
sub_finite (inf true) (inf true) h = not_finite h
sub_finite (inf true) (inf false) h = not_finite h
sub_finite (inf false) (inf true) h = not_finite h
sub_finite (inf false) (inf false) h = not_finite h
sub_finite (inf s) (fin t n d) h = not_finite h
sub_finite (fin s m e) nan h = not_finite h
sub_finite (fin s m e) (inf t) h = not_finite h
sub_finite (fin s m e) (fin t n d) h = (refl, refl)

pub fused_finite : (a b c : Float) → finite (or_nan (fused_of a b c)) ≡ true → (finite a ≡ true) × (finite b ≡ true) × (finite c ≡ true)
unfolding fused_of
fused_finite nan b c h = not_finite h
fused_finite (inf s) b c h = not_finite h
fused_finite (fin s m e) nan c h = not_finite h
fused_finite (fin s m e) (inf t) c h = not_finite h
fused_finite (fin s m e) (fin t n d) nan h = not_finite h
fused_finite (fin s m e) (fin t n d) (inf u) h = not_finite h
fused_finite (fin s m e) (fin t n d) (fin u p g) h = (refl, refl, refl)

-- ---- a stage
-- what a finite output of a stage says of its input and of its six operations
pub record Passes (b : Biquad) (x : Float) : Type 0 where
  pub input : finite x ≡ true
  pub results : every_finite (stage_results b x) ≡ true

pub stage_passes : (b : Biquad) (x : Float) → finite (heard b x) ≡ true → Passes b x
unfolding stage_results every_finite output_of
stage_passes b x h =
    let c = b.coeffs in
    let s = b.state in
    let far = mul binary32 c.b2 s.x2 in
    let near = or_nan (fused_of c.b1 s.x1 far) in
    let back = mul binary32 c.a2 s.y2 in
    let acc = or_nan (fused_of c.b0 x near) in
    let feed = or_nan (fused_of c.a1 s.y1 back) in
    let halves = sub_finite acc feed h in
    let first = fused_finite c.b0 x near halves.0 in
    let second = fused_finite c.b1 s.x1 far first.2 in
    let third = fused_finite c.a1 s.y1 back halves.1 in
    record { input = first.1; results = rw (second.2, first.2, halves.0, third.2, halves.1, h) }

-- ---- lists of results
pub append_true : (xs ys : List Float) → every_finite xs ≡ true → every_finite ys ≡ true → every_finite (xs ++ ys) ≡ true
unfolding every_finite
append_true [] ys h k = k
append_true (x ∷ xs) ys h k = let t = both (finite x) (every_finite xs) h in rw (t.0, append_true xs ys t.1 k)

pub append_right : (xs ys : List Float) → every_finite (xs ++ ys) ≡ true → every_finite ys ≡ true
unfolding every_finite
append_right [] ys h = h
append_right (x ∷ xs) ys h = append_right xs ys (both (finite x) (every_finite (xs ++ ys)) h).1

pub centre_true : (r : Bool) (c : Float) → (r ≡ true → finite c ≡ true) → every_finite (cond r (c ∷ []) []) ≡ true
unfolding every_finite
centre_true true c h = rw (h refl)
centre_true false c h = refl

pub last_finite : (b : Biquad) (x : Float) → every_finite (stage_results b x) ≡ true → finite (heard b x) ≡ true
unfolding every_finite stage_results
last_finite b x h =
    let c = b.coeffs in
    let s = b.state in
    let far = mul binary32 c.b2 s.x2 in
    let near = or_nan (fused_of c.b1 s.x1 far) in
    let back = mul binary32 c.a2 s.y2 in
    let before = far ∷ near ∷ or_nan (fused_of c.b0 x near) ∷ back ∷ or_nan (fused_of c.a1 s.y1 back) ∷ [] in
    (both (finite (heard b x)) true (append_right before (heard b x ∷ []) h)).0
