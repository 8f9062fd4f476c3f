-- The noise floor is always a number: an f32 between `energy_floor` and the greater of `energy_floor` and 2^18. The energy total of an open segment is at most 2^60. Assumes nothing.
use Rattle.vad_segments.specs.declared.ActiveSegmentState.{ActiveSegmentState}
use Rattle.std.specs.Prelude.{None, Option, Some}
use mathlib.Core.Path.{◌≡◌, refl, sym, ap, ◌∙◌, subst}
use mathlib.Core.Logic.{◌⊎◌, inl, inr, ⊎_elim}
use mathlib.Core.Bool.{Bool, true, false, ◌&&◌, ◌||◌, cond}
use mathlib.Core.List.{List, [], ◌∷◌}
use Prim.Native.Nat.{ℕ, zero, suc, ◌*◌, ◌^◌, ◌≤◌, ◌<◌, max}
use native.Mathlib.Nat.{zero-mul, le_refl, le_of_lt, mul-pos, zero-lt-suc}
use native.Mathlib.Omega.{arith}
use borrow.Author.Tests.{ltb-false}
use lib.Dec.{T, eqb, lit<, lit≤, ltb→lt, lt→ltb, eqb→eq}
use lib.IntN.{ℤ, pos, negsuc}
use lib.Ieee.{Float, nan, inf, fin, binary32, of_bits, up, down, le, lt, eq, add, sub, mul, neg, sum, round, fits}
use lib.Ieee.Fits.{and_l, up_pos, down_pos, add-fits}
use lib.Ieee.Scale.{finite}
use lib.Pow.{pow_pos}
use lib.Ieee.Positive.{num, den, positive, den_pos, own_value, above, above_of_le, first_pos}
use lib.Ieee.Order.{le_of_values}
use lib.Ieee.Exact.{HasValue}
use Rattle.float.specs.Finite.{rounded}
use Rattle.float.specs.Fused.{fused_of}
use Rattle.float.proofs.Align.{sum_minus_zero}
use Rattle.float.proofs.Sticky.{side}
use Rattle.float.proofs.Bounds.{Low, Held, Yields, sign, one, low_mag, mag_size, mag_finite, low_wider, low_value, low_of_le, le_of_mag, held_small, held_own, mul_low, blend_low, absorb_low}
use Rattle.float.specs.Numbers.{zero32, one32}
use Rattle.vad_config.specs.Domain.{in_unit}
use Rattle.vad_config.specs.declared.VadConfig.{VadConfig}
use Rattle.vad_config.proofs.Laws.{Accepted}
use Rattle.vad_config.proofs.Ranges.{unit_in}
use Rattle.vad_segments.specs.Loudness.{ratio_of, weight_of, at_least, floor_of, lesser_of, least_from, seed_of}
use Rattle.vad_segments.specs.Closing.{booked_of, closed_by, closed_of}
use Rattle.vad_segments.specs.Judging.{floored_to, active_to, begun_at, segment_for, extended_by, loud_added, paused_by, paused_of, is_loud, is_speech, floor_after, turned_of, judged_of, track_after, ended_of, call_track}
use Rattle.vad_segments.specs.declared.Rules.{Rules}
use Rattle.vad_segments.specs.declared.FrameMetrics.{FrameMetrics}
use Rattle.vad_segments.specs.declared.Track.{Track}
use Rattle.lists.specs.Every.{Every}
use Rattle.lists.proofs.Tests.{either}
use Rattle.vad_segments.proofs.Ordered.{after_kept, judged_active, ended_active}

one_is : one32 ≡ one
unfolding of_bits
one_is = refl

-- ---- `energy_floor`: an f32 above 0
abbrev pub Least : Float → Type 0
Least x = T (fits binary32 x) × T (positive x)

above_zero : (x : Float) → T (lt zero32 x) → T (finite x) → T (positive x)
unfolding lt of_bits
above_zero nan h f = absurd f
above_zero (inf s) h f = absurd f
above_zero (fin true m e) h f = absurd h
above_zero (fin false m e) h f = let z = ltb→lt (0 * 1 * down e) (m * up e * 1) h in lt→ltb 0 m (first_pos m (up e) (omega arith))

-- as 9 and the format say
pub least_of : (c : VadConfig) → Accepted c → T (fits binary32 c.energy_floor) → Least c.energy_floor
least_of c a t = (t, above_zero c.energy_floor a.floor a.floor_finite)

-- ---- a weight of f32 from 0 to 1; −0 is one
abbrev pub minus0 : Float
minus0 = fin true 0 (pos 0)

abbrev pub Weight : Float → Type 0
Weight w = T (fits binary32 w) × (Low w 1 1 ⊎ (w ≡ minus0))

minus_zero : (m : ℕ) (e : ℤ) → T (fits binary32 (fin true m e)) → m * up e ≡ 0 → fin true m e ≡ minus0
unfolding fits
minus_zero zero (pos zero) t h = refl
minus_zero zero (pos (suc i)) t h = absurd (omega (arith, eqb→eq (2 ^ suc i * 1) 1 t, pow_pos i))
minus_zero zero (negsuc i) t h = absurd (omega (arith, eqb→eq (1 * 2 ^ suc i) 1 t, pow_pos i))
minus_zero (suc m) e t h = absurd (omega (arith, mul-pos (zero-lt-suc m) (up_pos e)))

zero_low : (m : ℕ) (e : ℤ) → T (le zero32 (fin true m e)) → m * up e ≡ 0
unfolding le lt eq of_bits
zero_low m e l = let z = eqb→eq (0 * 1 * down e) (m * up e * 1) (and_l (eqb (0 * 1 * down e) (m * up e * 1)) (eqb (0 * 1 * down e) 0) l) in omega arith

-- at least 0 and at most 1, compared as floats
weight_of_lem : (w : Float) → T (fits binary32 w) → T (le zero32 w) → T (le w one32) → Weight w
weight_of_lem nan t l u = absurd (unfold le lt eq of_bits in l)
weight_of_lem (inf true) t l u = absurd (unfold le lt eq of_bits in l)
weight_of_lem (inf false) t l u = absurd (unfold le lt eq of_bits in u)
weight_of_lem (fin true m e) t l u = (t, inr (minus_zero m e t (zero_low m e l)))
weight_of_lem (fin false m e) t l u = (t, inl (low_of_le (fin false m e) one32 1 1 refl (unfold of_bits in (refl, refl)) u))

lt_le : (x y : Float) → T (lt x y) → T (le x y)
unfolding le
lt_le x y h = left (lt x y) (eq x y) h
  where
    left : (a b : Bool) → T a → T (a || b)
    left true b t = tt
    left false b t = absurd t

-- '`noise_smoothing` .. in [0,1)'
pub unit_weight : (w : Float) → T (fits binary32 w) → in_unit w ≡ true → Weight w
unit_weight w t h = weight_of_lem w t (unit_in w h).0 (lt_le w one32 (unit_in w h).1)

-- 0.5
abbrev pub half32 : Float
half32 = of_bits binary32 0x3F00_0000

half_positive : T (positive half32)
unfolding of_bits
half_positive = tt

above_sign : (x : Float) → T (above x) → sign x ≡ false
above_sign nan h = refl
above_sign (inf true) h = absurd h
above_sign (inf false) h = refl
above_sign (fin true m e) h = absurd h
above_sign (fin false m e) h = refl

-- 'the rise weight .. in [0.5,1]'
pub rise_weight : (w : Float) → T (fits binary32 w) → T (le half32 w) → T (le w one32) → Weight w
rise_weight w t l u = (t, inl (low_of_le w one32 1 1 (above_sign w (above_of_le half32 w half_positive l)) (unfold of_bits in (refl, refl)) u))

-- ---- the weight −0 does what +0 does
abbrev plus0 : Float
plus0 = fin false 0 (pos 0)

fused_minus : (x z : Float) (a b n d : ℕ) → Low x a b → Low z n d → fused_of minus0 x z ≡ fused_of plus0 x z
unfolding fused_of
fused_minus nan z a b n d h g = absurd h
fused_minus (inf s) z a b n d h g = absurd h
fused_minus (fin true m e) z a b n d h g = absurd h
fused_minus (fin false m e) nan a b n d h g = absurd g
fused_minus (fin false m e) (inf s) a b n d h g = absurd g
fused_minus (fin false m e) (fin true p i) a b n d h g = absurd g
fused_minus (fin false m e) (fin false p i) a b n d h g = rw (zero-mul (m * up e), zero-mul (down i)) (ap rounded (sum_minus_zero binary32 (p * up i * (1 * down e)) (1 * down e * down i)))

rest_minus : sub binary32 one minus0 ≡ sub binary32 one plus0
unfolding sub add neg sum round
rest_minus = refl

rest_low : Low (sub binary32 one plus0) 1 1
unfolding sub add neg sum round
rest_low = lit≤ tt

plus_fits : T (fits binary32 plus0)
unfolding fits
plus_fits = tt

blend_minus : (x e : Float) (n k : ℕ) → Low x n k → Low e (2 ^ 17) 1 → fused_of minus0 x (mul binary32 (sub binary32 one minus0) e) ≡ fused_of plus0 x (mul binary32 (sub binary32 one plus0) e)
blend_minus x e n k h g =
    let y = sub binary32 one plus0 in
    ap (λ (r : Float). fused_of minus0 x (mul binary32 r e)) rest_minus
    ∙ fused_minus x (mul binary32 y e) n k (2 ^ 17) 1 h (mul_low binary32 y e 1 1 (2 ^ 17) 1 (2 ^ 17) 1 (lit< tt) (lit< tt) (lit< tt) (held_small binary32 (2 ^ 17) (lit≤ tt)) rest_low g (lit≤ tt))

-- ---- weight × floor + (1 − weight) × energy
abbrev pub blend_of : Float → Float → Float → Option Float
blend_of w x e = fused_of w x (mul binary32 (sub binary32 one32 w) e)

-- what bounds a floor: a value n / k of f32 that is at least 2^18 and at least `energy_floor`, and no more than one of them
pub record Bound (least : Float) (n k : ℕ) : Type 0 where
  pub some : 0 < k
  pub held : Held binary32 n k
  pub wide : 2 ^ 18 * k ≤ n
  pub over : Low least n k
  pub back : (v : Float) → Low v n k → Low v (2 ^ 18) 1 ⊎ T (le v least)

-- there is one
pub bound_of : (least : Float) → Least least → (n : ℕ) × (k : ℕ) × Bound least n k
bound_of x t =
    let n = num x in
    let k = den x in
    let v : HasValue x false n k = own_value x t.1 in
    elim (side (2 ^ 18 * k) n) [
      | inl l ↦ (n, k, record { some = den_pos x; held = held_own binary32 x false n k t.0 (den_pos x) v; wide = le_of_lt l; over = low_value x n k v; back = λ u h. inr (le_of_mag u x n k (den_pos x) v (low_mag u n k h)).1 })
      | inr g ↦ (2 ^ 18, 1, record { some = lit< tt; held = held_small binary32 (2 ^ 18) (lit≤ tt); wide = lit≤ tt; over = low_wider x n k (2 ^ 18) 1 (den_pos x) (low_value x n k v) (omega arith); back = λ u h. inl h })
    ]

blend_found : (least w x e : Float) (n k : ℕ) → Bound least n k → Weight w → Low x n k → Low e (2 ^ 17) 1 → Yields (blend_of w x e) (λ v. Low v n k)
blend_found least w x e n k b t h g =
    rw one_is
    (⊎_elim (λ l. blend_low w x e n k b.some t.0 b.held b.wide l h g)
    (λ z. subst (λ (v : Float). Yields (fused_of v x (mul binary32 (sub binary32 one v) e)) (λ u. Low u n k)) (sym z)
    (subst (λ (y : Option Float). Yields y (λ u. Low u n k)) (sym (blend_minus x e n k h g)) (blend_low plus0 x e n k b.some plus_fits b.held b.wide (lit≤ tt) h g)))
    t.1)

-- ---- the floor

-- an f32, at least `energy_floor`, and at most the greater of 2^18 and `energy_floor`
abbrev pub FloorHeld : Float → Float → Type 0
FloorHeld least x = T (fits binary32 x) × T (le least x) × (Low x (2 ^ 18) 1 ⊎ T (le x least))

floor_low : (least x : Float) (n k : ℕ) → Least least → Bound least n k → FloorHeld least x → Low x n k
floor_low least x n k t b h =
    ⊎_elim (λ l. low_wider x (2 ^ 18) 1 n k (lit< tt) l (omega (arith, b.wide)))
    (λ l. low_wider x (num least) (den least) n k (den_pos least) (low_of_le x least (num least) (den least) (above_sign x (above_of_le least x t.1 h.1)) (own_value least t.1) l) (mag_size least n k (low_mag least n k b.over)))
    h.2

le_self : (x : Float) → T (positive x) → T (le x x)
le_self x p = le_of_values x x (num x) (den x) (num x) (den x) (den_pos x) (den_pos x) (own_value x p) (own_value x p) (le_refl (num x * den x))

-- `energy_floor` itself, with which an opening and a reset begin
pub least_held : (least : Float) → Least least → FloorHeld least least
least_held least t = (t.0, le_self least t.1, inr (le_self least t.1))

not_below : (x v : Float) (n k : ℕ) → T (positive x) → Low v n k → lt v x ≡ false → T (le x v)
unfolding lt
not_below nan v n k p h e = absurd p
not_below (inf s) v n k p h e = absurd p
not_below (fin true m i) v n k p h e = absurd p
not_below (fin false m i) nan n k p h e = absurd h
not_below (fin false m i) (inf s) n k p h e = absurd h
not_below (fin false m i) (fin true q j) n k p h e = absurd h
not_below (fin false m i) (fin false q j) n k p h e =
    le_of_values (fin false m i) (fin false q j) (m * up i) (down i) (q * up j) (down j) (down_pos i) (down_pos j) (refl, refl) (refl, refl) (ltb-false (q * up j * down i) (m * up i * down j) e)

at_least_held : (least v : Float) (n k : ℕ) → Least least → T (fits binary32 v) → Low v n k → (Low v (2 ^ 18) 1 ⊎ T (le v least)) → FloorHeld least (at_least least v)
unfolding at_least
at_least_held least v n k t u h b = go (lt v least) (not_below least v n k t.1 h)
  where
    go : (s : Bool) → (s ≡ false → T (le least v)) → FloorHeld least (cond s least v)
    go true f = least_held least t
    go false f = (u, f refl, b)

-- there is always a number, so the 0 that stands for none is never taken; and the new floor is held as the old one was
pub floor_found : (least w x e : Float) → Least least → Weight w → FloorHeld least x → Low e (2 ^ 17) 1 → Yields (blend_of w x e) (λ v. Low v (2 ^ 18) 1 ⊎ T (le v least)) × FloorHeld least (floor_of least w x e)
unfolding floor_of
floor_found least w x e t u h g =
    let b = bound_of least t in
    let y = blend_found least w x e b.0 b.1 b.2 u (floor_low least x b.0 b.1 t b.2 h) g in
    let z = b.2.back y.0 y.3 in
    ((y.0, y.1, y.2, z), rw y.1 (at_least_held least y.0 b.0 b.1 t y.2 y.3 z))

-- 'the noise floor isn't finite': it is
pub floor_is_finite : (least x : Float) → Least least → FloorHeld least x → T (finite x)
floor_is_finite least x t h = let b = bound_of least t in mag_finite x b.0 b.1 (low_mag x b.0 b.1 (floor_low least x b.0 b.1 t b.2 h))

-- ---- over frames

-- an energy: an f32 from +0 to 131,072
abbrev pub EnergyIn : Float → Type 0
EnergyIn e = T (fits binary32 e) × Low e (2 ^ 17) 1

-- what an opening and the format f32 say of the settings that move the floor
pub record FloorRules (r : Rules) : Type 0 where
  pub least : Least r.config.energy_floor
  pub smoothing : Weight r.config.noise_smoothing
  pub rise : Weight r.speech_floor_rise

-- an accepted opening has them
pub floor_rules : (r : Rules) → Accepted r.config → T (fits binary32 r.config.energy_floor) → T (fits binary32 r.config.noise_smoothing) → T (fits binary32 r.speech_floor_rise)
    → T (le half32 r.speech_floor_rise) → T (le r.speech_floor_rise one32) → FloorRules r
floor_rules r a f s t l u = record { least = least_of r.config a f; smoothing = unit_weight r.config.noise_smoothing s a.smoothing; rise = rise_weight r.speech_floor_rise t l u }

closed_by_floor : (r : Rules) (limit : ℕ) (t : Track) (a : Option ActiveSegmentState) → (closed_by r limit t a).track.noise_floor ≡ t.noise_floor
unfolding closed_by booked_of
closed_by_floor r limit t None = refl
closed_by_floor r limit t (Some s) = refl

-- closing leaves the floor
pub closed_floor : (r : Rules) (limit : ℕ) (t : Track) → (closed_of r limit t).track.noise_floor ≡ t.noise_floor
unfolding closed_of
closed_floor r limit t = closed_by_floor r limit t t.active_segment

-- a call's end leaves it too
pub ended_floor : (finish : Bool) (r : Rules) (limit : ℕ) (t : Track) → (ended_of finish r limit t).track.noise_floor ≡ t.noise_floor
unfolding ended_of
ended_floor true r limit t = closed_floor r limit t
ended_floor false r limit t = refl

turned_floor : (r : Rules) (limit : ℕ) (t : Track) (f : FrameMetrics) (ratio : Float) (loud speech : Bool) → (turned_of r limit t f ratio loud speech).track.noise_floor ≡ t.noise_floor
unfolding turned_of loud_added paused_of active_to
turned_floor r limit t f ratio true speech = refl
turned_floor r limit t f ratio false true = refl
turned_floor r limit t f ratio false false = closed_floor r limit t

-- a frame moves it by the rule
pub judged_floor : (r : Rules) (limit : ℕ) (t : Track) (f : FrameMetrics) → (judged_of r limit t f).track.noise_floor ≡ floor_after r t f
unfolding judged_of floored_to
judged_floor r limit t f = turned_floor r limit (floored_to (floor_after r t f) t) f (ratio_of f.energy t.noise_floor) (is_loud r t f) (is_speech r t f)

-- 'rise when in speech and energy is above the floor, else smoothing': a weight either way
pub weight_held : (r : Rules) (speech : Bool) (x e : Float) → FloorRules r → Weight (weight_of r.speech_floor_rise r.config.noise_smoothing speech x e)
unfolding weight_of
weight_held r speech x e k = either Weight (speech && lt x e) r.speech_floor_rise r.config.noise_smoothing k.rise k.smoothing

-- the floor of a track
abbrev pub TrackFloor : Rules → Track → Type 0
TrackFloor r t = FloorHeld r.config.energy_floor t.noise_floor

-- a frame keeps the floor held
pub floor_kept : (r : Rules) (limit : ℕ) (t : Track) (f : FrameMetrics) → FloorRules r → EnergyIn f.energy → TrackFloor r t → TrackFloor r (judged_of r limit t f).track
unfolding floor_after
floor_kept r limit t f k e h =
    let least = r.config.energy_floor in
    let x = t.noise_floor in
    let w = weight_of r.speech_floor_rise r.config.noise_smoothing (is_speech r t f) x f.energy in
    subst (FloorHeld least) (sym (judged_floor r limit t f)) (floor_found least w x f.energy k.least (weight_held r (is_speech r t f) x f.energy k) h e.1).1

-- frames keep it
pub floor_kept_after : (r : Rules) (limit : ℕ) (fs : List FrameMetrics) (t : Track) → FloorRules r → Every (λ f. EnergyIn f.energy) fs → TrackFloor r t → TrackFloor r (track_after r limit t fs)
floor_kept_after r limit fs t k = after_kept r limit (TrackFloor r) (λ f. EnergyIn f.energy) (λ u f. floor_kept r limit u f k) fs t

-- a call keeps it
pub floor_kept_call : (finish : Bool) (r : Rules) (limit : ℕ) (t : Track) (fs : List FrameMetrics) → FloorRules r → Every (λ f. EnergyIn f.energy) fs → TrackFloor r t → TrackFloor r (call_track finish r limit t fs)
unfolding call_track
floor_kept_call finish r limit t fs k e h = subst (FloorHeld r.config.energy_floor) (sym (ended_floor finish r limit (track_after r limit t fs))) (floor_kept_after r limit fs t k e h)

-- ---- the seed
least_in : (m : Float) (es : List Float) → EnergyIn m → Every EnergyIn es → EnergyIn (least_from m es)
unfolding least_from lesser_of
least_in m [] h g = h
least_in m (e ∷ es) h g = least_in (cond (lt e m) e m) es (either EnergyIn (lt e m) e m g.0 h) g.1

-- the floor that ends the warm-up is held
pub seed_held : (least x : Float) (es : List Float) → Least least → FloorHeld least x → Every EnergyIn es → FloorHeld least (seed_of least x es)
unfolding seed_of
seed_held least x [] t h g = h
seed_held least x (e ∷ es) t h g =
    let m = least_from e es in
    let i = least_in e es g.0 g.1 in
    at_least_held least m (2 ^ 17) 1 t i.0 i.1 (inl (low_wider m (2 ^ 17) 1 (2 ^ 18) 1 (lit< tt) i.1 (lit≤ tt)))

-- ---- the energy total of the open segment: an f32 from +0 to 2^60
abbrev pub EnergyHeld : Float → Type 0
EnergyHeld x = T (fits binary32 x) × Low x (2 ^ 60) 1

-- if one is open
abbrev pub ActiveHeld : Option ActiveSegmentState → Type 0
ActiveHeld None = Unit {0}
ActiveHeld (Some s) = EnergyHeld s.energy_sum

zero_held : EnergyHeld (of_bits binary32 0)
unfolding of_bits fits
zero_held = (tt, lit≤ tt)

segment_held : (a : Option ActiveSegmentState) (start : ℕ) → ActiveHeld a → EnergyHeld (segment_for a start).energy_sum
unfolding segment_for begun_at
segment_held None start h = zero_held
segment_held (Some s) start h = h

extended_held : (a : Option ActiveSegmentState) (start : ℕ) (f : FrameMetrics) (ratio : Float) → Low f.energy (2 ^ 17) 1 → ActiveHeld a → ActiveHeld (Some (extended_by f ratio (segment_for a start)))
unfolding extended_by
extended_held a start f ratio e h =
    let x = (segment_for a start).energy_sum in
    (add-fits binary32 x f.energy, absorb_low x f.energy (segment_held a start h).1 e)

paused_held : (a : Option ActiveSegmentState) → ActiveHeld a → ActiveHeld (paused_by a)
unfolding paused_by
paused_held None h = tt
paused_held (Some s) h = h

-- a frame keeps the total held
pub energy_kept : (r : Rules) (limit : ℕ) (t : Track) (f : FrameMetrics) → EnergyIn f.energy → ActiveHeld t.active_segment → ActiveHeld (judged_of r limit t f).track.active_segment
energy_kept r limit t f e h =
    judged_active ActiveHeld r limit t f tt
    (λ z. extended_held t.active_segment (max f.start_sample t.last_segment_end) f (ratio_of f.energy t.noise_floor) e.1 h)
    (λ y z. paused_held t.active_segment h)

-- frames keep it
pub energy_kept_after : (r : Rules) (limit : ℕ) (fs : List FrameMetrics) (t : Track) → Every (λ f. EnergyIn f.energy) fs → ActiveHeld t.active_segment → ActiveHeld (track_after r limit t fs).active_segment
energy_kept_after r limit = after_kept r limit (λ u. ActiveHeld u.active_segment) (λ f. EnergyIn f.energy) (energy_kept r limit)

-- a call keeps it
pub energy_kept_call : (finish : Bool) (r : Rules) (limit : ℕ) (t : Track) (fs : List FrameMetrics) → Every (λ f. EnergyIn f.energy) fs → ActiveHeld t.active_segment → ActiveHeld (call_track finish r limit t fs).active_segment
unfolding call_track
energy_kept_call finish r limit t fs e h = ended_active ActiveHeld finish r limit (track_after r limit t fs) tt (energy_kept_after r limit fs t e h)

-- ---- what the tests of a state ask of these numbers
low_in : (x b : Float) (n : ℕ) → HasValue b false n 1 → Low x n 1 → T (le zero32 x) × T (le x b)
low_in x b n v h = (from_zero x n h, (le_of_mag x b n 1 (lit< tt) v (low_mag x n 1 h)).1)
  where
    from_zero : (x : Float) (n : ℕ) → Low x n 1 → T (le zero32 x)
    from_zero nan n h = absurd h
    from_zero (inf s) n h = absurd h
    from_zero (fin true m e) n h = absurd h
    from_zero (fin false m e) n h = le_of_values zero32 (fin false m e) 0 1 (m * up e) (down e) (lit< tt) (down_pos e) (unfold of_bits in (refl, refl)) (refl, refl) (omega arith)

-- 'a held energy isn't in [0, 131,072]': it is
pub energy_in : (e : Float) → EnergyIn e → T (le zero32 e) × T (le e (of_bits binary32 0x4800_0000))
energy_in e h = low_in e (of_bits binary32 0x4800_0000) (2 ^ 17) (unfold of_bits in (refl, refl)) h.1

-- 'energy total not in [0, 2^60]': it is
pub total_in : (x : Float) → EnergyHeld x → T (le zero32 x) × T (le x (of_bits binary32 0x5D80_0000))
total_in x h = low_in x (of_bits binary32 0x5D80_0000) (2 ^ 60) (unfold of_bits in (refl, refl)) h.1
