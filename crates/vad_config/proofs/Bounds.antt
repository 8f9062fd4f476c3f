-- Bounds of floats carried to the whole numbers that they round to, and of the three lengths that come from floats.
use Rattle.std.proofs.Common.{◌≡◌, ℕ, zero, suc, ◌+◌, ◌-◌, ◌*◌, ◌/◌, ◌%◌, ◌^◌, ◌<◌, ◌≤◌, min, Bool, true, false, cond, ◌&&◌, T, eqb, ltb, ℤ, pos, refl, ap, ◌∙◌, zero-lt-suc, suc-mul, div-lt_iff_lt-mul, mul-pos, le-div_iff_mul-le, mul_left_comm, arith, lit<, lit≤, eqb→eq, ltb→lt, le-ltb}
use lib.Dec.{eqb-suc-zero}
use lib.Ieee.{Float, nan, inf, fin, Format, binary32, binary64, prec, up, down, round, sum, add, sub, mul, div, neg, lt, le, eq, of_int, of_bits}
use lib.Ieee.Fits.{and_l, down_pos, up_pos}
use lib.Ieee.Exact.{HasValue}
use lib.Ieee.Back.{round_whole}
use lib.Ieee.Order.{round_mono}
use lib.Ieee.Positive.{positive, positive_of_value, own_value, values_of_le, above, above_of_le}
use Rattle.float.specs.Whole.{round_of, ceil_of}
use Rattle.float.proofs.Bounds.{Low, Mag, Held, low_value, over_value, held_small, round_low, mul_weight_low, mul_low, add_low, div_low}
use Rattle.float.specs.Numbers.{zero32, one32}
use Rattle.vad_config.specs.Domain.{in_unit}
use Rattle.vad_config.specs.Lengths.{hop_length_of, warmup_seconds, warmup_frames_of, seconds_of, padding_samples_of}
use Rattle.vad_config.proofs.Ranges.{unit_in}

-- ---- what a bound says of the whole number
round_at : (m : ℕ) (e : ℤ) → round_of (fin false m e) ≡ min ((2 * (m * up e) + down e) / (2 * down e)) 18446744073709551615
unfolding round_of
round_at m e = refl

pub round_le : (x : Float) (n : ℕ) → Low x n 1 → round_of x ≤ n
round_le nan n h = absurd h
round_le (inf s) n h = absurd h
round_le (fin true m e) n h = absurd h
round_le (fin false m e) n h =
    let r = round_at m e in
    let q : (2 * (m * up e) + down e) / (2 * down e) < suc n = (div-lt_iff_lt-mul (mul-pos (lit< tt) (down_pos e))).1 (under (m * up e) (down e) n (down_pos e) h) in
    omega arith
  where
    under : (N D n : ℕ) → 0 < D → N * 1 ≤ n * D → 2 * N + D < suc n * (2 * D)
    under N D n p h = let a : suc n * (2 * D) ≡ 2 * (n * D) + 2 * D = suc-mul n (2 * D) ∙ ap (λ (k : ℕ). k + 2 * D) (mul_left_comm n 2 D) in omega arith

ceil_at : (m : ℕ) (e : ℤ) → ceil_of (fin false m e) ≡ min ((m * up e + (down e - 1)) / down e) 18446744073709551615
unfolding ceil_of
ceil_at m e = refl

-- a value that is at least the whole number n is n or more, rounded up
pub ceil_ge : (b x : Float) (n : ℕ) → 0 < n → n ≤ 18446744073709551615 → HasValue b false n 1 → T (le b x) → n ≤ ceil_of x
ceil_ge b x n p h v t = go x (above_of_le b x B t) t
  where
    B : T (positive b)
    B = positive_of_value b n 1 v p

    go : (x : Float) → T (above x) → T (le b x) → n ≤ ceil_of x
    go nan a t = absurd a
    go (inf true) a t = absurd a
    go (inf false) a t = unfold ceil_of in h
    go (fin true m e) a t = absurd a
    go (fin false m e) a t =
        let c = ceil_at m e in
        let l : n * down e ≤ m * up e * 1 = values_of_le b (fin false m e) n 1 (m * up e) (down e) B a v (own_value (fin false m e) a) t in
        let q : n ≤ (m * up e + (down e - 1)) / down e = (le-div_iff_mul-le (down_pos e)).1 (omega arith) in
        omega arith

whole_value : (f : Format) (n : ℕ) → n ≤ 2 ^ prec f → HasValue (of_int f (pos n)) false n 1
unfolding of_int
whole_value f n h = round_whole f false n h

-- ---- hops: 1 - overlap is at most 1
rest_is : (f : Format) (m : ℕ) (e : ℤ) → m * up e ≤ down e → sub f (fin false 1 (pos 0)) (fin false m e) ≡ round f false (1 * down e - m * up e * 1) (1 * down e)
unfolding sub add neg sum
rest_is f m e h = let A = 1 * down e in let B = m * up e * 1 in
    ap (λ (z : Bool). cond z (round f true (B - A) A) (round f (false && ltb B A) (A - B) A)) (le-ltb A B (omega arith))

whole_is : (f : Format) (m : ℕ) (e : ℤ) → sub f (fin false 1 (pos 0)) (fin true m e) ≡ round f false (1 * down e + m * up e * 1) (1 * down e)
unfolding sub add neg sum
whole_is f m e = refl

-- the sizes of what is in [0,1): with the sign - it is a zero
unit_plus : (m : ℕ) (e : ℤ) → T (lt (fin false m e) one32) → m * up e < down e
unfolding lt of_bits
unit_plus m e u = let z = ltb→lt (m * up e * 1) (1 * 1 * down e) u in omega arith

unit_minus : (m : ℕ) (e : ℤ) → T (le zero32 (fin true m e)) → m * up e ≡ 0
unfolding le lt eq of_bits
unit_minus m e l = let z = eqb→eq (0 * 1 * down e) (m * up e * 1) (and_l (eqb (0 * 1 * down e) (m * up e * 1)) (eqb (0 * 1 * down e) 0) l) in omega arith

pub unit_mag : (x : Float) → in_unit x ≡ true → Mag x 1 1
unit_mag x h = go x (unit_in x h).0 (unit_in x h).1
  where
    go : (x : Float) → T (le zero32 x) → T (lt x one32) → Mag x 1 1
    go nan l u = unfold le lt eq of_bits in l
    go (inf true) l u = unfold le lt eq of_bits in l
    go (inf false) l u = unfold lt of_bits in u
    go (fin true m e) l u = omega (arith, unit_minus m e l)
    go (fin false m e) l u = omega (arith, unit_plus m e u)

rest_low : (x : Float) → T (le zero32 x) → T (lt x one32) → Low (sub binary32 one32 x) 1 1
unfolding le lt eq of_bits
rest_low nan l u = absurd l
rest_low (inf true) l u = absurd l
rest_low (inf false) l u = absurd u
rest_low (fin true m e) l u =
    let z = unit_minus m e l in
    rw (whole_is binary32 m e) (round_low binary32 (1 * down e + m * up e * 1) (1 * down e) 1 1 1 1 (omega (arith, down_pos e)) (lit< tt) (held_small binary32 1 (lit≤ tt)) (omega arith))
rest_low (fin false m e) l u =
    let z = unit_plus m e u in
    rw (rest_is binary32 m e (omega arith)) (round_low binary32 (1 * down e - m * up e * 1) (1 * down e) 1 1 1 1 (omega (arith, down_pos e)) (lit< tt) (held_small binary32 1 (lit≤ tt)) (omega arith))

-- for any overlap in [0,1), while the length is a value of f32
pub hop_le : (length : ℕ) (overlap : Float) → 1 ≤ length → length ≤ 2 ^ 24 → in_unit overlap ≡ true → hop_length_of length overlap ≤ length
unfolding hop_length_of
hop_le length overlap p h u =
    let i = unit_in overlap u in
    let x = of_int binary32 (pos length) in
    let y = sub binary32 one32 overlap in
    let q : round_of (mul binary32 x y) ≤ length = round_le (mul binary32 x y) length (mul_weight_low binary32 x y length 1 (lit< tt) (held_small binary32 length h) (low_value x length 1 (whole_value binary32 length h)) (rest_low overlap i.0 i.1)) in
    omega arith

-- ---- warm-up: fewer than 8 samples a hop make a hop below 1/1,024 of a second
thousandth : Held binary64 1 1024
unfolding round
thousandth = (refl, refl)

many : (q : Float) → Low q 1 1024 → 307 ≤ ceil_of (div binary64 warmup_seconds q)
unfolding div of_bits ceil_of
many nan h = absurd h
many (inf s) h = absurd h
many (fin true m e) h = absurd h
many (fin false zero e) h = lit≤ tt
many (fin false (suc m) e) h =
    let a = 5404319552844595 * down e in
    let b = suc m * up e * 18014398509481984 in
    rw (eqb-suc-zero m)
    (ceil_ge (round binary64 false 307 1) (round binary64 false a b) 307 (lit< tt) (lit≤ tt) (round_whole binary64 false 307 (lit≤ tt))
    (round_mono binary64 307 1 a b (lit< tt) (mul-pos (mul-pos (zero-lt-suc m) (up_pos e)) (lit< tt)) (omega arith)))

pub warmup_many : (hop rate : ℕ) → hop ≤ 7 → 8000 ≤ rate → rate ≤ 48000 → 307 ≤ warmup_frames_of hop rate
unfolding warmup_frames_of
warmup_many hop rate h l u =
    let x = of_int binary64 (pos hop) in
    let y = of_int binary64 (pos rate) in
    let q = many (div binary64 x y) (div_low binary64 x y hop 1 rate 1 1 1024 (lit< tt) (omega arith) (lit< tt) thousandth (low_value x hop 1 (whole_value binary64 hop (omega arith))) (over_value y rate 1 (whole_value binary64 rate (omega arith))) (omega arith)) in
    omega arith

-- ---- padding: at most a second
seconds_low : (ns : ℕ) → ns ≤ 1000000000 → Low (seconds_of ns) 1 1
unfolding seconds_of
seconds_low ns h =
    let s = ns / 1000000000 in
    let r = ns % 1000000000 in
    let x = of_int binary64 (pos s) in
    let y = of_int binary64 (pos r) in
    let z = of_int binary64 (pos 1000000000) in
    add_low binary64 x (div binary64 y z) s 1 (1 - s) 1 1 1 (lit< tt) (lit< tt) (lit< tt) 1 1 (held_small binary64 1 (lit≤ tt)) (low_value x s 1 (whole_value binary64 s (omega arith)))
    (div_low binary64 y z r 1 1000000000 1 (1 - s) 1 (lit< tt) (lit< tt) (lit< tt) (held_small binary64 (1 - s) (omega arith)) (low_value y r 1 (whole_value binary64 r (omega arith))) (over_value z 1000000000 1 (whole_value binary64 1000000000 (lit≤ tt))) (omega arith))
    (omega arith)

pub padding_le : (ns rate : ℕ) → ns ≤ 1000000000 → rate ≤ 48000 → padding_samples_of ns rate ≤ rate
unfolding padding_samples_of
padding_le ns rate h g =
    let y = of_int binary64 (pos rate) in
    round_le _ rate (mul_low binary64 (seconds_of ns) y 1 1 rate 1 rate 1 (lit< tt) (lit< tt) (lit< tt) (held_small binary64 rate (omega arith)) (seconds_low ns h) (low_value y rate 1 (whole_value binary64 rate (omega arith))) (omega arith))
