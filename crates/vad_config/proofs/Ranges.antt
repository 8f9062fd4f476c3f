-- What the tests of the domain say.
use Rattle.std.proofs.Common.{◌≡◌, ℕ, ◌+◌, ◌*◌, ◌/◌, ◌%◌, ◌^◌, ◌<◌, ◌≤◌, true, T, leb, sym, ap, ◌∙◌, add_assoc, mod-lt, add-mul, mul-le-mul, mul-le-mul_left, div-add-mod', div-le_self, mul_right_comm, div-mul-le_self, arith, ltb→lt, leb→le}
use native.Mathlib.Nat.{mul-add-div_right}
use lib.Ieee.{Float, le, lt}
use lib.Ieee.Fits.{and_l, and_r}
use Rattle.float.proofs.Words.{T_of}
use Rattle.float.specs.Numbers.{zero32, one32}
use Rattle.ranges.specs.Ranges.{rate_in}
use Rattle.ranges.proofs.Laws.{rate_in_lem}
use Rattle.vad_config.specs.Domain.{in_unit, duration_in, start_in}

pub unit_in : (x : Float) → in_unit x ≡ true → T (le zero32 x) × T (lt x one32)
unfolding in_unit
unit_in x h = (and_l (le zero32 x) (lt x one32) (T_of h), and_r (le zero32 x) (lt x one32) (T_of h))

pub duration_in_lem : (ns : ℕ) → duration_in ns ≡ true → (1 ≤ ns) × (ns ≤ 1000000000)
unfolding duration_in
duration_in_lem ns h = (leb→le 1 ns (and_l (leb 1 ns) (leb ns 1000000000) (T_of h)), leb→le ns 1000000000 (and_r (leb 1 ns) (leb ns 1000000000) (T_of h)))

pub start_in_lem : (ns : ℕ) → start_in ns ≡ true → ns < 2 ^ 63
unfolding start_in
start_in_lem ns h = ltb→lt ns (2 ^ 63) (T_of h)

-- ---- what the code's products come to
pub frame_fits : (ns rate : ℕ) → rate_in rate ≡ true → duration_in ns ≡ true → ns * rate ≤ 48000000000000
frame_fits ns rate r d = mul-le-mul (duration_in_lem ns d).1 (rate_in_lem rate r).1

pub rest_fits : (rate n : ℕ) → 8000 ≤ rate → rate ≤ 48000 → n % rate * 1000000000 ≤ 48000000000000
rest_fits rate n h g = let m = mod-lt n {m = rate} (omega arith) in omega arith

pub seconds_fit : (rate n : ℕ) → 8000 ≤ rate → n ≤ 2 ^ 40 → n / rate ≤ 137438953
seconds_fit rate n h g =
    let a : n / rate * rate ≤ n = div-mul-le_self n rate in
    let b : n / rate * 8000 ≤ n / rate * rate = mul-le-mul_left (n / rate) h in
    omega arith

-- the start, whole seconds, and a rest of less than 2 ^ 62
pub time_held : (start seconds rest rate : ℕ) → start < 2 ^ 63 → seconds ≤ 137438953 → rest < 2 ^ 62 → start + seconds * 1000000000 + rest / rate < 2 ^ 64
time_held start seconds rest rate s q h = let d = div-le_self rest rate in omega arith

-- whole seconds and the rest
pub time_split : (rate n half : ℕ) → 0 < rate → (n * 1000000000 + half) / rate ≡ n / rate * 1000000000 + (n % rate * 1000000000 + half) / rate
time_split rate n half h =
    ap (λ (k : ℕ). (k * 1000000000 + half) / rate) (sym (div-add-mod' n rate))
    ∙ ap (λ (k : ℕ). (k + half) / rate) (add-mul (n / rate * rate) (n % rate) 1000000000 ∙ ap (λ (k : ℕ). k + n % rate * 1000000000) (mul_right_comm (n / rate) rate 1000000000))
    ∙ ap (λ (k : ℕ). k / rate) (add_assoc (n / rate * 1000000000 * rate) (n % rate * 1000000000) half)
    ∙ mul-add-div_right h (n / rate * 1000000000) (n % rate * 1000000000 + half)

-- what `time_of_sample` stands on
pub ruleset times = (rate_in_lem, start_in_lem, rest_fits, seconds_fit, time_held, time_split)
