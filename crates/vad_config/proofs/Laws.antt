-- What holds of settings that are not refused, and of the time of a sample. Other crates cite these laws, and not the definitions.
use Rattle.std.proofs.Common.{◌≡◌, ℕ, zero, suc, ◌+◌, ◌*◌, ◌/◌, ◌^◌, ◌<◌, ◌≤◌, Bool, true, false, not, ◌&&◌, ◌||◌, T, eqb, ltb, sym, ap, ◌∙◌, refl, inl, inr, true≢false, le_trans, le_of_eq, le_refl, add-le-add, mul-le-mul_right, zero-lt-suc, eq-or-lt_of_le, mul-le-mul_left, div-mul-le_self, arith, ltb-false, le-ltb, lt-ltb, eq-eqb, le-leb}
use native.Mathlib.Nat.{div-zero}
use Rattle.std.specs.Prelude.{Result, ⊤, is_ok}
use Rattle.refusals.specs.declared.Refusal.{Refusal}
use native.Mathlib.Decide.{dec_lt}
use lib.Ieee.{Float, nan, inf, fin, up, down, below, level, is_nan, lt, le, eq, of_bits}
use lib.Ieee.Nearest.{div_mono}
use lib.Ieee.Scale.{finite}
use borrow.Author.Tests.{not-false, eqb-false, eqb-true}
use Rattle.float.proofs.Words.{T_of}
use Rattle.refusals.proofs.First.{none_refused, ok_tells, passed}
use Rattle.vad_config.specs.declared.VadConfig.{VadConfig}
use Rattle.float.specs.Numbers.{zero32, one32}
use Rattle.ranges.specs.Ranges.{rate_in}
use Rattle.vad_config.specs.Domain.{in_unit, duration_in, start_in, received_in}
use Rattle.vad_config.specs.Lengths.{frame_samples, frame_length_of, warmup_frames_of, time_of, time_of_sample_of}
use Rattle.vad_config.specs.Settings.{framing_refusals, level_refusals, limit_refusals, outcome_of, refusal_of, lengths_of, frame_of, hop_of, warmup_of, padding_of}
use Rattle.ranges.proofs.Laws.{rate_in_lem}
use Rattle.vad_config.proofs.Ranges.{duration_in_lem, start_in_lem}
use Rattle.vad_config.proofs.Bounds.{hop_le, warmup_many, padding_le}

neither : (a b : Bool) → (a || b) ≡ false → (a ≡ false) × (b ≡ false)
neither true b h = absurd (true≢false h)
neither false b h = (refl, h)

-- of two floats that are no NaN, one is at most the other
at_most : (a b : ℕ) (e : Bool) → a ≤ b → (a ≡ b → e ≡ true) → T (ltb a b || (e && true))
at_most a b e h f = elim (eq-or-lt_of_le h) [ inl q ↦ rw (le-ltb a b (le_of_eq (sym q)), f q) tt | inr l ↦ rw (lt-ltb a b l) tt ]

not_below_sizes : (s : Bool) (a : ℕ) (t : Bool) (b : ℕ) → below s a t b ≡ false → T (below t b s a || level t b s a)
not_below_sizes false a false b h = at_most b a (eqb b a) (ltb-false a b h) (eq-eqb b a)
not_below_sizes false a true b h = elim (dec_lt 0 (b + a)) [
  | yes l ↦ rw (lt-ltb 0 (b + a) l) tt
  | no g ↦ rw (le-ltb 0 (b + a) (omega arith), eq-eqb b a (omega arith), eq-eqb b 0 (omega arith)) tt
]
not_below_sizes true a false b h = let z = ltb-false 0 (a + b) h in rw (eq-eqb b a (omega arith), eq-eqb b 0 (omega arith)) tt
not_below_sizes true a true b h = at_most a b (eqb b a) (ltb-false b a h) (λ q. eq-eqb b a (sym q))

not_below : (x y : Float) → is_nan x ≡ false → is_nan y ≡ false → lt x y ≡ false → T (le y x)
unfolding is_nan le lt eq
not_below nan y p q h = absurd (true≢false p)
not_below (inf s) nan p q h = absurd (true≢false q)
not_below (fin s m e) nan p q h = absurd (true≢false q)
not_below (inf true) (inf true) p q h = tt
not_below (inf true) (inf false) p q h = absurd (true≢false h)
not_below (inf false) (inf true) p q h = tt
not_below (inf false) (inf false) p q h = tt
not_below (inf true) (fin t n d) p q h = absurd (true≢false h)
not_below (inf false) (fin t n d) p q h = tt
not_below (fin s m e) (inf true) p q h = tt
not_below (fin s m e) (inf false) p q h = absurd (true≢false h)
not_below (fin s m e) (fin t n d) p q h = not_below_sizes s (m * up e * down d) t (n * up d * down e) h

finite_number : (x : Float) → T (finite x) → is_nan x ≡ false
unfolding is_nan
finite_number nan h = absurd h
finite_number (inf s) h = absurd h
finite_number (fin s m e) h = refl

-- what lies between 1 and a finite number is finite
between_finite : (x y : Float) → T (le one32 x) → T (le x y) → T (finite y) → T (finite x)
unfolding le lt eq of_bits
between_finite nan y l h f = absurd l
between_finite (inf true) y l h f = absurd l
between_finite (inf false) nan l h f = absurd f
between_finite (inf false) (inf t) l h f = absurd f
between_finite (inf false) (fin t n d) l h f = absurd h
between_finite (fin s m e) y l h f = tt

no_nan_one : is_nan one32 ≡ false
unfolding is_nan of_bits
no_nan_one = refl

no_nan_zero : is_nan zero32 ≡ false
unfolding is_nan of_bits
no_nan_zero = refl

-- 'not finite or below': neither
number_from : (x y : Float) → is_nan y ≡ false → (not (finite x) || lt x y) ≡ false → T (finite x) × T (le y x)
number_from x y n h =
    let p = neither (not (finite x)) (lt x y) h in
    let f = T_of (not-false (finite x) p.0) in
    (f, not_below x y (finite_number x f) n p.1)

-- ---- every check's fact
pub record Accepted (c : VadConfig) : Type 0 where
  pub rate : rate_in c.sample_rate ≡ true
  pub duration : duration_in c.frame_duration ≡ true
  pub overlap : in_unit c.frame_overlap ≡ true
  pub emphasis : c.has_pre_emphasis ≡ true → in_unit c.pre_emphasis ≡ true
  pub release : T (le one32 c.release_ratio)
  pub release_finite : T (finite c.release_ratio)
  pub activation : T (le c.release_ratio c.activation_ratio)
  pub activation_finite : T (finite c.activation_ratio)
  pub gate : T (le zero32 c.min_speech_energy)
  pub gate_finite : T (finite c.min_speech_energy)
  pub smoothing : in_unit c.noise_smoothing ≡ true
  pub floor : T (lt zero32 c.energy_floor)
  pub floor_finite : T (finite c.energy_floor)
  pub rate_low : 8000 ≤ c.sample_rate
  pub rate_high : c.sample_rate ≤ 48000
  pub duration_low : 1 ≤ c.frame_duration
  pub duration_high : c.frame_duration ≤ 1000000000
  pub frames_low : 1 ≤ c.min_speech_frames
  pub frames_high : c.min_speech_frames ≤ 10000
  pub hangover_high : c.hangover_frames ≤ 10000
  pub padding_high : c.speech_padding ≤ 1000000000
  pub start_high : c.stream_start_time < 2 ^ 63
  pub frame_high : frame_of c ≤ 2048
  pub warmup_high : warmup_of c ≤ 300

pub accepted : (c : VadConfig) → refusal_of c ≡ 0 → Accepted c
unfolding refusal_of outcome_of framing_refusals level_refusals limit_refusals
accepted c h =
    let p1 = passed _ _ (none_refused _ h) in
    let p2 = passed _ _ p1.1 in
    let p3 = passed _ _ p2.1 in
    let p4 = passed _ _ p3.1 in
    let p5 = passed _ _ p4.1 in
    let p6 = passed _ _ p5.1 in
    let p7 = passed _ _ p6.1 in
    let p8 = passed _ _ p7.1 in
    let p9 = passed _ _ p8.1 in
    let p10 = passed _ _ p9.1 in
    let p11 = passed _ _ p10.1 in
    let p12 = passed _ _ p11.1 in
    let p13 = passed _ _ p12.1 in
    let r = c.release_ratio in
    let a = c.activation_ratio in
    let e = c.energy_floor in
    let rate : rate_in c.sample_rate ≡ true = not-false _ p1.0 in
    let duration : duration_in c.frame_duration ≡ true = not-false _ p2.0 in
    let ratio = neither (is_nan r) (lt r one32) p5.0 in
    let release = not_below r one32 ratio.0 no_nan_one ratio.1 in
    let activation = number_from a r ratio.0 p6.0 in
    let gate = number_from c.min_speech_energy zero32 no_nan_zero p7.0 in
    let floor = neither (not (finite e)) (not (lt zero32 e)) p9.0 in
    let domain = neither _ _ p13.0 in
    let counts = neither _ _ domain.0 in
    let lengths = neither _ _ counts.0 in
    record {
      rate = rate;
      duration = duration;
      overlap = not-false _ p3.0;
      emphasis = λ present. not-false _ (rw present at p4.0);
      release = release;
      release_finite = between_finite r a release activation.1 activation.0;
      activation = activation.1;
      activation_finite = activation.0;
      gate = gate.1;
      gate_finite = gate.0;
      smoothing = not-false _ p8.0;
      floor = T_of (not-false (lt zero32 e) floor.1);
      floor_finite = T_of (not-false (finite e) floor.0);
      rate_low = (rate_in_lem _ rate).0;
      rate_high = (rate_in_lem _ rate).1;
      duration_low = (duration_in_lem _ duration).0;
      duration_high = (duration_in_lem _ duration).1;
      frames_low = above_none c.min_speech_frames p10.0;
      frames_high = ltb-false _ _ counts.1;
      hangover_high = ltb-false _ _ lengths.1;
      padding_high = ltb-false _ _ lengths.0;
      start_high = start_in_lem _ (not-false _ domain.1);
      frame_high = ltb-false _ _ p11.0;
      warmup_high = ltb-false _ _ p12.0;
    }
  where
    above_none : (n : ℕ) → eqb n 0 ≡ false → 1 ≤ n
    above_none n h = let z = eqb-false n 0 h in omega arith

-- as code asks it: a callee's answer v, and t, whether it is no refusal
module _ (c : VadConfig) {v : Result ⊤ Refusal} {t : Bool} (e : v ≡ outcome_of c) (f : t ≡ is_ok v) where
  told : eqb (refusal_of c) 0 ≡ t
  unfolding refusal_of
  told = ok_tells (outcome_of c) ∙ sym (f ∙ ap (λ (u : Result ⊤ Refusal). is_ok u) e)

  pub accepted_by : t ≡ true → refusal_of c ≡ 0
  accepted_by h = eqb-true _ _ (told ∙ h)

  pub refused_by : t ≡ false → eqb (refusal_of c) 0 ≡ false
  refused_by h = told ∙ h

-- ---- the lengths
pub lengths_are : (c : VadConfig) → ((lengths_of c).frame_length ≡ frame_of c) × ((lengths_of c).hop_length ≡ hop_of c) × ((lengths_of c).warmup_frames ≡ warmup_of c) × ((lengths_of c).padding_samples ≡ padding_of c)
unfolding lengths_of
lengths_are c = (refl, refl, refl, refl)

module _ (c : VadConfig) (h : refusal_of c ≡ 0) where
  a : Accepted c
  a = accepted c h

  pub frame_is : frame_of c ≡ frame_samples c.sample_rate c.frame_duration
  frame_is = unfold frame_of frame_length_of in simp (a.rate, a.duration)

  pub frame_low : 1 ≤ frame_of c
  frame_low = rw frame_is (unfold frame_samples in omega arith)

  pub frame_high : frame_of c ≤ 2048
  frame_high = a.frame_high

  pub hop_high : hop_of c ≤ frame_of c
  hop_high = unfold hop_of in hop_le (frame_of c) c.frame_overlap frame_low (omega (arith, a.frame_high)) a.overlap

  pub hop_low : 8 ≤ hop_of c
  hop_low = elim (dec_lt (hop_of c) 8) [
    | yes l ↦ let w : 307 ≤ warmup_of c = unfold warmup_of in warmup_many (hop_of c) c.sample_rate (omega arith) a.rate_low a.rate_high in absurd (omega (arith, a.warmup_high))
    | no g ↦ omega arith
  ]

  pub warmup_low : 1 ≤ warmup_of c
  warmup_low = unfold warmup_of warmup_frames_of in omega arith

  pub warmup_high : warmup_of c ≤ 300
  warmup_high = a.warmup_high

  pub padding_high : padding_of c ≤ 48000
  padding_high = unfold padding_of in le_trans (padding_le c.speech_padding c.sample_rate a.padding_high a.rate_high) a.rate_high

-- ---- times
pub time_mono : (start rate n m : ℕ) → n ≤ m → time_of start rate n ≤ time_of start rate m
unfolding time_of
time_mono start zero n m h = rw (div-zero (n * 1000000000 + 0), div-zero (m * 1000000000 + 0)) (le_refl (start + 0))
time_mono start (suc rate) n m h =
    let k = suc rate in
    add-le-add (le_refl start) (div_mono (n * 1000000000 + k / 2) k (m * 1000000000 + k / 2) k (zero-lt-suc rate) (zero-lt-suc rate) (mul-le-mul_right k (omega arith)))

pub time_fits : (start rate n : ℕ) → start < 2 ^ 63 → 8000 ≤ rate → rate ≤ 48000 → n ≤ 2 ^ 40 → time_of start rate n < 2 ^ 64
unfolding time_of
time_fits start rate n s r u h =
    let q = (n * 1000000000 + rate / 2) / rate in
    let a : q * rate ≤ n * 1000000000 + rate / 2 = div-mul-le_self (n * 1000000000 + rate / 2) rate in
    let b : q * 8000 ≤ q * rate = mul-le-mul_left q r in
    omega arith

-- where the code answers a time
pub time_is : (start rate n : ℕ) → rate_in rate ≡ true → start < 2 ^ 63 → n ≤ 2 ^ 40 → time_of_sample_of start rate n ≡ time_of start rate n
unfolding time_of_sample_of start_in received_in
time_is start rate n r s h = simp (r, lt-ltb start (2 ^ 63) s, le-leb n (2 ^ 40) h)
