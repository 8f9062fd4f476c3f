-- From an accepted opening every state is sound: refusal 27 never comes in a run of calls. Assumes nothing.
use Rattle.std.specs.Prelude.{Option, Result, Ok, Err, ⊤}
use mathlib.Core.Path.{◌≡◌, refl, sym, ap, ◌∙◌}
use mathlib.Core.Bool.{Bool, true, false, not, ◌&&◌, cond, true≢false}
use mathlib.Core.List.{List, [], ◌∷◌}
use Prim.Native.Nat.{ℕ, suc, ◌≤◌, ◌<◌}
use native.Mathlib.Omega.{arith}
use borrow.Author.Tests.{ltb-false, eqb-true, eq-eqb}
use lib.Dec.{ltb}
use lib.ListN.{length, get_or}
use lib.Ieee.{Float, binary32, of_bits, sub}
use lib.Ieee.Scale.{finite}
use Rattle.refusals.specs.Refusals.{number_in, first_of, if_passed}
use Rattle.refusals.specs.declared.Refusal.{Refusal}
use Rattle.refusals.specs.declared.Refusal.TheVariants as why
use Rattle.refusals.proofs.First.{skip, never, none_refused}
use Rattle.ranges.specs.Ranges.{rate_in}
use Rattle.dc_state.specs.Biquad.{heard}
use Rattle.dc_state.specs.Settings.{setting_refusals, outcome_of, refusal_of, remembers_finite, sound_of}
use Rattle.dc_state.specs.Operations.{centred_of}
use Rattle.dc_state.specs.declared.biquad.BiquadCoefficients.{BiquadCoefficients}
use Rattle.dc_state.specs.declared.HighpassOrder.{HighpassOrder}
use Rattle.dc_state.specs.declared.HighpassOrder.TheVariants.{SecondOrder, FourthOrder}
use Rattle.dc_state.specs.declared.PreprocessingConfig.{PreprocessingConfig}
use Rattle.dc_state.specs.declared.DcHighPassFilter.{DcHighPassFilter}
use Rattle.dc_state.proofs.Finite.{sub_finite, stage_passes}
use Rattle.dc_state.proofs.Parts.{Parts, parts, whole, stepped_finite}
use Rattle.dc_highpass.specs.Filter.{coefficients_of, fresh_of, nothing_open, open_of, listens, bias_of, biased_of, staged_by, pass_of, results_of, after_of, check_of, stop_of, ran_of, process_of, reset_of}
use Rattle.dc_highpass.proofs.Calls.{either_way}
use Rattle.dc_highpass.specs.Run.{Call, Block, Reset, next, number_of, play}
use Rattle.dc_highpass.specs.declared.VadContext.{VadContext}
use Rattle.dc_highpass.specs.declared.Answered.{Answered}

-- ---- one sample
staged_sound : (o : HighpassOrder) (f : DcHighPassFilter) (c : Float) → Parts f → finite (staged_by o f c).output ≡ true → Parts (staged_by o f c).filter
unfolding staged_by
staged_sound SecondOrder f c p h = record { settings = p.settings; bias = p.bias; first = stepped_finite f.first c p.first h; second = p.second }
staged_sound FourthOrder f c p h =
    let y = heard f.first c in
    record {
      settings = p.settings;
      bias = p.bias;
      first = stepped_finite f.first c p.first (stage_passes f.second y h).input;
      second = stepped_finite f.second y p.second h;
    }

pass_sound : (f : DcHighPassFilter) (x : Float) → Parts f → finite (pass_of f x).output ≡ true → Parts (pass_of f x).filter
unfolding pass_of
pass_sound f x p = go f.config.enable_highpass
  where
    go : (h : Bool) → finite (cond h (staged_by f.config.highpass_order f (centred_of f x)) (record { filter = f; output = centred_of f x })).output ≡ true
        → Parts (cond h (staged_by f.config.highpass_order f (centred_of f x)) (record { filter = f; output = centred_of f x })).filter
    go true t = staged_sound f.config.highpass_order f (centred_of f x) p t
    go false t = p

-- ---- a block
after_sound : (xs : List Float) (f : DcHighPassFilter) → Parts f → Parts (after_of f xs)
unfolding after_of
after_sound [] f p = p
after_sound (x ∷ xs) f p = go (finite (pass_of f x).output) (λ t. after_sound xs (pass_of f x).filter (pass_sound f x p t))
  where
    go : (t : Bool) → (t ≡ true → Parts (after_of (pass_of f x).filter xs)) → Parts (cond t (after_of (pass_of f x).filter xs) f)
    go true k = k refl
    go false k = p

-- a sample that has a finite result had a finite input to the stages
centre_finite : (f : DcHighPassFilter) (x : Float) → finite (pass_of f x).output ≡ true → finite (centred_of f x) ≡ true
unfolding pass_of staged_by
centre_finite f x = go f.config.enable_highpass f.config.highpass_order
  where
    go : (h : Bool) (o : HighpassOrder) → finite (cond h (staged_by o f (centred_of f x)) (record { filter = f; output = centred_of f x })).output ≡ true → finite (centred_of f x) ≡ true
    go false o t = t
    go true SecondOrder t = (stage_passes f.first (centred_of f x) t).input
    go true FourthOrder t = (stage_passes f.first (centred_of f x) (stage_passes f.second (heard f.first (centred_of f x)) t).input).input

first_finite : (f : DcHighPassFilter) (x : Float) (xs : List Float) → 0 < length (results_of f (x ∷ xs)) → finite (pass_of f x).output ≡ true
unfolding results_of
first_finite f x xs = go (finite (pass_of f x).output)
  where
    go : (t : Bool) → 0 < length (cond t ((pass_of f x).output ∷ results_of (pass_of f x).filter xs) []) → t ≡ true
    go true h = refl
    go false h = absurd (omega arith)

centred_by : (f : DcHighPassFilter) (x : Float) → f.config.enable_dc_removal ≡ true → centred_of f x ≡ sub binary32 x f.dc_bias
unfolding centred_of
centred_by f x on = rw on

-- the bias is subtracted from the first sample, so a block without 26 has a finite one
biased_sound : (f : DcHighPassFilter) (xs : List Float) (label : Option VadContext) → Parts f → length xs ≤ length (results_of (biased_of f xs label) xs) → Parts (biased_of f xs label)
unfolding biased_of
biased_sound f [] label p h = go f.config.enable_dc_removal
  where
    go : (r : Bool) → Parts (cond (r && false) (record { config = f.config; first = f.first; second = f.second; dc_bias = bias_of f.config.dc_bias_alpha f.dc_bias [] }) f)
    go true = p
    go false = p
biased_sound f (x ∷ xs) label p h = go f.config.enable_dc_removal (listens label) refl h
  where
    new : DcHighPassFilter
    new = record { config = f.config; first = f.first; second = f.second; dc_bias = bias_of f.config.dc_bias_alpha f.dc_bias (x ∷ xs) }

    bias_finite : f.config.enable_dc_removal ≡ true → suc (length xs) ≤ length (results_of new (x ∷ xs)) → finite new.dc_bias ≡ true
    bias_finite on k = (sub_finite x new.dc_bias (ap finite (sym (centred_by new x on)) ∙ centre_finite new x (first_finite new x xs (omega arith)))).1

    go : (r l : Bool) → f.config.enable_dc_removal ≡ r → length (x ∷ xs) ≤ length (results_of (cond (r && (true && l)) new f) (x ∷ xs)) → Parts (cond (r && (true && l)) new f)
    go true true e k = record { settings = p.settings; bias = bias_finite e k; first = p.first; second = p.second }
    go true false e k = p
    go false l e k = p

-- ---- the calls
ran_sound : (f : DcHighPassFilter) (xs : List Float) (label : Option VadContext) → Parts f → Parts (ran_of f (biased_of f xs label) xs).filter
unfolding ran_of stop_of first_of
ran_sound f xs label p = go (ltb (length (results_of (biased_of f xs label) xs)) (length xs)) refl
  where
    go : (t : Bool) → ltb (length (results_of (biased_of f xs label) xs)) (length xs) ≡ t
        → Parts (if_passed (cond t (Err (why.FilterOverflow (length (results_of (biased_of f xs label) xs)))) (Ok tt)) (after_of (biased_of f xs label) xs) (λ r. f))
    go true e = p
    go false e = after_sound xs (biased_of f xs label) (biased_sound f xs label p (ltb-false _ _ e))

process_sound : (f : DcHighPassFilter) (xs : List Float) (label : Option VadContext) (room : ℕ) → Parts f → Parts (process_of f xs label room).filter
unfolding process_of
process_sound f xs label room p =
    either_way (λ (q : Answered). Parts q.filter) (check_of f xs room) (ran_of f (biased_of f xs label) xs) (λ r. record { outcome = Err r; filter = f })
    (ran_sound f xs label p)
    (λ r. p)

fresh_sound : (c : PreprocessingConfig) (first second : BiquadCoefficients) → refusal_of c first second ≡ 0 → Parts (fresh_of c first second)
unfolding fresh_of remembers_finite of_bits
fresh_sound c first second z = record { settings = eq-eqb _ _ z; bias = refl; first = refl; second = refl }

reset_sound : (t : Bool) (f g : DcHighPassFilter) → t ≡ true → sound_of f ≡ true → sound_of (cond {A = Answered} t (record { outcome = Ok tt; filter = f }) (record { outcome = Err why.FilterState; filter = g })).filter ≡ true
reset_sound true f g h k = k
reset_sound false f g h k = absurd (true≢false (sym h))

next_sound : (f : DcHighPassFilter) (k : Call) → sound_of f ≡ true → sound_of (next f k) ≡ true
unfolding next reset_of
next_sound f (Block xs label room) h = whole _ (process_sound f xs label room (parts f h))
next_sound f Reset h =
    reset_sound (sound_of f) (fresh_of f.config f.first.coeffs f.second.coeffs) f h
    (whole _ (fresh_sound f.config f.first.coeffs f.second.coeffs (eqb-true _ _ (parts f h).settings)))

play_sound : (ks : List Call) (f : DcHighPassFilter) → sound_of f ≡ true → sound_of (play f ks) ≡ true
unfolding play
play_sound [] f h = h
play_sound (k ∷ ks) f h = play_sound ks (next f k) (next_sound f k h)

pub open_sound : (c : PreprocessingConfig) (a : List (List Float)) → number_in (open_of c a).outcome ≡ 0 → sound_of (open_of c a).filter ≡ true
unfolding open_of refusal_of
open_sound c a z = rw (none_refused _ z) (whole _ (fresh_sound c (coefficients_of (get_or a 0 [])) (coefficients_of (get_or a 1 [])) z))

-- a sound state is not refused by 27
check_taken : (f : DcHighPassFilter) (xs : List Float) (room : ℕ) → sound_of f ≡ true → number_in (check_of f xs room) ≡ 27 → ⊥
unfolding check_of
check_taken f xs room h e = never 27 _ refl (λ z. omega arith) (sym (ap (λ (v : Result ⊤ Refusal). number_in v) (skip _ _ (ap not h))) ∙ e)

stop_taken : (f : DcHighPassFilter) (xs : List Float) → number_in (stop_of f xs) ≡ 27 → ⊥
unfolding stop_of
stop_taken f xs = never 27 _ refl (λ z. omega arith)

reset_taken : (t : Bool) (f g : DcHighPassFilter) → t ≡ true → number_in (cond {A = Answered} t (record { outcome = Ok tt; filter = f }) (record { outcome = Err why.FilterState; filter = g })).outcome ≡ 27 → ⊥
reset_taken true f g h e = absurd (omega arith)
reset_taken false f g h e = absurd (true≢false (sym h))

sound_taken : (f : DcHighPassFilter) (k : Call) → sound_of f ≡ true → number_of f k ≡ 27 → ⊥
unfolding number_of process_of ran_of reset_of
sound_taken f (Block xs label room) h = go (check_of f xs room) (check_taken f xs room h)
  where
    go : (v : Result ⊤ Refusal) → (number_in v ≡ 27 → ⊥) → number_in (if_passed v (ran_of f (biased_of f xs label) xs) (λ r. record { outcome = Err r; filter = f })).outcome ≡ 27 → ⊥
    go (Ok x) k = stop_taken (biased_of f xs label) xs
    go (Err r) k = k
sound_taken f Reset h = reset_taken (sound_of f) (fresh_of f.config f.first.coeffs f.second.coeffs) f h

-- from an accepted opening, over any calls, refused ones among them, every state is sound, and no call is refused by 27
pub run_sound : (c : PreprocessingConfig) (a : List (List Float)) (ks : List Call) → number_in (open_of c a).outcome ≡ 0 → sound_of (play (open_of c a).filter ks) ≡ true
run_sound c a ks z = play_sound ks (open_of c a).filter (open_sound c a z)

pub never_malformed : (c : PreprocessingConfig) (a : List (List Float)) (ks : List Call) (k : Call) → number_in (open_of c a).outcome ≡ 0 → number_of (play (open_of c a).filter ks) k ≡ 27 → ⊥
never_malformed c a ks k z = sound_taken (play (open_of c a).filter ks) k (run_sound c a ks z)

-- 'A refused opening returns an all-zero state. Later calls on it .. are refused by .. 27'
pub nothing_malformed : sound_of nothing_open ≡ false
unfolding sound_of nothing_open fresh_of refusal_of outcome_of setting_refusals first_of rate_in
nothing_malformed = refl
