-- From call to call: after an accepted call the state holds the very filter that dc_highpass has answered, so a run through the door is a run of the filter.
-- Assumes nothing.
use Rattle.std.specs.Prelude.{None, Option, Some, Ok, Err, is_ok}
use mathlib.Core.Path.{◌≡◌, refl}
use mathlib.Core.Bool.{Bool, true, false, not, ◌&&◌, cond}
use mathlib.Core.List.{List, [], ◌∷◌}
use Prim.Native.Nat.{ℕ, zero, suc, ◌+◌, ◌≤◌}
use lib.Dec.{T, ltb}
use lib.ListN.{length, get_or}
use lib.Ieee.{Float, nan, binary32, fits}
use lib.Ieee.Scale.{finite}
use lib.Ieee.Fits.{and_l, and_r, cond-fits, nan-fits, sub-fits}
use lib.Ieee.Bits.{of_bits-fits}
use borrow.Author.Tests.{le-ltb}
use Rattle.float.specs.Fused.{fused_of}
use Rattle.float.proofs.Bounds.{fused_fits}
use Rattle.lists.proofs.Tests.{either}
use Rattle.refusals.specs.Refusals.{number_in}
use Rattle.refusals.specs.declared.Refusal.TheVariants as why
use Rattle.refusals.proofs.First.{none_refused}
use Rattle.dc_state.specs.Biquad.{or_nan, output_of, next_of, stepped}
use Rattle.dc_state.specs.Settings.{outcome_of, sound_of}
use Rattle.dc_state.specs.Operations.{centred_of}
use Rattle.dc_state.specs.declared.biquad.Biquad.{Biquad}
use Rattle.dc_state.specs.declared.HighpassOrder.{HighpassOrder}
use Rattle.dc_state.specs.declared.HighpassOrder.TheVariants.{SecondOrder, FourthOrder}
use Rattle.dc_state.specs.declared.PreprocessingConfig.{PreprocessingConfig}
use Rattle.dc_state.specs.declared.DcHighPassFilter.{DcHighPassFilter}
use Rattle.dc_highpass.specs.Filter.{Passed, coefficients_of, still, fresh_of, nothing_open, open_of, is_empty, listens, bias_of, biased_of, staged_by, pass_of, after_of, check_of, stop_of, ran_of, process_of, reset_of}
use Rattle.dc_highpass.specs.declared.VadContext.{VadContext}
use Rattle.dc_highpass.specs.declared.Answered.{Answered}
use Rattle.dc_highpass.proofs.Calls.{either_way}
use Rattle.dc_door.specs.FilterState.{filter_at, readable, written}
use Rattle.dc_door.specs.FilterDoor.{five_at, opened_of, open_state, process_state, reset_state}
use Rattle.dc_door.proofs.RoundTrip.{Fit, StageFits, FilterFits, written_back, written_readable, read_fits}

-- f32s, as the samples lent to the door are
unfoldable pub all_fit : List Float → Bool
all_fit [] = true
all_fit (x ∷ xs) = fits binary32 x && all_fit xs

-- ---- the filter's numbers stay f32s

or_nan_fit : (x y z : Float) (r : Option Float) → fused_of x y z ≡ r → Fit (or_nan r)
or_nan_fit x y z (Some v) p = fused_fits x y z v p
or_nan_fit x y z None p = nan-fits binary32

output_fit : (b : Biquad) (x : Float) → Fit (output_of b.coeffs b.state x)
unfolding output_of
output_fit b x = sub-fits binary32 _ _

stepped_fits : (b : Biquad) (x : Float) → StageFits b → Fit x → StageFits (stepped b x)
unfolding next_of
stepped_fits b x h k =
    record { b0 = h.b0; b1 = h.b1; b2 = h.b2; a1 = h.a1; a2 = h.a2; x1 = k; x2 = h.x1; y1 = output_fit b x; y2 = h.y1 }

staged_fits : (o : HighpassOrder) (f : DcHighPassFilter) (x : Float) → FilterFits f → Fit x → FilterFits (staged_by o f x).filter
unfolding staged_by
staged_fits SecondOrder f x h k = record { cutoff = h.cutoff; alpha = h.alpha; first = stepped_fits f.first x h.first k; second = h.second; bias = h.bias }
staged_fits FourthOrder f x h k =
    record {
      cutoff = h.cutoff;
      alpha = h.alpha;
      first = stepped_fits f.first x h.first k;
      second = stepped_fits f.second (output_of f.first.coeffs f.first.state x) h.second (output_fit f.first x);
      bias = h.bias;
    }

centred_fit : (f : DcHighPassFilter) (x : Float) → Fit x → Fit (centred_of f x)
unfolding centred_of
centred_fit f x h = cond-fits binary32 f.config.enable_dc_removal _ _ (sub-fits binary32 x f.dc_bias) h

pass_fits : (f : DcHighPassFilter) (x : Float) → FilterFits f → Fit x → FilterFits (pass_of f x).filter
unfolding pass_of
pass_fits f x h k =
    either (λ (p : Passed). FilterFits p.filter) f.config.enable_highpass (staged_by f.config.highpass_order f (centred_of f x)) (record { filter = f; output = centred_of f x })
    (staged_fits f.config.highpass_order f (centred_of f x) h (centred_fit f x k)) h

after_fits : (xs : List Float) (f : DcHighPassFilter) → FilterFits f → T (all_fit xs) → FilterFits (after_of f xs)
unfolding after_of all_fit
after_fits [] f h k = h
after_fits (x ∷ xs) f h k =
    let p = pass_fits f x h (and_l (fits binary32 x) (all_fit xs) k) in
    either FilterFits (finite (pass_of f x).output) (after_of (pass_of f x).filter xs) f (after_fits xs (pass_of f x).filter p (and_r (fits binary32 x) (all_fit xs) k)) h

biased_fits : (f : DcHighPassFilter) (xs : List Float) (label : Option VadContext) → FilterFits f → FilterFits (biased_of f xs label)
unfolding biased_of bias_of
biased_fits f xs label h =
    either FilterFits (f.config.enable_dc_removal && (not (is_empty xs) && listens label)) _ f
    (record { cutoff = h.cutoff; alpha = h.alpha; first = h.first; second = h.second; bias = or_nan_fit _ _ _ _ refl }) h

module _ (f : DcHighPassFilter) (h : FilterFits f) (xs : List Float) (k : T (all_fit xs)) (label : Option VadContext) (room : ℕ) where
  ran_fits : (g : DcHighPassFilter) → FilterFits g → FilterFits (ran_of f g xs).filter
  unfolding ran_of
  ran_fits g l = either_way FilterFits (stop_of g xs) (after_of g xs) (λ r. f) (after_fits xs g l k) (λ r. h)

  process_fits : FilterFits (process_of f xs label room).filter
  unfolding process_of
  process_fits =
      either_way (λ (p : Answered). FilterFits p.filter) (check_of f xs room) (ran_of f (biased_of f xs label) xs) (λ r. record { outcome = Err r; filter = f })
      (ran_fits (biased_of f xs label) (biased_fits f xs label h))
      (λ r. h)

fresh_fits : (f : DcHighPassFilter) → FilterFits f → FilterFits (fresh_of f.config f.first.coeffs f.second.coeffs)
unfolding fresh_of
fresh_fits f h =
    let z = of_bits-fits binary32 0 in
    let a = h.first in
    let b = h.second in
    record {
      cutoff = h.cutoff;
      alpha = h.alpha;
      first = record { b0 = a.b0; b1 = a.b1; b2 = a.b2; a1 = a.a1; a2 = a.a2; x1 = z; x2 = z; y1 = z; y2 = z };
      second = record { b0 = b.b0; b1 = b.b1; b2 = b.b2; a1 = b.a1; a2 = b.a2; x1 = z; x2 = z; y1 = z; y2 = z };
      bias = z;
    }

reset_fits : (f : DcHighPassFilter) → FilterFits f → FilterFits (reset_of f).filter
unfolding reset_of
reset_fits f h =
    either (λ (p : Answered). FilterFits p.filter) (sound_of f) (record { outcome = Ok tt; filter = fresh_of f.config f.first.coeffs f.second.coeffs }) (record { outcome = Err why.FilterState; filter = f }) (fresh_fits f h) h

-- ---- an opened filter's numbers, from the settings and the coefficients

entry_fit : (xs : List Float) (i : ℕ) → T (all_fit xs) → Fit (get_or xs i nan)
unfolding all_fit
entry_fit [] i k = nan-fits binary32
entry_fit (x ∷ xs) zero k = and_l (fits binary32 x) (all_fit xs) k
entry_fit (x ∷ xs) (suc i) k = entry_fit xs i (and_r (fits binary32 x) (all_fit xs) k)

five_fit : (xs : List Float) (i : ℕ) → T (all_fit xs) → StageFits (record { coeffs = coefficients_of (five_at xs i); state = still })
unfolding coefficients_of
five_fit xs i k =
    let z = of_bits-fits binary32 0 in
    record {
      b0 = entry_fit xs i k;
      b1 = entry_fit xs (i + 1) k;
      b2 = entry_fit xs (i + 2) k;
      a1 = entry_fit xs (i + 3) k;
      a2 = entry_fit xs (i + 4) k;
      x1 = z;
      x2 = z;
      y1 = z;
      y2 = z;
    }

none_fits : FilterFits nothing_open
unfolding nothing_open fresh_of
none_fits =
    let z = of_bits-fits binary32 0 in
    record {
      cutoff = z;
      alpha = z;
      first = record { b0 = z; b1 = z; b2 = z; a1 = z; a2 = z; x1 = z; x2 = z; y1 = z; y2 = z };
      second = record { b0 = z; b1 = z; b2 = z; a1 = z; a2 = z; x1 = z; x2 = z; y1 = z; y2 = z };
      bias = z;
    }

module _ (c : PreprocessingConfig) (l : Fit c.highpass_cutoff_hz) (m : Fit c.dc_bias_alpha) (xs : List Float) (k : T (all_fit xs)) where
  new_fits : FilterFits (fresh_of c (coefficients_of (five_at xs 0)) (coefficients_of (five_at xs 5)))
  unfolding fresh_of
  new_fits = record { cutoff = l; alpha = m; first = five_fit xs 0 k; second = five_fit xs 5 k; bias = of_bits-fits binary32 0 }

  open_fits : FilterFits (open_of c (five_at xs 0 ∷ five_at xs 5 ∷ [])).filter
  unfolding open_of
  open_fits = either_way FilterFits (outcome_of c (coefficients_of (five_at xs 0)) (coefficients_of (five_at xs 5))) _ (λ r. nothing_open) new_fits (λ r. none_fits)

  opened_fits : FilterFits (opened_of c xs).filter
  unfolding opened_of
  opened_fits = either (λ (p : Answered). FilterFits p.filter) (ltb (length xs) 10) (record { outcome = Err why.FilterCoefficient; filter = nothing_open }) (open_of c (five_at xs 0 ∷ five_at xs 5 ∷ [])) none_fits open_fits

  -- ---- through the door

  pub open_readable : (ws : List ℕ) → 25 ≤ length ws → readable (open_state c xs ws) ≡ true
  unfolding open_state
  open_readable ws h = rw (le-ltb (length ws) 25 h) (written_readable (opened_of c xs).filter ws)

  pub open_carried : (ws : List ℕ) → 25 ≤ length ws → filter_at (open_state c xs ws) ≡ (opened_of c xs).filter
  unfolding open_state
  open_carried ws h = rw (le-ltb (length ws) 25 h) (written_back (opened_of c xs).filter ws opened_fits)

kept : (t : Bool) (f : DcHighPassFilter) (ws : List ℕ) → readable ws ≡ true → readable (cond t (written f ws) ws) ≡ true
kept true f ws good = written_readable f ws
kept false f ws good = good

module _ (ws : List ℕ) (good : readable ws ≡ true) where
  -- no call turns a state that can be read into one that cannot
  pub process_readable : (xs : List Float) (label : Option VadContext) (room : ℕ) → readable (process_state ws xs label room) ≡ true
  unfolding process_state
  process_readable xs label room =
      kept (readable ws && is_ok (process_of (filter_at ws) xs label room).outcome) (process_of (filter_at ws) xs label room).filter ws good

  pub reset_readable : readable (reset_state ws) ≡ true
  unfolding reset_state
  reset_readable = kept (readable ws && is_ok (reset_of (filter_at ws)).outcome) (reset_of (filter_at ws)).filter ws good

  pub process_carried : (xs : List Float) → T (all_fit xs) → (label : Option VadContext) (room : ℕ) → number_in (process_of (filter_at ws) xs label room).outcome ≡ 0
      → filter_at (process_state ws xs label room) ≡ (process_of (filter_at ws) xs label room).filter
  unfolding process_state
  process_carried xs k label room z =
      rw (good, none_refused _ z) (written_back (process_of (filter_at ws) xs label room).filter ws (process_fits (filter_at ws) (read_fits ws) xs k label room))

  pub reset_carried : number_in (reset_of (filter_at ws)).outcome ≡ 0 → filter_at (reset_state ws) ≡ (reset_of (filter_at ws)).filter
  unfolding reset_state
  reset_carried z = rw (good, none_refused _ z) (written_back (reset_of (filter_at ws)).filter ws (reset_fits (filter_at ws) (read_fits ws)))
