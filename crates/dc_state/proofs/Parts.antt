-- What a sound state is, part by part, and a stage's part of it over one sample. Assumes nothing.
use mathlib.Core.Path.{◌≡◌, sym}
use mathlib.Core.Bool.{true, ◌&&◌}
use lib.Dec.{eqb}
use lib.Ieee.{Float}
use lib.Ieee.Scale.{finite}
use Rattle.std.specs.Prelude.{is_ok}
use Rattle.refusals.proofs.First.{ok_tells}
use Rattle.lists.proofs.Tests.{both}
use Rattle.dc_state.specs.Biquad.{next_of, heard}
use Rattle.dc_state.specs.Settings.{outcome_of, refusal_of, remembers_finite, sound_of}
use Rattle.dc_state.specs.declared.biquad.Biquad.{Biquad}
use Rattle.dc_state.specs.declared.biquad.BiquadCoefficients.{BiquadCoefficients}
use Rattle.dc_state.specs.declared.PreprocessingConfig.{PreprocessingConfig}
use Rattle.dc_state.specs.declared.DcHighPassFilter.{DcHighPassFilter}
use Rattle.dc_state.proofs.Finite.{stage_passes}

-- as code asks whether settings are taken
pub taken_tells : (c : PreprocessingConfig) (first second : BiquadCoefficients) → is_ok (outcome_of c first second) ≡ eqb (refusal_of c first second) 0
unfolding refusal_of
taken_tells c first second = sym (ok_tells (outcome_of c first second))

pub record Parts (f : DcHighPassFilter) : Type 0 where
  pub settings : eqb (refusal_of f.config f.first.coeffs f.second.coeffs) 0 ≡ true
  pub bias : finite f.dc_bias ≡ true
  pub first : remembers_finite f.first.state ≡ true
  pub second : remembers_finite f.second.state ≡ true

pub parts : (f : DcHighPassFilter) → sound_of f ≡ true → Parts f
unfolding sound_of
parts f h =
    let settings = eqb (refusal_of f.config f.first.coeffs f.second.coeffs) 0 in
    let t = both (settings && finite f.dc_bias && remembers_finite f.first.state) (remembers_finite f.second.state) h in
    let u = both (settings && finite f.dc_bias) (remembers_finite f.first.state) t.0 in
    let v = both settings (finite f.dc_bias) u.0 in
    record { settings = v.0; bias = v.1; first = u.1; second = t.1 }

pub whole : (f : DcHighPassFilter) → Parts f → sound_of f ≡ true
unfolding sound_of
whole f p = rw (p.settings, p.bias, p.first, p.second)

-- a stage that heard a finite output remembers finite numbers
pub stepped_finite : (b : Biquad) (x : Float) → remembers_finite b.state ≡ true → finite (heard b x) ≡ true → remembers_finite (next_of b.coeffs b.state x) ≡ true
unfolding remembers_finite next_of
stepped_finite b x r h =
    let s = b.state in
    let t = both (finite s.x1 && finite s.x2 && finite s.y1) (finite s.y2) r in
    let u = both (finite s.x1 && finite s.x2) (finite s.y1) t.0 in
    rw ((stage_passes b x h).input, (both (finite s.x1) (finite s.x2) u.0).0, h, u.1)
