-- Refusal 26 in its own words: every operation on a sample, in order. That `results_of` stops exactly where one of them isn't finite is `stops_exactly` in dc_highpass' proofs/Finite.
use Rattle.std.specs.Prelude.{Bool, true, ◌&&◌, cond, List, [], ◌∷◌, ◌++◌, Float}
use Rattle.std.specs.Float.{binary32}
use Rattle.std.specs.Float.Ieee.{sub, mul}
use Rattle.std.specs.Float.Ieee.Scale.{finite}
use Rattle.float.specs.Fused.{fused_of}
use Rattle.dc_state.specs.Biquad.{or_nan, output_of, heard}
use Rattle.dc_state.specs.declared.biquad.Biquad.{Biquad}
use Rattle.dc_state.specs.declared.HighpassOrder.{HighpassOrder}
use Rattle.dc_state.specs.declared.HighpassOrder.TheVariants.{SecondOrder, FourthOrder}
use Rattle.dc_state.specs.declared.DcHighPassFilter.{DcHighPassFilter}

-- 'A sample has the bias subtracted if removal is on'
unfoldable pub centred_of : DcHighPassFilter → Float → Float
centred_of f x = cond f.config.enable_dc_removal (sub binary32 x f.dc_bias) x

-- the rounded results of one stage's six operations on x
unfoldable pub stage_results : Biquad → Float → List Float
stage_results b x =
    let c = b.coeffs in
    let s = b.state in
    let far = mul binary32 c.b2 s.x2 in
    let near = or_nan (fused_of c.b1 s.x1 far) in
    let back = mul binary32 c.a2 s.y2 in
    far ∷ near ∷ or_nan (fused_of c.b0 x near) ∷ back ∷ or_nan (fused_of c.a1 s.y1 back) ∷ output_of c s x ∷ []

unfoldable pub stages_results : HighpassOrder → DcHighPassFilter → Float → List Float
stages_results SecondOrder f x = stage_results f.first x
stages_results FourthOrder f x = stage_results f.first x ++ stage_results f.second (heard f.first x)

-- the subtraction where removal is on, and the stages in use where the high-pass is on
unfoldable pub sample_results : DcHighPassFilter → Float → List Float
sample_results f x =
    cond f.config.enable_dc_removal (centred_of f x ∷ []) [] ++ cond f.config.enable_highpass (stages_results f.config.highpass_order f (centred_of f x)) []

unfoldable pub every_finite : List Float → Bool
every_finite [] = true
every_finite (x ∷ xs) = finite x && every_finite xs
