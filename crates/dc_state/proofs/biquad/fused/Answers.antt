use mathlib.Core.Path.{◌≡◌, refl, ap, ◌∙◌}
use lib.Ieee.{Float, nan, binary32, of_bits}
use Rattle.float.specs.Finite.{or_else}
use Rattle.float.specs.Fused.{fused_of}
use Rattle.dc_state.proofs.biquad.fused.Goals as goal

-- `f32::NAN`, by its bits
no_number : of_bits binary32 0x7FC0_0000 ≡ nan
unfolding of_bits
no_number = refl

pub returns : goal.returns
returns c = let s = c.args in c.mul_add_or.ensures ∙ ap (λ (x : Float). or_else x (fused_of s.a s.b s.c)) no_number
