-- One stage's step, 'as `Biquad::process` does'.
use Rattle.std.specs.Prelude.{Float, List, Option, get_or}
use Rattle.std.specs.Float.{nan, binary32}
use Rattle.std.specs.Float.Ieee.{sub, mul}
use Rattle.float.specs.Finite.{or_else}
use Rattle.float.specs.Fused.{fused_of}
use Rattle.dc_state.specs.declared.biquad.Biquad.{Biquad}
use Rattle.dc_state.specs.declared.biquad.BiquadCoefficients.{BiquadCoefficients}
use Rattle.dc_state.specs.declared.biquad.BiquadState.{BiquadState}

-- five numbers in the order b0, b1, b2, a1, a2
unfoldable pub coefficients_of : List Float → BiquadCoefficients
coefficients_of a = record { b0 = get_or a 0 nan; b1 = get_or a 1 nan; b2 = get_or a 2 nan; a1 = get_or a 3 nan; a2 = get_or a 4 nan }

-- the number, and a NaN for the word that there is none
abbrev pub or_nan : Option Float → Float
or_nan = or_else nan

-- acc = b0 · x + (b1 · x1 + b2 · x2), and from it a1 · y1 + a2 · y2 is taken; the products that are added to are fused
unfoldable pub output_of : BiquadCoefficients → BiquadState → Float → Float
output_of c s x =
    sub binary32 (or_nan (fused_of c.b0 x (or_nan (fused_of c.b1 s.x1 (mul binary32 c.b2 s.x2)))))
    (or_nan (fused_of c.a1 s.y1 (mul binary32 c.a2 s.y2)))

-- both memories move by one
unfoldable pub next_of : BiquadCoefficients → BiquadState → Float → BiquadState
next_of c s x = record { x1 = x; x2 = s.x1; y1 = output_of c s x; y2 = s.y1 }

-- the same of a stage with its memory: the stage after a sample, and what it puts out
abbrev pub stepped : Biquad → Float → Biquad
stepped b x = record { coeffs = b.coeffs; state = next_of b.coeffs b.state x }

abbrev pub heard : Biquad → Float → Float
heard b x = output_of b.coeffs b.state x
