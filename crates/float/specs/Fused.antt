-- a * b + c, rounded once: document 01's fused multiply-add.
use Rattle.std.specs.Prelude.{◌*◌, Float, None, Option}
use Rattle.std.specs.Float.{nan, inf, fin, binary32}
use Rattle.std.specs.Float.Ieee.{unlike, up, down, sum}
use Rattle.float.specs.Finite.{rounded}

-- 'An operand isn't finite': the word. Otherwise the exact product m * 2 ^ e * (n * 2 ^ d) and the exact addend p * 2 ^ g over one denominator, and their sum
-- by lib.Ieee, which rounds once, to the nearest, ties to even, gives +0 for an exact zero from unlike signs, and keeps the sign of two zeros of like sign.
unfoldable pub fused_of : Float → Float → Float → Option Float
fused_of nan y z = None
fused_of (inf s) y z = None
fused_of (fin s m e) nan z = None
fused_of (fin s m e) (inf t) z = None
fused_of (fin s m e) (fin t n d) nan = None
fused_of (fin s m e) (fin t n d) (inf u) = None
fused_of (fin s m e) (fin t n d) (fin u p g) =
    rounded (sum binary32 (unlike s t) (m * up e * (n * up d) * down g) u (p * up g * (down e * down d)) (down e * down d * down g))
