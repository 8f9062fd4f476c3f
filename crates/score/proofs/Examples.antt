-- Scores computed from the definition: document 01's two, and the ends of each kind of float. Assumes nothing.
use mathlib.Core.Path.{◌≡◌, refl}
use mathlib.Core.Bool.{false}
use lib.Ieee.{nan, inf, binary32, of_bits, le}
use Rattle.score.specs.Score.{reaches, largest, score_of}
use Rattle.score.proofs.Laws.{score_below}

one : score_of (of_bits binary32 0x3f80_0000) ≡ 0
unfolding score_of largest reaches of_bits
one = refl

ten : score_of (of_bits binary32 0x4120_0000) ≡ 1024
unfolding score_of largest reaches of_bits
ten = refl

below_ten : score_of (of_bits binary32 0x411f_ffff) ≡ 1023
unfolding score_of largest reaches of_bits
below_ten = refl

largest_finite : score_of (of_bits binary32 0x7f7f_ffff) ≡ 1024
unfolding score_of largest reaches of_bits
largest_finite = refl

plus_infinity : score_of (inf false) ≡ 1024
unfolding score_of largest reaches
plus_infinity = refl

not_a_number : score_of nan ≡ 0
unfolding score_of largest reaches
not_a_number = refl

-- the 1,025 powers of the smallest float pass antt's limit of steps, so this one goes by the law
smallest_subnormal : score_of (of_bits binary32 1) ≡ 0
unfolding of_bits le
smallest_subnormal = score_below (of_bits binary32 1) refl

minus_zero : score_of (of_bits binary32 0x8000_0000) ≡ 0
unfolding score_of largest reaches of_bits
minus_zero = refl
