-- Cases computed from the definitions: the frames of document 01's runs A and B, and the slips that it names.
use mathlib.Core.Path.{◌≡◌, refl}
use mathlib.Core.Bool.{true, false}
use mathlib.Core.List.{List, [], ◌∷◌, map}
use Prim.Native.Nat.{ℕ}
use lib.ListN.{take, drop, replicate}
use lib.Ieee.{Float, binary32, of_bits, of_int, add, mul, div, neg, sum, round, to_bits}
use Rattle.float.specs.Fused.{fused_of}
use Rattle.float.specs.Root.{root_from, integer_root, twice_root, root_of}
use Rattle.vad_frames.specs.Emphasis.{emphasized_of, emphasized, last_of}
use Rattle.vad_frames.specs.Energy.{square_of, squares_from, mean_square_of, energy_of}
use Rattle.vad_frames.specs.Grid.{taken, frames_from, frames_of, energies_of, consumed_of, framed_of, carry_of}

-- f32 of their bits
abbrev pub floats : List ℕ → List Float
floats ns = map (of_bits binary32) ns

abbrev pub bits : List Float → List ℕ
bits xs = map (to_bits binary32) xs

-- ---- runs A and B: a block of 80 equal samples, 1/64 or 1, window all 1, no overlap, no pre-emphasis

abbrev pub ones : List Float
ones = replicate 80 (of_bits binary32 0x3F80_0000)

abbrev pub block : ℕ → List Float
block n = replicate 80 (of_bits binary32 n)

-- a is 0: the values are the samples
pub quiet_values : bits (emphasized (of_bits binary32 0) (of_bits binary32 0) (block 0x3C80_0000)) ≡ replicate 80 0x3C80_0000
unfolding emphasized emphasized_of fused_of of_bits to_bits neg sum round
quiet_values = refl

pub quiet_frame : bits (energies_of false ones 80 (block 0x3C80_0000)) ≡ 0x3C80_0000 ∷ []
unfolding energies_of frames_of frames_from taken energy_of mean_square_of squares_from square_of root_of root_from integer_root twice_root of_bits to_bits of_int add mul div sum round
quiet_frame = refl

pub loud_frame : bits (energies_of false ones 80 (block 0x3F80_0000)) ≡ 0x3F80_0000 ∷ []
unfolding energies_of frames_of frames_from taken energy_of mean_square_of squares_from square_of root_of root_from integer_root twice_root of_bits to_bits of_int add mul div sum round
loud_frame = refl

-- ---- pre-emphasis: a is 1/2, three samples 1 after 0 give 1, 1/2, 1/2. Were the emphasized value remembered, the third would be 3/4
abbrev pub half : Float
half = of_bits binary32 0x3F00_0000

abbrev pub three : List Float
three = floats (0x3F80_0000 ∷ 0x3F80_0000 ∷ 0x3F80_0000 ∷ [])

pub raw_remembered : bits (emphasized half (of_bits binary32 0) three) ≡ 0x3F80_0000 ∷ 0x3F00_0000 ∷ 0x3F00_0000 ∷ []
unfolding emphasized emphasized_of fused_of of_bits to_bits neg sum round
raw_remembered = refl

pub raw_last : to_bits binary32 (last_of (of_bits binary32 0) three) ≡ 0x3F80_0000
unfolding last_of of_bits to_bits
raw_last = refl

-- ---- overlapping frames: four values a frame, two a hop, of the values 1 to 7
abbrev pub seven : List Float
seven = floats (0x3F80_0000 ∷ 0x4000_0000 ∷ 0x4040_0000 ∷ 0x4080_0000 ∷ 0x40A0_0000 ∷ 0x40C0_0000 ∷ 0x40E0_0000 ∷ [])

abbrev pub four_ones : List Float
four_ones = replicate 4 (of_bits binary32 0x3F80_0000)

-- detect takes the two whole frames, and 5, 6, 7 stay
pub detect_frames : frames_of false 4 2 seven ≡ take 4 seven ∷ take 4 (drop 2 seven) ∷ []
unfolding frames_of frames_from taken
detect_frames = refl

pub detect_framed : framed_of false four_ones 2 seven ≡ record { frames = 2; consumed = 4 }
unfolding framed_of consumed_of frames_of frames_from taken
detect_framed = refl

pub detect_carry : carry_of false four_ones 2 seven ≡ drop 4 seven
unfolding carry_of framed_of consumed_of frames_of frames_from taken
detect_carry = refl

-- flush takes two short frames more, of three values and of one, and nothing stays
pub flush_frames : frames_of true 4 2 seven ≡ take 4 seven ∷ take 4 (drop 2 seven) ∷ drop 4 seven ∷ drop 6 seven ∷ []
unfolding frames_of frames_from taken
flush_frames = refl

pub flush_framed : framed_of true four_ones 2 seven ≡ record { frames = 4; consumed = 7 }
unfolding framed_of consumed_of frames_of frames_from taken
flush_framed = refl

-- a flush with no value has no frame
pub flush_of_nothing : framed_of true four_ones 2 [] ≡ record { frames = 0; consumed = 0 }
unfolding framed_of consumed_of frames_of frames_from taken
flush_of_nothing = refl

-- ---- energies
-- a short frame is divided by the full length: 2 alone, of four values, gives the root of 4 / 4
pub short_frame : to_bits binary32 (energy_of four_ones (floats (0x4000_0000 ∷ []))) ≡ 0x3F80_0000
unfolding energy_of mean_square_of squares_from square_of root_of root_from integer_root twice_root of_bits to_bits of_int add mul div sum round
short_frame = refl

-- the window weighs a value before it is squared: 2 by 1/2 gives 1
pub weighed_first : to_bits binary32 (energy_of (half ∷ []) (floats (0x4000_0000 ∷ []))) ≡ 0x3F80_0000
unfolding energy_of mean_square_of squares_from square_of root_of root_from integer_root twice_root of_bits to_bits of_int add mul div sum round
weighed_first = refl
