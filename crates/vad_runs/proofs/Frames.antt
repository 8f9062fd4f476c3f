-- The energies that the original found in one small stream, computed from the definitions. `energies_of_frames` in the oracle's tests runs the original on these samples and holds the lists to it.
use mathlib.Core.Path.{◌≡◌, refl}
use mathlib.Core.Bool.{true, false}
use mathlib.Core.List.{List, [], ◌∷◌, ◌++◌, map}
use Prim.Native.Nat.{ℕ}
use lib.Ieee.{Float, binary32, of_bits, of_int, add, mul, div, neg, sum, round, to_bits}
use Rattle.float.specs.Fused.{fused_of}
use Rattle.float.specs.Root.{root_from, integer_root, twice_root, root_of}
use Rattle.vad_frames.specs.Emphasis.{emphasized_of, emphasized}
use Rattle.vad_frames.specs.Energy.{square_of, squares_from, mean_square_of, energy_of}
use Rattle.vad_frames.specs.Grid.{taken, frames_from, frames_of, energies_of, consumed_of, framed_of, carry_of}

-- f32 by their bits
abbrev pub floats : List ℕ → List Float
floats ns = map (of_bits binary32) ns

abbrev pub bits : List Float → List ℕ
bits xs = map (to_bits binary32) xs

unfoldable pub samples : List ℕ
samples = 0xBA01_D600 ∷ 0xBE7D_2DCC ∷ 0xBE72_B40C ∷ 0x3D34_14B8 ∷ 0x3DD8_1834 ∷ 0xBDE0_04C4 ∷ 0xBD81_4934 ∷ 0xBCEE_3D50 ∷ 0x3D08_0790 ∷ 0xBC07_8260 ∷ 0x3E5E_8FCE ∷ 0x3E7C_EEC2 ∷ 0xBD99_3F48 ∷ 0x3E3F_DC02 ∷ 0x3C8E_2080 ∷ 0x3E4F_6D72 ∷ 0xBDF0_8780 ∷ 0x3C6D_B640 ∷ 0xBDCB_6AC4 ∷ 0xBE09_0640 ∷ 0x3E44_86A6 ∷ 0xBD5B_5788 ∷ 0x3E65_92EC ∷ 0x3C80_21A0 ∷ 0xBE06_A0A0 ∷ 0x3E70_3118 ∷ 0x3E6C_2AB6 ∷ 0x3D21_4A48 ∷ 0xBE7D_210C ∷ 0x3E73_50F2 ∷ 0x3DBD_F938 ∷ 0xBE3D_AE56 ∷ 0x3E32_F110 ∷ 0x3E73_A904 ∷ 0x3E60_715C ∷ 0x3E48_12F6 ∷ 0xBE4A_5302 ∷ 0x3E1C_F446 ∷ 0xBE34_17F6 ∷ 0xBDE6_21B8 ∷ []

-- Hann's, of 16 samples
unfoldable pub window : List ℕ
window = 0x0000_0000 ∷ 0x3D31_0F18 ∷ 0x3E29_67B8 ∷ 0x3EB0_E444 ∷ 0x3F0D_6131 ∷ 0x3F40_0000 ∷ 0x3F67_8DDF ∷ 0x3F7D_33F1 ∷ 0x3F7D_33F0 ∷ 0x3F67_8DDE ∷ 0x3F3F_FFFF ∷ 0x3F0D_612F ∷ 0x3EB0_E441 ∷ 0x3E29_67B2 ∷ 0x3D31_0F08 ∷ 0x0000_0000 ∷ []

-- four whole frames, and a short one at the flush
unfoldable pub energies : List ℕ
energies = 0x3D95_E5A2 ∷ 0x3E01_D50D ∷ 0x3E11_1E4A ∷ 0x3E20_EE27 ∷ 0x3DE6_363C ∷ []

-- pre-emphasis 0.97, nothing before
unfoldable pub values : List Float
values = emphasized (of_bits binary32 0x3F78_51EC) (of_bits binary32 0) (floats samples)

-- a hop of 8
pub frames_as_the_original : bits (energies_of false (floats window) 8 values ++ energies_of true (floats window) 8 (carry_of false (floats window) 8 values)) ≡ energies
unfolding samples window energies values emphasized emphasized_of carry_of framed_of consumed_of energies_of frames_of frames_from taken energy_of mean_square_of squares_from square_of root_of root_from integer_root twice_root fused_of of_bits to_bits of_int add mul div neg sum round
frames_as_the_original = refl
