-- Document 01's runs A and B: their settings, their sound and their rows.
use Rattle.std.specs.Prelude.{false, List, [], ◌∷◌, ℕ, get_or, replicate, Float}
use Rattle.std.specs.Float.{binary32}
use Rattle.std.specs.Float.Ieee.{of_bits}
use Rattle.float.specs.Numbers.{zero32}
use Rattle.vad_config.specs.Config.{settings_of}
use Rattle.vad_config.specs.declared.VadConfig.{VadConfig}

-- '8 kHz, .. no pre-emphasis, .. smoothing 0, floor 2^-10, gate 0, .. hangover 1, minimum 1, .. start 0': the overlap and the two ratios by their bits, the frame and the padding in nanoseconds
abbrev pub config_of : ℕ → ℕ → ℕ → ℕ → ℕ → VadConfig
config_of overlap frame padding activation release =
    settings_of 8000 frame (of_bits binary32 overlap) false zero32 (of_bits binary32 activation) (of_bits binary32 release) zero32 zero32 (of_bits binary32 0x3A80_0000) 1 padding 1 0

-- 'frame 10 ms, overlap 0, .. activation 4, .. padding 5 ms'
abbrev pub config : ℕ → VadConfig
config release = config_of 0 10000000 5000000 0x4080_0000 release

-- 'window all 1, rise 0.5'
abbrev pub window : List Float
window = replicate 80 (of_bits binary32 0x3F80_0000)

-- 'Six detects of 80 equal samples: 1/64, 1/64, 1, 1, 1/64, 1/64'; a frame of equal samples has that energy
abbrev pub blocks : List ℕ
blocks = 0x3C80_0000 ∷ 0x3C80_0000 ∷ 0x3F80_0000 ∷ 0x3F80_0000 ∷ 0x3C80_0000 ∷ 0x3C80_0000 ∷ []

abbrev pub block_of : ℕ → List Float
block_of k = replicate 80 (of_bits binary32 (get_or blocks k 0))

-- run A: release 2; run B: release 1.5
abbrev pub a : ℕ
a = 0x4000_0000

abbrev pub b : ℕ
b = 0x3FC0_0000

abbrev pub row_a : List ℕ
row_a = 120 ∷ 280 ∷ 15000000 ∷ 35000000 ∷ 1024 ∷ 1 ∷ 1065353216 ∷ []

abbrev pub row_b : List ℕ
row_b = 120 ∷ 360 ∷ 15000000 ∷ 45000000 ∷ 1325 ∷ 2 ∷ 1065353216 ∷ []
