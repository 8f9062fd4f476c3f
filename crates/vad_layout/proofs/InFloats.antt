-- Places among the floats of a stored state, for proofs that name them.
use Prim.Native.Nat.{ℕ}

-- the arrays, one behind the other, and what is no array
abbrev pub window : ℕ
window = 0

abbrev pub carry : ℕ
carry = 2048

abbrev pub warmup : ℕ
warmup = 4096

abbrev pub singles : ℕ
singles = 4396

-- the settings
abbrev pub frame_overlap_in : ℕ
frame_overlap_in = 4396

abbrev pub pre_emphasis_in : ℕ
pre_emphasis_in = 4397

abbrev pub activation_ratio_in : ℕ
activation_ratio_in = 4398

abbrev pub release_ratio_in : ℕ
release_ratio_in = 4399

abbrev pub min_speech_energy_in : ℕ
min_speech_energy_in = 4400

abbrev pub noise_smoothing_in : ℕ
noise_smoothing_in = 4401

abbrev pub energy_floor_in : ℕ
energy_floor_in = 4402
