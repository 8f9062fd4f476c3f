-- Places among the numbers of a stored state, for proofs that name them.
use Prim.Native.Nat.{ℕ}

-- the name of the layout
abbrev pub layout : ℕ
layout = 0

-- the settings, durations and times in nanoseconds; a flag is 0 or 1
abbrev pub sample_rate_in : ℕ
sample_rate_in = 5

abbrev pub frame_duration_in : ℕ
frame_duration_in = 6

abbrev pub has_pre_emphasis_in : ℕ
has_pre_emphasis_in = 7

abbrev pub hangover_frames_in : ℕ
hangover_frames_in = 8

abbrev pub speech_padding_in : ℕ
speech_padding_in = 9

abbrev pub min_speech_frames_in : ℕ
min_speech_frames_in = 10

abbrev pub stream_start_time_in : ℕ
stream_start_time_in = 11

-- the desk
abbrev pub warming : ℕ
warming = 19

-- the open segment: zeros where none is open
abbrev pub is_open : ℕ
is_open = 24
