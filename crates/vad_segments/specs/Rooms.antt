-- What keeps every sum of a call below 2^64. A state that document 01 calls sound has it with much to spare.
use Rattle.std.specs.Prelude.{ℕ, ◌^◌, ◌≤◌, None, Option, Some}
use Rattle.vad_config.specs.declared.Lengths.{Lengths}
use Rattle.vad_segments.specs.declared.ActiveSegmentState.{ActiveSegmentState}
use Rattle.vad_segments.specs.declared.Track.{Track}

-- ---- the numbers

-- a frame, a hop or the padding in samples
abbrev pub length_most : ℕ
length_most = 65536

-- frames that a call judges
abbrev pub frames_most : ℕ
frames_most = 4096

-- positions and counts before a call ..
abbrev pub positions_first : ℕ
positions_first = 2 ^ 41

abbrev pub counts_first : ℕ
counts_first = 2 ^ 60

-- .. and before each of its frames and its end
abbrev pub positions_most : ℕ
positions_most = 2 ^ 42

abbrev pub counts_most : ℕ
counts_most = 2 ^ 62

-- ---- what they bound

abbrev pub LengthsWithin : Lengths → Type 0
LengthsWithin l = (l.frame_length ≤ length_most) × (l.hop_length ≤ length_most) × (l.padding_samples ≤ length_most)

-- positions at most p, counts at most b
abbrev pub SegmentWithin : ℕ → ℕ → ActiveSegmentState → Type 0
SegmentWithin p b s = (s.start_sample ≤ p) × (s.last_end_sample ≤ p) × (s.score_total ≤ b) × (s.loud_frames ≤ b) × (s.silence_run ≤ b)

abbrev pub ActiveWithin : ℕ → ℕ → Option ActiveSegmentState → Type 0
ActiveWithin p b None = Unit {0}
ActiveWithin p b (Some s) = SegmentWithin p b s

abbrev pub Within : ℕ → ℕ → Track → Type 0
Within p b t = (t.last_segment_end ≤ p) × (t.rows_reported ≤ b) × (t.talk_samples ≤ b) × ActiveWithin p b t.active_segment
