-- Document 01's 'Frames': how long frames are held, and the undecided position.
use Rattle.vad_segments.specs.declared.ActiveSegmentState.{ActiveSegmentState}
use Rattle.std.specs.Prelude.{Bool, not, ◌&&◌, cond, ℕ, ◌-◌, min, max, ltb, None, Option, Some}
use Rattle.vad_segments.specs.declared.Track.{Track}

-- 'Warm-up holds frames until the count is reached or flush comes.'
unfoldable pub holds_of : Bool → ℕ → ℕ → Bool
holds_of finish count held = not finish && ltb held count

-- 'next = the lesser of carry start and the open segment's start'
unfoldable pub next_of : ℕ → Option ActiveSegmentState → ℕ
next_of carry None = carry
next_of carry (Some s) = min carry s.start_sample

-- 'the greater of next − padding (not below 0) and the lesser of last segment end and next'
unfoldable pub decided_to : ℕ → ℕ → ℕ → ℕ
decided_to padding last next = max (next - padding) (min last next)

-- 'Undecided position: 0 while warming.'
unfoldable pub undecided_of : Bool → ℕ → ℕ → Track → ℕ
undecided_of warming padding carry t = cond warming 0 (decided_to padding t.last_segment_end (next_of carry t.active_segment))
