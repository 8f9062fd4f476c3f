-- How much there can be at most: document 01's domain, and refusals 11, 12, 15 and 17.
use Rattle.std.specs.Prelude.{ℕ, ◌^◌}

-- samples in a frame
abbrev pub frame_most : ℕ
frame_most = 2048

-- frames held
abbrev pub warmup_most : ℕ
warmup_most = 300

-- samples in a block
abbrev pub block_most : ℕ
block_most = 1024

-- samples received
abbrev pub received_most : ℕ
received_most = 2 ^ 40
