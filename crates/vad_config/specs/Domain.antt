-- Document 01's 'Domain' and the ranges of its 'Refusal numbers'; the rate's is in Ranges. Floats are compared as floats: −0 is neither negative nor positive, and no comparison with a NaN holds.
use Rattle.std.specs.Prelude.{ℕ, ◌^◌, Bool, ◌&&◌, nat_le, nat_lt, Float}
use Rattle.std.specs.Float.Ieee.{le, lt}
use Rattle.float.specs.Numbers.{zero32, one32}
use Rattle.ranges.specs.Sizes.{received_most}

-- '[0,1)'
unfoldable pub in_unit : Float → Bool
in_unit x = le zero32 x && lt x one32

-- 'frame 1 to 1,000,000,000 ns'
unfoldable pub duration_in : ℕ → Bool
duration_in ns = nat_le 1 ns && nat_le ns 1000000000

-- 'stream start below 2^63 ns'
unfoldable pub start_in : ℕ → Bool
start_in ns = nat_lt ns (2 ^ 63)

-- 'at most 2^40 samples received'
unfoldable pub received_in : ℕ → Bool
received_in n = nat_le n received_most
