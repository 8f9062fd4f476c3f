-- Ranges of floats, ends included, and the domain of a sample and of the rate. Floats are compared as floats, so a NaN is in no range.
use Rattle.std.specs.Prelude.{Bool, true, ◌&&◌, cond, List, [], ◌∷◌, ℕ, suc, leb, Float}
use Rattle.std.specs.Float.{binary32}
use Rattle.std.specs.Float.Ieee.{of_bits, le, neg}

-- x in [low, high]
abbrev pub within : Float → Float → Float → Bool
within low x high = le low x && le x high

-- how many stand before the first outside: all, where none is
unfoldable pub leading_of : Float → List Float → Float → ℕ
leading_of low [] high = 0
leading_of low (x ∷ xs) high = cond (within low x high) (suc (leading_of low xs high)) 0

unfoldable pub all_within : Float → List Float → Float → Bool
all_within low [] high = true
all_within low (x ∷ xs) high = within low x high && all_within low xs high

-- ---- the domain of a sample

-- 65,536, by its bits
abbrev pub limit : Float
limit = of_bits binary32 0x4780_0000

-- 'each finite and of magnitude at most 65,536'
unfoldable pub in_domain : Float → Bool
in_domain x = within (neg limit) x limit

-- how many samples stand before the first outside the domain: the place that 16 carries
unfoldable pub clean_of : List Float → ℕ
clean_of xs = leading_of (neg limit) xs limit

-- ---- the domain of the rate

-- 'Rate 8,000 to 48,000 Hz'
unfoldable pub rate_in : ℕ → Bool
rate_in rate = leb 8000 rate && leb rate 48000
