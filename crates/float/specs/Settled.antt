-- A fused sum of finite operands by the processor's f64, and when that is settled. Nothing here has to be believed: a settled sum is
-- `fused_of`, as the contract of `quick_sum` says besides (`quick_fused` in proofs/Settling).
use Rattle.std.specs.Prelude.{ℕ, ◌+◌, ◌-◌, ◌*◌, ◌/◌, ◌%◌, Bool, cond, not, ◌&&◌, ◌||◌, ◌==◌, from_bits, nat_le, nat_lt, to_bits, Float}
use Rattle.std.specs.Float.{binary32, binary64}
use Rattle.std.specs.Float.Ieee.{add, mul}
use Rattle.float.specs.declared.quick.Quick.{Quick}
use Rattle.float.specs.Inside.{Q}

-- the upper half of an f64's pattern without its sign: above the smallest normal f32 and below the largest, but for a few at both ends, so that this half tells
unfoldable pub normal_size : ℕ → Bool
normal_size n = nat_lt 0x3810_0000 n && nat_lt n 0x47ef_ffff

-- an f64 by the halves of its pattern: what a normal f32 keeps of its size, and 1 where that is rounded up, a middle to the even one
unfoldable pub cut_of : ℕ → ℕ → ℕ
cut_of size low = (size - 0x3800_0000) * 8 + low / 0x2000_0000

unfoldable pub up_of : ℕ → ℕ → ℕ
up_of m low = (low % 0x2000_0000 + 0x0fff_ffff + m % 2) / 0x2000_0000

-- the f32 nearest to it; a zero of its sign where `normal_size` says no
unfoldable pub evened_of : ℕ → ℕ → Float
evened_of high low =
    let size = high % 0x8000_0000 in
    let m = cut_of size low in
    from_bits binary32 (high / 0x8000_0000 * 0x8000_0000 + cond (normal_size size) (m + up_of m low) 0)

-- three patterns whose exact sum has at most 53 digits: the addend is zero, or stands at most 4 places below the product and at most 28 above it
unfoldable pub exact_of : ℕ → ℕ → ℕ → Bool
exact_of x y z = z % 0x8000_0000 == 0 || (nat_le (Q x + Q y) (Q z + 154) && nat_le (Q z + 122) (Q x + Q y))

-- zero; or near a normal f32, and in no middle of two or exact
unfoldable pub settled_by : ℕ → ℕ → Bool → Bool
settled_by high low exact =
    let size = high % 0x8000_0000 in
    (size == 0 && low == 0) || (normal_size size && (not (low % 0x2000_0000 == 0x1000_0000) || exact))

unfoldable pub quick_of : Float → Float → Float → Quick
quick_of a b c =
    let w = to_bits binary64 (add binary64 (mul binary64 a b) c) in
    let high = w / 0x1_0000_0000 in
    let low = w % 0x1_0000_0000 in
    record { sum = evened_of high low; settled = settled_by high low (exact_of (to_bits binary32 a) (to_bits binary32 b) (to_bits binary32 c)) }
