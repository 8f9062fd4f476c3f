-- Document 01, 'Score'.
use Rattle.std.specs.Prelude.{Bool, true, false, not, cond, ◌≡◌, ℕ, zero, suc, ◌*◌, ◌^◌, ◌<◌, leb, Float}
use Rattle.std.specs.Float.{nan, inf, fin, binary32}
use Rattle.std.specs.Float.Ieee.{up, down, of_bits}

-- 10^k ≤ r^1024. A finite r is m · 2^e, that is m · up e / down e, so both sides are multiplied by (down e)^1024.
-- A negative r reaches nothing, though its even power may be large: it is below 1. Nor does NaN. Plus infinity reaches every power.
unfoldable pub reaches : Float → ℕ → Bool
reaches nan k = false
reaches (inf s) k = not s
reaches (fin true m e) k = false
reaches (fin false m e) k = leb (10 ^ k * down e ^ 1024) ((m * up e) ^ 1024)

-- the largest of 0 .. n that passes the test, and 0 where none does
unfoldable pub largest : (ℕ → Bool) → ℕ → ℕ
largest p zero = zero
largest p (suc n) = let lower = largest p n in cond (p (suc n)) (suc n) lower

-- 'The largest k in 0..1,024 with 10^k ≤ r^1024; 0 below 1 or for NaN; plus infinity scores 1,024.'
unfoldable pub score_of : Float → ℕ
score_of r = largest (reaches r) 1024

-- 'Entry k the least f32 above 0 whose 1,024th power reaches 10^k', by its bits n. The patterns of the floats above 0 are in the order of the floats.
pub record Threshold (k n : ℕ) : Type 0 where
  pub reached : reaches (of_bits binary32 n) k ≡ true
  pub least : (b : ℕ) → b < n → reaches (of_bits binary32 b) k ≡ false
