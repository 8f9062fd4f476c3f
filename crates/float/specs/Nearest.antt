-- What it is to be the nearest float to a root, with no root in the text.
use Rattle.std.specs.Prelude.{ℕ, ◌+◌, ◌*◌, ◌≤◌, Bool, true, false, T, Float}
use Rattle.std.specs.Float.{nan, inf, fin, binary32}
use Rattle.std.specs.Float.Ieee.{fits, lt}
use Rattle.std.specs.Float.Ieee.Positive.{num, den}

-- finite and not negative: +0 or above
abbrev pub not_negative : Float → Bool
not_negative nan = false
not_negative (inf s) = false
not_negative (fin true m e) = false
not_negative (fin false m e) = true

-- y + z, over den y * den z
abbrev pub total : Float → Float → ℕ
total y z = num y * den z + num z * den y

abbrev pub scale : Float → Float → ℕ
scale y z = den y * den z

-- 4 * x ≤ (y + z) ^ 2, which says that the root of x is at most half way from y to z, and the other way round
abbrev pub RootBelowMiddle : Float → Float → Float → Type 0
RootBelowMiddle x y z = 4 * num x * (scale y z * scale y z) ≤ total y z * total y z * den x

abbrev pub RootAboveMiddle : Float → Float → Float → Type 0
RootAboveMiddle x y z = total y z * total y z * den x ≤ 4 * num x * (scale y z * scale y z)

-- y is an f32, and no f32 is nearer to the root of x than y is
pub record NearestRoot (x y : Float) : Type 0 where
  pub held : T (fits binary32 y)
  pub plus : T (not_negative y)
  pub over : (z : Float) → T (fits binary32 z) → T (not_negative z) → T (lt y z) → RootBelowMiddle x y z
  pub under : (z : Float) → T (fits binary32 z) → T (not_negative z) → T (lt z y) → RootAboveMiddle x y z
