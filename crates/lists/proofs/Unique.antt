-- Two slices that meet `put_numbers`'s contract are equal: it is an equation. Assumes nothing.
use mathlib.Core.Path.{◌≡◌, sym, ◌∙◌}
use mathlib.Core.List.{List}
use Prim.Native.Nat.{ℕ}
use lib.Seq.{sets}

pub put_unique : {A : Type 0} (to numbers r q : List A) (at : ℕ) → r ≡ sets to at numbers → q ≡ sets to at numbers → r ≡ q
put_unique to numbers r q at h g = h ∙ sym g
