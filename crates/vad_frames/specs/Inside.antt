-- What the private functions ask and answer. Nothing here has to be believed: no public contract cites it.
use Rattle.std.specs.Prelude.{◌≡◌, List, ℕ, T, length, Float}
use Rattle.std.proofs.lemmas.List.Edits.{sets}
use Rattle.std.specs.Float.Ieee.Scale.{finite}
use Rattle.lists.specs.Every.{Every}

-- the coefficient, the sample before and the block's samples, each a finite number
abbrev pub Operands : Float → Float → List Float → Type 0
Operands a previous xs = T (finite a) × T (finite previous) × Every (λ (x : Float). T (finite x)) xs

-- ys differs from xs in its first n numbers at most: whatever is written over them, both come to the same
abbrev pub SamePast : ℕ → List Float → List Float → Type 0
SamePast n ys xs = (vs : List Float) → length vs ≡ n → sets ys 0 vs ≡ sets xs 0 vs
