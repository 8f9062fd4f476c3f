-- Two answers that meet a public function's contract are equal, and so are two slices of rows: each contract is an equation. Assumes nothing.
use Rattle.vad_row.specs.declared.Row.{Row}
use Rattle.std.specs.Prelude.{Option}
use mathlib.Core.Path.{◌≡◌, sym, ◌∙◌}
use mathlib.Core.List.{List}
use Prim.Native.Nat.{ℕ, ◌+◌}
use lib.ListN.{length}
use lib.Seq.{sets}
use Rattle.vad_row.specs.Rows.{flat, reported, talk_of}

module _ (p : Option Row) (r q : ℕ) where
  pub rows_in_unique : r ≡ length (reported p) → q ≡ length (reported p) → r ≡ q
  rows_in_unique h g = h ∙ sym g

  pub talk_in_unique : r ≡ talk_of (reported p) → q ≡ talk_of (reported p) → r ≡ q
  talk_in_unique h g = h ∙ sym g

  pub place_unique : (at : ℕ) → r ≡ at + length (flat (reported p)) → q ≡ at + length (flat (reported p)) → r ≡ q
  place_unique at h g = h ∙ sym g

pub put_unique : (p : Option Row) (at : ℕ) (rows r q : List ℕ) → r ≡ sets rows at (flat (reported p)) → q ≡ sets rows at (flat (reported p)) → r ≡ q
put_unique p at rows r q h g = h ∙ sym g
