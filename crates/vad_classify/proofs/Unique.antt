-- Two answers that meet a public function's contract are equal, and so are two slices of rows: each contract is an equation.
use mathlib.Core.Path.{◌≡◌}
use mathlib.Core.Bool.{Bool}
use mathlib.Core.List.{List}
use Prim.Native.Nat.{ℕ}
use lib.Seq.{sets}
use lib.Ieee.{Float}
use Rattle.float.proofs.Unique.{only}
use Rattle.vad_row.specs.Rows.{flat}
use Rattle.vad_segments.specs.Judging.{frames_at, call_rows}
use Rattle.vad_segments.specs.declared.Rules.{Rules}
use Rattle.vad_segments.specs.declared.Track.{Track}
use Rattle.vad_classify.specs.Classify.{classified_of}
use Rattle.vad_classify.specs.declared.Classified.{Classified}

module _ (finish : Bool) (rules : Rules) (received first : ℕ) (t : Track) (es : List Float) where
  pub classify_unique : (r q : Classified) → r ≡ classified_of finish rules received t (frames_at rules.lengths received first es) → q ≡ classified_of finish rules received t (frames_at rules.lengths received first es) → r ≡ q
  classify_unique r q = only

  pub rows_unique : (rows r q : List ℕ) → r ≡ sets rows 0 (flat (call_rows finish rules received t (frames_at rules.lengths received first es))) → q ≡ sets rows 0 (flat (call_rows finish rules received t (frames_at rules.lengths received first es))) → r ≡ q
  rows_unique rows r q = only
