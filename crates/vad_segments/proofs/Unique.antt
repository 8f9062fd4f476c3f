-- Two answers that meet a public function's contract are equal: each contract is an equation.
use mathlib.Core.Path.{◌≡◌}
use mathlib.Core.Bool.{Bool}
use mathlib.Core.List.{List}
use Prim.Native.Nat.{ℕ}
use lib.Ieee.{Float}
use Rattle.float.proofs.Unique.{only}
use Rattle.vad_config.specs.declared.Lengths.{Lengths}
use Rattle.vad_segments.specs.Loudness.{seed_of}
use Rattle.vad_segments.specs.Closing.{closed_of}
use Rattle.vad_segments.specs.Judging.{frame_at, judged_of, ended_of}
use Rattle.vad_segments.specs.Positions.{holds_of, undecided_of}
use Rattle.vad_segments.specs.declared.Rules.{Rules}
use Rattle.vad_segments.specs.declared.FrameMetrics.{FrameMetrics}
use Rattle.vad_segments.specs.declared.Track.{Track}
use Rattle.vad_segments.specs.declared.Judged.{Judged}

pub seed_unique : (least floor : Float) (es : List Float) (r q : Float) → r ≡ seed_of least floor es → q ≡ seed_of least floor es → r ≡ q
seed_unique least floor es r q = only

pub holds_unique : (finish : Bool) (count held : ℕ) (r q : Bool) → r ≡ holds_of finish count held → q ≡ holds_of finish count held → r ≡ q
holds_unique finish count held r q = only

pub undecided_unique : (warming : Bool) (padding carry : ℕ) (t : Track) (r q : ℕ) → r ≡ undecided_of warming padding carry t → q ≡ undecided_of warming padding carry t → r ≡ q
undecided_unique warming padding carry t r q = only

module _ (rules : Rules) (limit : ℕ) (t : Track) (r q : Judged) where
  pub judge_unique : (f : FrameMetrics) → r ≡ judged_of rules limit t f → q ≡ judged_of rules limit t f → r ≡ q
  judge_unique f = only

  pub close_unique : r ≡ closed_of rules limit t → q ≡ closed_of rules limit t → r ≡ q
  close_unique = only

  pub ended_unique : (finish : Bool) → r ≡ ended_of finish rules limit t → q ≡ ended_of finish rules limit t → r ≡ q
  ended_unique finish = only

pub frame_at_unique : (l : Lengths) (received start : ℕ) (energy : Float) (r q : FrameMetrics) → r ≡ frame_at l received start energy → q ≡ frame_at l received start energy → r ≡ q
frame_at_unique l received start energy r q = only
