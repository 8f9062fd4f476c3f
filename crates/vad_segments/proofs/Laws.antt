-- A call's frames in two parts. Assumes nothing.
use mathlib.Core.Path.{◌≡◌, refl, ap}
use mathlib.Core.Bool.{Bool}
use mathlib.Core.List.{List, [], ◌∷◌, ◌++◌, append_assoc}
use Prim.Native.Nat.{ℕ, suc, ◌+◌, ◌*◌}
use native.Mathlib.Nat.{zero-add, suc-mul}
use native.Mathlib.Omega.{arith}
use lib.ListN.{length}
use lib.Ieee.{Float}
use Rattle.vad_config.specs.declared.Lengths.{Lengths}
use Rattle.vad_row.specs.Rows.{reported}
use Rattle.vad_segments.specs.Judging.{judged_of, frames_at, track_after, rows_of, louds_of, count_of}
use Rattle.vad_segments.specs.declared.Rules.{Rules}
use Rattle.vad_segments.specs.declared.FrameMetrics.{FrameMetrics}
use Rattle.vad_segments.specs.declared.Track.{Track}

-- ---- frames in two parts

pub frames_append : (l : Lengths) (received start : ℕ) (a b : List Float) → frames_at l received start (a ++ b) ≡ frames_at l received start a ++ frames_at l received (start + length a * l.hop_length) b
unfolding frames_at
frames_append l received start [] b = let here : start ≡ start + 0 * l.hop_length = omega arith in ap (λ n. frames_at l received n b) here
frames_append l received start (e ∷ a) b =
    let hop = l.hop_length in
    let on : start + hop + length a * hop ≡ start + suc (length a) * hop = rw (suc-mul (length a) hop) (omega arith) in
    rw (frames_append l received (start + hop) a b, on)

module _ (r : Rules) (limit : ℕ) where
  pub track_append : (t : Track) (a b : List FrameMetrics) → track_after r limit t (a ++ b) ≡ track_after r limit (track_after r limit t a) b
  unfolding track_after
  track_append t [] b = refl
  track_append t (f ∷ a) b = track_append (judged_of r limit t f).track a b

  pub rows_append : (t : Track) (a b : List FrameMetrics) → rows_of r limit t (a ++ b) ≡ rows_of r limit t a ++ rows_of r limit (track_after r limit t a) b
  unfolding track_after rows_of
  rows_append t [] b = refl
  rows_append t (f ∷ a) b =
      let next = (judged_of r limit t f).track in
      rw (rows_append next a b, append_assoc (reported (judged_of r limit t f).report) (rows_of r limit next a) (rows_of r limit (track_after r limit next a) b))

  pub louds_append : (t : Track) (a b : List FrameMetrics) → louds_of r limit t (a ++ b) ≡ louds_of r limit t a ++ louds_of r limit (track_after r limit t a) b
  unfolding track_after louds_of
  louds_append t [] b = refl
  louds_append t (f ∷ a) b = rw (louds_append (judged_of r limit t f).track a b)

pub count_append : (a b : List Bool) → count_of (a ++ b) ≡ count_of a + count_of b
unfolding count_of
count_append [] b = rw (zero-add (count_of b))
count_append (x ∷ a) b = let ih = count_append a b in omega arith
