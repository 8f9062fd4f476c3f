-- One turn of the loops over frames, over plain lists. Assumes nothing.
use mathlib.Core.Path.{◌≡◌, refl, sym, ap, ◌∙◌}
use Rattle.std.specs.Int.{from_bool}
use mathlib.Core.Bool.{Bool, true, false, cond}
use mathlib.Core.List.{List, [], ◌++◌}
use Prim.Native.Nat.{ℕ, suc, ◌+◌, ◌≤◌, ◌<◌}
use native.Mathlib.Numerals.{add-one}
use native.Mathlib.Omega.{arith}
use lib.ListN.{length, drop, get_or, length-append, drop_of_length-le}
use lib.Seq.{drop-cons, sets}
use lib.Ieee.{Float, nan}
use Rattle.lists.proofs.Stores.{sets_append}
use Rattle.vad_row.specs.Rows.{reported, flat}
use Rattle.vad_segments.specs.Judging.{judged_of, frame_at, frames_at, track_after, rows_of, louds_of, count_of}
use Rattle.vad_segments.specs.declared.Rules.{Rules}
use Rattle.vad_segments.specs.declared.FrameMetrics.{FrameMetrics}
use Rattle.vad_segments.specs.declared.Track.{Track}
use Rattle.vad_segments.specs.declared.Judged.{Judged}
use Rattle.vad_row.proofs.Laws.{flat_append}

-- a flag as a number is what `count_of` counts, and at most one
pub flag_is : (b : Bool) → (from_bool b ≡ cond b 1 0) × (cond b 1 0 ≤ 1)
flag_is true = (refl, omega arith)
flag_is false = (refl, omega arith)

-- the frames that are left from the energy i on
abbrev pub rest_at : Rules → ℕ → ℕ → ℕ → List Float → List FrameMetrics
rest_at r received start i es = frames_at r.lengths received start (drop i es)

module _ (i : ℕ) (es : List Float) (h : i < length es) where
  next : drop (i + 1) es ≡ drop (suc i) es
  next = rw (add-one i)

  module _ (r : Rules) (received start : ℕ) (t : Track) (j : Judged) (e : j ≡ judged_of r received t (frame_at r.lengths received start (get_or es i nan))) where
    pub track_step : track_after r received j.track (rest_at r received (start + r.lengths.hop_length) (i + 1) es) ≡ track_after r received t (rest_at r received start i es)
    unfolding track_after frames_at
    track_step = rw (e, next, drop-cons es i nan)

    pub loud_step : cond j.loud 1 0 + count_of (louds_of r received j.track (rest_at r received (start + r.lengths.hop_length) (i + 1) es)) ≡ count_of (louds_of r received t (rest_at r received start i es))
    unfolding count_of louds_of frames_at
    loud_step = rw (e, next, drop-cons es i nan)

    rows_step : reported j.report ++ rows_of r received j.track (rest_at r received (start + r.lengths.hop_length) (i + 1) es) ≡ rows_of r received t (rest_at r received start i es)
    unfolding rows_of frames_at
    rows_step = rw (e, next, drop-cons es i nan)

    pub flat_step : flat (reported j.report) ++ flat (rows_of r received j.track (rest_at r received (start + r.lengths.hop_length) (i + 1) es)) ≡ flat (rows_of r received t (rest_at r received start i es))
    flat_step = sym (flat_append (reported j.report) _) ∙ ap flat rows_step

    pub width_step : length (flat (reported j.report)) + length (flat (rows_of r received j.track (rest_at r received (start + r.lengths.hop_length) (i + 1) es))) ≡ length (flat (rows_of r received t (rest_at r received start i es)))
    width_step = sym (length-append (flat (reported j.report)) _) ∙ ap length flat_step

    pub sets_step : (rows after : List ℕ) (end past : ℕ) → past ≡ end + length (flat (reported j.report)) → after ≡ sets rows end (flat (reported j.report))
        → sets after past (flat (rows_of r received j.track (rest_at r received (start + r.lengths.hop_length) (i + 1) es))) ≡ sets rows end (flat (rows_of r received t (rest_at r received start i es)))
    sets_step rows after end past p s = rw (p, s) (sym (sets_append rows end (flat (reported j.report)) _) ∙ ap (sets rows end) flat_step)

module _ (i : ℕ) (es : List Float) (h : length es ≤ i) (r : Rules) (received start : ℕ) (t : Track) where
  pub track_end : track_after r received t (rest_at r received start i es) ≡ t
  unfolding track_after frames_at
  track_end = rw (drop_of_length-le es h)

  pub louds_end : count_of (louds_of r received t (rest_at r received start i es)) ≡ 0
  unfolding count_of louds_of frames_at
  louds_end = rw (drop_of_length-le es h)

  pub flat_end : flat (rows_of r received t (rest_at r received start i es)) ≡ []
  unfolding flat rows_of frames_at
  flat_end = rw (drop_of_length-le es h)
