-- How far one frame takes the track: positions by 1 at most, counts by a position and 1,025. Assumes nothing.
use Rattle.std.specs.Prelude.{None, Option, Some}
use mathlib.Core.Bool.{Bool, true, false, cond}
use mathlib.Core.List.{List, [], ◌∷◌}
use Prim.Native.Nat.{ℕ, ◌+◌, ◌*◌, ◌≤◌, ◌<◌, max}
use native.Mathlib.Omega.{arith}
use lib.Dec.{leb}
use lib.ListN.{length}
use lib.Ieee.{Float}
use Rattle.score.proofs.Laws.{score_le}
use Rattle.vad_segments.specs.Loudness.{ratio_of}
use Rattle.vad_row.specs.Rows.{reported, talk_of}
use Rattle.vad_row.proofs.Laws.{talk_fits, report_le}
use Rattle.vad_segments.specs.Closing.{time_at, padded_start, padded_end, dropped_of, too_short, timed_of, finalized_of, booked_of, closed_by, closed_of, row_of}
use Rattle.vad_segments.specs.Judging.{floored_to, active_to, begun_at, segment_for, extended_by, loud_added, paused_by, paused_of, is_loud, is_speech, floor_after, turned_of, judged_of, frame_at, frames_at, track_after}
use Rattle.vad_segments.specs.Rooms.{length_most, frames_most, positions_first, counts_first, positions_most, counts_most, LengthsWithin, SegmentWithin, ActiveWithin, Within}
use Rattle.vad_segments.specs.declared.Rules.{Rules}
use Rattle.vad_segments.specs.declared.FrameMetrics.{FrameMetrics}
use Rattle.vad_segments.specs.declared.ActiveSegmentState.{ActiveSegmentState}
use Rattle.vad_segments.specs.declared.Finalized.{Finalized}
use Rattle.vad_segments.specs.declared.Track.{Track}

-- a frame's positions are at most p
abbrev pub FrameWithin : ℕ → FrameMetrics → Type 0
FrameWithin p f = (f.start_sample ≤ p) × (f.end_sample ≤ p)

-- ---- a segment closed

-- the new end, and the row's samples, if there is a row
abbrev pub EndsBy : ℕ → Finalized → Type 0
EndsBy p f = (f.end ≤ p) × (talk_of (reported f.report) ≤ p)

module _ (r : Rules) (limit prev : ℕ) (s : ActiveSegmentState) (p b : ℕ) (h : SegmentWithin p b s) (before : prev ≤ p) (most : limit ≤ p) where
  dropped_ends : EndsBy (p + 1) (dropped_of limit prev s)
  unfolding dropped_of reported talk_of
  dropped_ends = (omega arith, omega arith)

  timed_ends : (from to : ℕ) → to ≤ p + 1 → EndsBy (p + 1) (timed_of r.config limit prev from to s)
  unfolding timed_of row_of reported talk_of
  timed_ends from to l = go (leb (time_at r.config to) (time_at r.config from))
    where
      go : (t : Bool) → EndsBy (p + 1) (cond t (dropped_of limit prev s) (record { end = to; report = Some (row_of r.config from to s) }))
      go true = dropped_ends
      go false = (omega arith, omega (arith, (talk_fits (row_of r.config from to s)).most))

  padded_le : (padding : ℕ) → padded_end padding limit s ≤ p + 1
  unfolding padded_end
  padded_le padding = omega arith

  pub finalized_ends : EndsBy (p + 1) (finalized_of r limit prev s)
  unfolding finalized_of
  finalized_ends = go (too_short r.config s)
    where
      from : ℕ
      from = padded_start r.lengths.padding_samples prev s

      to : ℕ
      to = padded_end r.lengths.padding_samples limit s

      go : (t : Bool) → EndsBy (p + 1) (cond t (dropped_of limit prev s) (timed_of r.config limit prev from to s))
      go true = dropped_ends
      go false = timed_ends from to (padded_le r.lengths.padding_samples)

-- ---- a frame

-- after a frame, where positions were at most p and counts at most b
abbrev pub Grown : ℕ → ℕ → Track → Type 0
Grown p b t = Within (p + 1) (b + p + 1025) t

active_up : (p q b c : ℕ) → p ≤ q → b ≤ c → (a : Option ActiveSegmentState) → ActiveWithin p b a → ActiveWithin q c a
active_up p q b c l m None h = tt
active_up p q b c l m (Some s) h = (omega arith, omega arith, omega arith, omega arith, omega arith)

pub within_up : (p q b c : ℕ) → p ≤ q → b ≤ c → (t : Track) → Within p b t → Within q c t
within_up p q b c l m t h = (omega arith, omega arith, omega arith, active_up p q b c l m t.active_segment h.3)

pub segment_counts : (p b : ℕ) (a : Option ActiveSegmentState) (start : ℕ) → ActiveWithin p b a → ((segment_for a start).score_total ≤ b) × ((segment_for a start).loud_frames ≤ b)
unfolding segment_for begun_at
segment_counts p b None start h = (omega arith, omega arith)
segment_counts p b (Some s) start h = (omega arith, omega arith)

segment_start : (p b : ℕ) (a : Option ActiveSegmentState) (start : ℕ) → ActiveWithin p b a → start ≤ p → (segment_for a start).start_sample ≤ p
unfolding segment_for begun_at
segment_start p b None start h l = l
segment_start p b (Some s) start h l = h.0

paused_within : (p b : ℕ) (a : Option ActiveSegmentState) → ActiveWithin p b a → ActiveWithin p (b + 1) (paused_by a)
unfolding paused_by
paused_within p b None h = tt
paused_within p b (Some s) h = (omega arith, omega arith, omega arith, omega arith, omega arith)

module _ (r : Rules) (limit p b : ℕ) (most : limit ≤ p) where
  closed_within : (t : Track) → Within p b t → Grown p b (closed_of r limit t).track
  unfolding closed_of closed_by booked_of
  closed_within t h = go t.active_segment h.3
    where
      go : (a : Option ActiveSegmentState) → ActiveWithin p b a → Grown p b (closed_by r limit t a).track
      go None w = (omega arith, omega arith, omega arith, active_up p (p + 1) b (b + p + 1025) (omega arith) (omega arith) t.active_segment h.3)
      go (Some s) w =
          let f = finalized_of r limit t.last_segment_end s in
          let e = finalized_ends r limit t.last_segment_end s p b w h.0 most in
          let one = report_le f.report in
          (e.0, omega arith, omega arith, tt)

  module _ (t : Track) (f : FrameMetrics) (h : Within p b t) (k : FrameWithin p f) where
    added_within : (ratio : Float) → Grown p b (loud_added t f ratio)
    unfolding loud_added active_to extended_by
    added_within ratio =
        let at = max f.start_sample t.last_segment_end in
        let start = segment_start p b t.active_segment at h.3 (omega arith) in
        let n = segment_counts p b t.active_segment at h.3 in
        let m = score_le ratio in
        (omega arith, omega arith, omega arith, (omega arith, omega arith, omega arith, omega arith, omega arith))

    turned_within : (ratio : Float) (loud speech : Bool) → Grown p b (turned_of r limit t f ratio loud speech).track
    unfolding turned_of paused_of active_to
    turned_within ratio true speech = added_within ratio
    turned_within ratio false true =
        (omega arith, omega arith, omega arith, active_up p (p + 1) (b + 1) (b + p + 1025) (omega arith) (omega arith) (paused_by t.active_segment) (paused_within p b t.active_segment h.3))
    turned_within ratio false false = closed_within t h

  pub judged_within : (t : Track) (f : FrameMetrics) → Within p b t → FrameWithin p f → Grown p b (judged_of r limit t f).track
  unfolding judged_of floored_to
  judged_within t f h k = turned_within (floored_to (floor_after r t f) t) f h k (ratio_of f.energy t.noise_floor) (is_loud r t f) (is_speech r t f)

-- ---- a call's frames

-- before the frame i of a call
abbrev pub positions_at : ℕ → ℕ
positions_at i = positions_first + i * length_most

abbrev pub counts_at : ℕ → ℕ
counts_at i = counts_first + i * (2 * positions_most)

abbrev pub Roomy : ℕ → ℕ → Track → Type 0
Roomy i start t = (start ≤ positions_at i) × Within (positions_at i) (counts_at i) t

pub roomy_within : (i start : ℕ) (t : Track) → i ≤ frames_most → Roomy i start t → Within positions_most counts_most t
roomy_within i start t l h = within_up _ _ _ _ (omega arith) (omega arith) t h.1

module _ (r : Rules) (received : ℕ) (most : received ≤ positions_first) (short : LengthsWithin r.lengths) where
  pub roomy_next : (i start : ℕ) (t : Track) (e : Float) → i < frames_most → Roomy i start t → Roomy (i + 1) (start + r.lengths.hop_length) (judged_of r received t (frame_at r.lengths received start e)).track
  unfolding frame_at
  roomy_next i start t e l h =
      let f = frame_at r.lengths received start e in
      let w = judged_within r received (positions_at i) (counts_at i) (omega arith) t f h.1 (omega arith, omega arith) in
      (omega arith, within_up _ _ _ _ (omega arith) (omega arith) (judged_of r received t f).track w)

  pub track_within : (es : List Float) (i start : ℕ) (t : Track) → i + length es ≤ frames_most → Roomy i start t → Within positions_most counts_most (track_after r received t (frames_at r.lengths received start es))
  unfolding frames_at track_after
  track_within [] i start t l h = roomy_within i start t (omega arith) h
  track_within (e ∷ es) i start t l h = track_within es (i + 1) _ _ (omega arith) (roomy_next i start t e (omega arith) h)
