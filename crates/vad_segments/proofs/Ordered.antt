-- Where rows lie: times of different samples differ, a segment closes between the last segment end and the limit, and rows come in order. Assumes nothing.
use Rattle.std.specs.Prelude.{None, Option, Some}
use mathlib.Core.Path.{◌≡◌, refl, sym, ap, ◌∙◌, subst}
use mathlib.Core.Bool.{Bool, true, false, ◌||◌, cond, true≢false}
use mathlib.Core.List.{List, [], ◌∷◌, ◌++◌}
use Prim.Native.Nat.{ℕ, suc, ◌+◌, ◌-◌, ◌*◌, ◌/◌, ◌^◌, ◌≤◌, ◌<◌, min, max}
use native.Mathlib.Nat.{le_refl, le_trans, suc-mul, div-mul-le_self, le-div_iff_mul-le}
use native.Mathlib.Omega.{arith}
use borrow.Author.Tests.{leb-false, lt-leb}
use lib.Dec.{leb, ltb}
use lib.ListN.{length, length-append}
use Rattle.lists.specs.Every.{Every}
use Rattle.lists.proofs.Every.{every_append, every_map, every_both}
use Rattle.lists.proofs.Tests.{either}
use Rattle.vad_config.specs.Lengths.{time_of}
use Rattle.vad_config.specs.declared.VadConfig.{VadConfig}
use Rattle.vad_config.specs.declared.Lengths.{Lengths}
use Rattle.vad_config.proofs.Laws.{Accepted, time_is}
use Rattle.vad_row.specs.Rows.{reported, talk_of}
use Rattle.vad_row.specs.declared.Row.{Row}
use Rattle.vad_row.proofs.Laws.{Between, RowsFrom, talk_none, talk_append, between_le, between_append, between_talk, in_order_rows, in_order_starts}
use Rattle.vad_segments.specs.Closing.{time_at, row_of, padded_start, padded_end, dropped_of, too_short, timed_of, finalized_of, booked_of, closed_by, closed_of}
use Rattle.vad_segments.specs.Judging.{floored_to, active_to, begun_at, segment_for, extended_by, loud_added, paused_by, paused_of, is_loud, is_speech, floor_after, turned_of, judged_of, frame_at, frames_at, track_after, rows_of, ended_of, call_rows, call_track}
use Rattle.vad_segments.specs.Loudness.{ratio_of}
use Rattle.vad_segments.proofs.Rooms.{FrameWithin}
use Rattle.vad_segments.specs.declared.Rules.{Rules}
use Rattle.vad_segments.specs.declared.FrameMetrics.{FrameMetrics}
use Rattle.vad_segments.specs.declared.ActiveSegmentState.{ActiveSegmentState}
use Rattle.vad_segments.specs.declared.Finalized.{Finalized}
use Rattle.vad_segments.specs.declared.Track.{Track}
use Rattle.vad_segments.specs.declared.Judged.{Judged}
use lib.Ieee.{Float}

-- ---- times

-- a later sample has a later time, at any rate that is no more than one sample a nanosecond
pub time_strict : (start rate n m : ℕ) → 1 ≤ rate → rate ≤ 1000000000 → n < m → time_of start rate n < time_of start rate m
unfolding time_of
time_strict start rate n m l u h =
    let x = n * 1000000000 + rate / 2 in
    let y = m * 1000000000 + rate / 2 in
    let a : x / rate * rate ≤ x = div-mul-le_self x rate in
    let b : suc (x / rate) ≤ y / rate = (le-div_iff_mul-le l).1 (rw (suc-mul (x / rate) rate) (omega arith)) in
    omega arith

-- of two samples in the domain
pub times_apart : (c : VadConfig) (n m : ℕ) → Accepted c → n < m → m ≤ 2 ^ 40 → leb (time_at c m) (time_at c n) ≡ false
unfolding time_at
times_apart c n m a h g =
    let start = c.stream_start_time in
    let rate = c.sample_rate in
    rw (time_is start rate m a.rate a.start_high g, time_is start rate n a.rate a.start_high (omega arith))
    (lt-leb (time_of start rate m) (time_of start rate n) (time_strict start rate n m (omega (arith, a.rate_low)) (omega (arith, a.rate_high)) h))

-- ---- closing a segment

-- a segment that starts at or after prev, and whose start and last loud end are at most the limit
abbrev pub SegmentOrdered : ℕ → ℕ → ActiveSegmentState → Type 0
SegmentOrdered prev limit s = (prev ≤ s.start_sample) × (s.start_sample ≤ limit) × (s.last_end_sample ≤ limit)

-- if one is open
abbrev pub ActiveOrdered : ℕ → ℕ → Option ActiveSegmentState → Type 0
ActiveOrdered prev limit None = Unit {0}
ActiveOrdered prev limit (Some s) = SegmentOrdered prev limit s

-- a segment closed, without the extension to start + 1 and without the test on equal times
unfoldable pub plainly_of : Rules → ℕ → ℕ → ActiveSegmentState → Finalized
plainly_of r limit prev s =
    let padding = r.lengths.padding_samples in
    let end = min (s.last_end_sample + padding) limit in
    cond (too_short r.config s) (dropped_of limit prev s) (record { end = end; report = Some (row_of r.config (padded_start padding prev s) end s) })

timed_is : (c : VadConfig) (limit prev start end : ℕ) (s : ActiveSegmentState) → Accepted c → start < end → end ≤ 2 ^ 40
    → timed_of c limit prev start end s ≡ record { end = end; report = Some (row_of c start end s) }
unfolding timed_of
timed_is c limit prev start end s a h g = rw (times_apart c start end a h g)

-- what the test that a run is long enough says
lasts : (c : VadConfig) (s : ActiveSegmentState) → too_short c s ≡ false → s.start_sample < s.last_end_sample
unfolding too_short
lasts c s = go (leb s.last_end_sample s.start_sample) (ltb s.loud_frames c.min_speech_frames) (leb-false s.last_end_sample s.start_sample)
  where
    go : (x y : Bool) → (x ≡ false → s.start_sample < s.last_end_sample) → (x || y) ≡ false → s.start_sample < s.last_end_sample
    go true y f h = absurd (true≢false h)
    go false y f h = f refl

-- a segment closed between the end before, prev, and the limit: the new end is at most the limit, and the row, if there is one, lies between the two ends
pub record ClosedBetween (prev limit : ℕ) (f : Finalized) : Type 0 where
  pub high : f.end ≤ limit
  pub rows : Between prev (reported f.report) f.end

module _ (r : Rules) (limit : ℕ) (a : Accepted r.config) (g : limit ≤ 2 ^ 40) where
  -- the two never take effect: a segment that is not dropped ends past its start and at or before the limit
  pub one_more_idle : (prev : ℕ) (s : ActiveSegmentState) → SegmentOrdered prev limit s → finalized_of r limit prev s ≡ plainly_of r limit prev s
  one_more_idle prev s o = unfold finalized_of plainly_of in go (too_short r.config s) (lasts r.config s)
    where
      padding : ℕ
      padding = r.lengths.padding_samples

      start : ℕ
      start = padded_start padding prev s

      end : ℕ
      end = min (s.last_end_sample + padding) limit

      end_is : s.start_sample < s.last_end_sample → padded_end padding limit s ≡ end
      end_is h = unfold padded_end in omega (arith, o.1, o.2)

      start_lt : s.start_sample < s.last_end_sample → start < end
      start_lt h = unfold padded_start in omega (arith, o.0, o.1, o.2)

      go : (t : Bool) → (t ≡ false → s.start_sample < s.last_end_sample)
          → cond t (dropped_of limit prev s) (timed_of r.config limit prev start (padded_end padding limit s) s) ≡ cond t (dropped_of limit prev s) (record { end = end; report = Some (row_of r.config start end s) })
      go true f = refl
      go false f = ap (λ (e : ℕ). timed_of r.config limit prev start e s) (end_is (f refl)) ∙ timed_is r.config limit prev start end s a (start_lt (f refl)) (omega arith)

  -- a segment in the sound received closes in it: 'the end is clipped to samples received by this call'
  pub closing_between : (prev : ℕ) (s : ActiveSegmentState) → SegmentOrdered prev limit s → ClosedBetween prev limit (finalized_of r limit prev s)
  closing_between prev s o = subst (ClosedBetween prev limit) (sym (one_more_idle prev s o)) (unfold plainly_of in go (too_short r.config s) (lasts r.config s))
    where
      go : (t : Bool) → (t ≡ false → s.start_sample < s.last_end_sample)
          → ClosedBetween prev limit (cond t (dropped_of limit prev s) (record {
            end = min (s.last_end_sample + r.lengths.padding_samples) limit;
            report = Some (row_of r.config (padded_start r.lengths.padding_samples prev s) (min (s.last_end_sample + r.lengths.padding_samples) limit) s);
          }))
      go true f = unfold dropped_of in record { high = omega (arith, o.0, o.1); rows = unfold reported in (tt, omega arith) }
      go false f = record { high = omega arith; rows = unfold reported row_of padded_start in ((omega arith, omega (arith, f refl, o.0, o.1, o.2), tt), omega arith) }

-- the row of a closed segment, if it has one: it starts at the padded start, not before prev, and ends at the new end
abbrev pub RowFrom : ℕ → Finalized → Type 0
RowFrom start f = Every (λ c. (c.start_sample ≡ start) × (c.end_sample ≡ f.end)) (reported f.report)

pub row_start : (r : Rules) (limit prev : ℕ) (s : ActiveSegmentState) → RowFrom (max (s.start_sample - r.lengths.padding_samples) prev) (finalized_of r limit prev s)
unfolding finalized_of timed_of dropped_of reported row_of padded_start
row_start r limit prev s =
    let padding = r.lengths.padding_samples in
    let start = max (s.start_sample - padding) prev in
    let end = padded_end padding limit s in
    either (RowFrom start) (too_short r.config s) (dropped_of limit prev s) (timed_of r.config limit prev start end s) tt
    (either (RowFrom start) (leb (time_at r.config end) (time_at r.config start)) (dropped_of limit prev s) (record { end = end; report = Some (row_of r.config start end s) }) tt ((refl, refl), tt))

-- ---- the track

-- last segment end at most the limit, talk at most that end, and an open segment between that end and the limit
pub record TrackOrdered (limit : ℕ) (t : Track) : Type 0 where
  pub ended : t.last_segment_end ≤ limit
  pub talk : t.talk_samples ≤ t.last_segment_end
  pub active : ActiveOrdered t.last_segment_end limit t.active_segment

-- received only grows
pub later_limit : (n m : ℕ) (t : Track) → n ≤ m → TrackOrdered n t → TrackOrdered m t
later_limit n m t h o = record { ended = le_trans o.ended h; talk = o.talk; active = go t.active_segment o.active }
  where
    go : (a : Option ActiveSegmentState) → ActiveOrdered t.last_segment_end n a → ActiveOrdered t.last_segment_end m a
    go None o = tt
    go (Some s) o = (o.0, le_trans o.1 h, le_trans o.2 h)

-- what a step from a track adds to it: its rows are counted, and their samples
pub record Adds (t : Track) (j : Judged) : Type 0 where
  pub rows_added : j.track.rows_reported ≡ t.rows_reported + length (reported j.report)
  pub talk_added : j.track.talk_samples ≡ t.talk_samples + talk_of (reported j.report)

-- a step from an ordered track: the track stays ordered, and its row, if there is one, lies between the two last segment ends
pub record Stepped (limit : ℕ) (t : Track) (j : Judged) : Type 0 where
  pub ordered : TrackOrdered limit j.track
  pub rows : Between t.last_segment_end (reported j.report) j.track.last_segment_end

no_row : (t u : Track) (loud : Bool) → u.rows_reported ≡ t.rows_reported → u.talk_samples ≡ t.talk_samples → Adds t (record { track = u; report = None; loud = loud })
no_row t u loud h g = record { rows_added = unfold reported in omega (arith, h); talk_added = unfold reported talk_of in omega (arith, g) }

closed_by_adds : (r : Rules) (limit : ℕ) (t : Track) (a : Option ActiveSegmentState) → Adds t (closed_by r limit t a)
unfolding closed_by booked_of
closed_by_adds r limit t None = no_row t t false refl refl
closed_by_adds r limit t (Some s) = record { rows_added = refl; talk_added = refl }

-- the open segment closed
pub closed_adds : (r : Rules) (limit : ℕ) (t : Track) → Adds t (closed_of r limit t)
unfolding closed_of
closed_adds r limit t = closed_by_adds r limit t t.active_segment

turned_adds : (r : Rules) (limit : ℕ) (t : Track) (f : FrameMetrics) (ratio : Float) (loud speech : Bool) → Adds t (turned_of r limit t f ratio loud speech)
unfolding turned_of loud_added paused_of active_to
turned_adds r limit t f ratio true speech = no_row t (loud_added t f ratio) true refl refl
turned_adds r limit t f ratio false true = no_row t (paused_of t) false refl refl
turned_adds r limit t f ratio false false = closed_adds r limit t

-- a frame judged
pub judged_adds : (r : Rules) (limit : ℕ) (t : Track) (f : FrameMetrics) → Adds t (judged_of r limit t f)
unfolding judged_of floored_to
judged_adds r limit t f =
    let c = turned_adds r limit (floored_to (floor_after r t f) t) f (ratio_of f.energy t.noise_floor) (is_loud r t f) (is_speech r t f) in
    record { rows_added = c.rows_added; talk_added = c.talk_added }

-- a call's end
pub ended_adds : (finish : Bool) (r : Rules) (limit : ℕ) (t : Track) → Adds t (ended_of finish r limit t)
unfolding ended_of
ended_adds true r limit t = closed_adds r limit t
ended_adds false r limit t = no_row t t false refl refl

-- what each step adds to a count, a call adds
module _ (r : Rules) (limit : ℕ) (count : Track → ℕ) (size : List Row → ℕ) (none : size [] ≡ 0) (more : (rs ss : List Row) → size (rs ++ ss) ≡ size rs + size ss)
    (step : (t : Track) (f : FrameMetrics) → count (judged_of r limit t f).track ≡ count t + size (reported (judged_of r limit t f).report))
    (last : (finish : Bool) (t : Track) → count (ended_of finish r limit t).track ≡ count t + size (reported (ended_of finish r limit t).report)) where
  after_sums : (fs : List FrameMetrics) (t : Track) → count (track_after r limit t fs) ≡ count t + size (rows_of r limit t fs)
  unfolding track_after rows_of
  after_sums [] t = omega (arith, none)
  after_sums (f ∷ fs) t =
      let j = judged_of r limit t f in
      omega (arith, step t f, after_sums fs j.track, more (reported j.report) (rows_of r limit j.track fs))

  call_sums : (finish : Bool) (fs : List FrameMetrics) (t : Track) → count (call_track finish r limit t fs) ≡ count t + size (call_rows finish r limit t fs)
  unfolding call_track call_rows
  call_sums finish fs t =
      let u = track_after r limit t fs in
      omega (arith, after_sums fs t, last finish u, more (rows_of r limit t fs) (reported (ended_of finish r limit u).report))

module _ (r : Rules) (limit : ℕ) (t : Track) (fs : List FrameMetrics) where
  -- 'the state keeps rows reported'
  pub rows_counted : (track_after r limit t fs).rows_reported ≡ t.rows_reported + length (rows_of r limit t fs)
  rows_counted = after_sums r limit (λ u. u.rows_reported) length refl length-append (λ u f. (judged_adds r limit u f).rows_added) (λ b u. (ended_adds b r limit u).rows_added) fs t

  pub call_rows_counted : (finish : Bool) → (call_track finish r limit t fs).rows_reported ≡ t.rows_reported + length (call_rows finish r limit t fs)
  call_rows_counted finish = call_sums r limit (λ u. u.rows_reported) length refl length-append (λ u f. (judged_adds r limit u f).rows_added) (λ b u. (ended_adds b r limit u).rows_added) finish fs t

  -- 'and talk samples: the sum of end − start over all rows'
  pub talk_counted : (track_after r limit t fs).talk_samples ≡ t.talk_samples + talk_of (rows_of r limit t fs)
  talk_counted = after_sums r limit (λ u. u.talk_samples) talk_of talk_none talk_append (λ u f. (judged_adds r limit u f).talk_added) (λ b u. (ended_adds b r limit u).talk_added) fs t

  pub call_talk_counted : (finish : Bool) → (call_track finish r limit t fs).talk_samples ≡ t.talk_samples + talk_of (call_rows finish r limit t fs)
  call_talk_counted finish = call_sums r limit (λ u. u.talk_samples) talk_of talk_none talk_append (λ u f. (judged_adds r limit u f).talk_added) (λ b u. (ended_adds b r limit u).talk_added) finish fs t

-- ---- what each frame keeps, all frames keep
module _ (r : Rules) (limit : ℕ) (P : Track → Type 0) (Q : FrameMetrics → Type 0) (step : (t : Track) (f : FrameMetrics) → Q f → P t → P (judged_of r limit t f).track) where
  pub after_kept : (fs : List FrameMetrics) (t : Track) → Every Q fs → P t → P (track_after r limit t fs)
  unfolding track_after
  after_kept [] t q h = h
  after_kept (f ∷ fs) t q h = after_kept fs (judged_of r limit t f).track q.1 (step t f q.0 h)

-- ---- rows in order

-- a track with the same ends and counts, and another segment
same_ends : (limit : ℕ) (t : Track) (a : Option ActiveSegmentState) (loud : Bool) → TrackOrdered limit t → ActiveOrdered t.last_segment_end limit a → Stepped limit t (record { track = active_to a t; report = None; loud = loud })
unfolding active_to reported
same_ends limit t a loud o h = record { ordered = record { ended = o.ended; talk = o.talk; active = h }; rows = (tt, le_refl t.last_segment_end) }

idle : (limit : ℕ) (t : Track) (loud : Bool) → TrackOrdered limit t → Stepped limit t (record { track = t; report = None; loud = loud })
unfolding reported
idle limit t loud o = record { ordered = o; rows = (tt, le_refl t.last_segment_end) }

-- a loud frame: 'a new start is never before the last segment end'
extended_ordered : (prev limit : ℕ) (f : FrameMetrics) (ratio : Float) (a : Option ActiveSegmentState) → prev ≤ limit → FrameWithin limit f → ActiveOrdered prev limit a
    → ActiveOrdered prev limit (Some (extended_by f ratio (segment_for a (max f.start_sample prev))))
unfolding extended_by segment_for begun_at
extended_ordered prev limit f ratio None p w h = (omega arith, omega (arith, w.0), w.1)
extended_ordered prev limit f ratio (Some s) p w h = (h.0, h.1, w.1)

paused_ordered : (prev limit : ℕ) (a : Option ActiveSegmentState) → ActiveOrdered prev limit a → ActiveOrdered prev limit (paused_by a)
unfolding paused_by
paused_ordered prev limit None h = tt
paused_ordered prev limit (Some s) h = h

-- the last segment end never falls
pub end_mono : (limit : ℕ) (t : Track) (j : Judged) → Stepped limit t j → t.last_segment_end ≤ j.track.last_segment_end
end_mono limit t j s = between_le t.last_segment_end (reported j.report) j.track.last_segment_end s.rows

module _ (r : Rules) (limit : ℕ) (a : Accepted r.config) (g : limit ≤ 2 ^ 40) where
  closed_by_stepped : (t : Track) (b : Option ActiveSegmentState) → TrackOrdered limit t → ActiveOrdered t.last_segment_end limit b → Stepped limit t (closed_by r limit t b)
  unfolding closed_by booked_of
  closed_by_stepped t None o h = idle limit t false o
  closed_by_stepped t (Some s) o h =
      let b = closing_between r limit a g t.last_segment_end s h in
      let f = finalized_of r limit t.last_segment_end s in
      record {
        ordered = record { ended = b.high; talk = omega (arith, o.talk, between_talk t.last_segment_end (reported f.report) f.end b.rows); active = tt };
        rows = b.rows;
      }

  -- the open segment closed
  pub closed_stepped : (t : Track) → TrackOrdered limit t → Stepped limit t (closed_of r limit t)
  unfolding closed_of
  closed_stepped t o = closed_by_stepped t t.active_segment o o.active

  -- a call's end
  pub ended_stepped : (finish : Bool) (t : Track) → TrackOrdered limit t → Stepped limit t (ended_of finish r limit t)
  unfolding ended_of
  ended_stepped true t o = closed_stepped t o
  ended_stepped false t o = idle limit t false o

  turned_stepped : (t : Track) (f : FrameMetrics) (ratio : Float) (loud speech : Bool) → TrackOrdered limit t → FrameWithin limit f → Stepped limit t (turned_of r limit t f ratio loud speech)
  unfolding turned_of loud_added paused_of
  turned_stepped t f ratio true speech o w = same_ends limit t _ true o (extended_ordered t.last_segment_end limit f ratio t.active_segment o.ended w o.active)
  turned_stepped t f ratio false true o w = same_ends limit t _ false o (paused_ordered t.last_segment_end limit t.active_segment o.active)
  turned_stepped t f ratio false false o w = closed_stepped t o

  -- a frame judged that begins and ends at or before the limit
  pub judged_stepped : (t : Track) (f : FrameMetrics) → TrackOrdered limit t → FrameWithin limit f → Stepped limit t (judged_of r limit t f)
  unfolding judged_of floored_to
  judged_stepped t f o w =
      let s = turned_stepped (floored_to (floor_after r t f) t) f (ratio_of f.energy t.noise_floor) (is_loud r t f) (is_speech r t f) (record { ended = o.ended; talk = o.talk; active = o.active }) w in
      record { ordered = s.ordered; rows = s.rows }

  -- a frame keeps the order of the track
  pub judged_ordered : (t : Track) (f : FrameMetrics) → TrackOrdered limit t → FrameWithin limit f → TrackOrdered limit (judged_of r limit t f).track
  judged_ordered t f o w = (judged_stepped t f o w).ordered

  -- closing keeps it
  pub closed_ordered : (t : Track) → TrackOrdered limit t → TrackOrdered limit (closed_of r limit t).track
  closed_ordered t o = (closed_stepped t o).ordered

  -- frames keep it
  pub after_ordered : (fs : List FrameMetrics) (t : Track) → TrackOrdered limit t → Every (FrameWithin limit) fs → TrackOrdered limit (track_after r limit t fs)
  after_ordered fs t o h = after_kept r limit (TrackOrdered limit) (FrameWithin limit) (λ u f w p. judged_ordered u f p w) fs t h o

  -- the rows of frames lie in order between the last segment ends before and after them
  pub rows_in_order : (fs : List FrameMetrics) (t : Track) → TrackOrdered limit t → Every (FrameWithin limit) fs → Between t.last_segment_end (rows_of r limit t fs) (track_after r limit t fs).last_segment_end
  unfolding rows_of track_after
  rows_in_order [] t o h = (tt, le_refl t.last_segment_end)
  rows_in_order (f ∷ fs) t o h =
      let s = judged_stepped t f o h.0 in
      between_append _ _ _ (reported (judged_of r limit t f).report) (rows_of r limit (judged_of r limit t f).track fs) s.rows (rows_in_order fs (judged_of r limit t f).track s.ordered h.1)

  -- a call keeps it
  pub call_ordered : (finish : Bool) (t : Track) (fs : List FrameMetrics) → TrackOrdered limit t → Every (FrameWithin limit) fs → TrackOrdered limit (call_track finish r limit t fs)
  unfolding call_track
  call_ordered finish t fs o h = (ended_stepped finish (track_after r limit t fs) (after_ordered fs t o h)).ordered

  -- and so do the rows of a call
  pub call_in_order : (finish : Bool) (t : Track) (fs : List FrameMetrics) → TrackOrdered limit t → Every (FrameWithin limit) fs
      → Between t.last_segment_end (call_rows finish r limit t fs) (call_track finish r limit t fs).last_segment_end
  unfolding call_rows call_track
  call_in_order finish t fs o h =
      between_append _ _ _ (rows_of r limit t fs) (reported (ended_of finish r limit (track_after r limit t fs)).report) (rows_in_order fs t o h) (ended_stepped finish (track_after r limit t fs) (after_ordered fs t o h)).rows

  -- a row is a sample long at least: rows stay at most talk
  pub call_rows_talk : (finish : Bool) (t : Track) (fs : List FrameMetrics) → TrackOrdered limit t → Every (FrameWithin limit) fs → t.rows_reported ≤ t.talk_samples
      → (call_track finish r limit t fs).rows_reported ≤ (call_track finish r limit t fs).talk_samples
  call_rows_talk finish t fs o h l =
      let m = call_rows_counted r limit t fs finish in
      let n = call_talk_counted r limit t fs finish in
      let i = in_order_rows _ (call_rows finish r limit t fs) (call_in_order finish t fs o h).0 in
      omega arith

-- ---- the open segment after a frame

-- after closing nothing is open
closed_by_closed : (r : Rules) (limit : ℕ) (t : Track) (a : Option ActiveSegmentState) → a ≡ t.active_segment → (closed_by r limit t a).track.active_segment ≡ None
unfolding closed_by booked_of
closed_by_closed r limit t None e = sym e
closed_by_closed r limit t (Some s) e = refl

pub closed_closed : (r : Rules) (limit : ℕ) (t : Track) → (closed_of r limit t).track.active_segment ≡ None
unfolding closed_of
closed_closed r limit t = closed_by_closed r limit t t.active_segment refl

-- the segment that a loud frame leaves open
abbrev pub extended_in : Track → FrameMetrics → ActiveSegmentState
extended_in t f = extended_by f (ratio_of f.energy t.noise_floor) (segment_for t.active_segment (max f.start_sample t.last_segment_end))

turned_active : (P : Option ActiveSegmentState → Type 0) (r : Rules) (limit : ℕ) (t : Track) (f : FrameMetrics) (ratio : Float) (loud speech : Bool) → P None
    → (loud ≡ true → P (Some (extended_by f ratio (segment_for t.active_segment (max f.start_sample t.last_segment_end)))))
    → (loud ≡ false → speech ≡ true → P (paused_by t.active_segment))
    → P (turned_of r limit t f ratio loud speech).track.active_segment
unfolding turned_of loud_added paused_of active_to
turned_active P r limit t f ratio true speech c h p = h refl
turned_active P r limit t f ratio false true c h p = p refl refl
turned_active P r limit t f ratio false false c h p = subst P (sym (closed_closed r limit t)) c

-- what holds of no segment, of one extended by a loud frame, and of one that pauses, holds after a frame
pub judged_active : (P : Option ActiveSegmentState → Type 0) (r : Rules) (limit : ℕ) (t : Track) (f : FrameMetrics) → P None
    → (is_loud r t f ≡ true → P (Some (extended_in t f)))
    → (is_loud r t f ≡ false → is_speech r t f ≡ true → P (paused_by t.active_segment))
    → P (judged_of r limit t f).track.active_segment
unfolding judged_of floored_to
judged_active P r limit t f = turned_active P r limit (floored_to (floor_after r t f) t) f (ratio_of f.energy t.noise_floor) (is_loud r t f) (is_speech r t f)

-- and after a call: flush closes the segment
pub ended_active : (P : Option ActiveSegmentState → Type 0) (finish : Bool) (r : Rules) (limit : ℕ) (t : Track) → P None → P t.active_segment → P (ended_of finish r limit t).track.active_segment
unfolding ended_of
ended_active P true r limit t c h = subst P (sym (closed_closed r limit t)) c
ended_active P false r limit t c h = h

-- ---- the earliest start of a row

-- the open segment, if there is one, starts at next or later
abbrev pub StartsFrom : ℕ → Option ActiveSegmentState → Type 0
StartsFrom next None = Unit {0}
StartsFrom next (Some s) = next ≤ s.start_sample

-- a step after which the open segment starts at next or later, and whose row, if there is one, starts no more than the padding before next
pub record After (next padding : ℕ) (j : Judged) : Type 0 where
  pub segment : StartsFrom next j.track.active_segment
  pub rows : RowsFrom (next - padding) (reported j.report)

closed_by_after : (r : Rules) (limit next : ℕ) (t : Track) (a : Option ActiveSegmentState) → StartsFrom next a → StartsFrom next t.active_segment → After next r.lengths.padding_samples (closed_by r limit t a)
unfolding closed_by booked_of
closed_by_after r limit next t None h g = record { segment = g; rows = unfold reported in tt }
closed_by_after r limit next t (Some s) h g = record {
  segment = tt;
  rows = every_map _ _ (λ c e. omega (arith, e.0)) (reported (finalized_of r limit t.last_segment_end s).report) (row_start r limit t.last_segment_end s);
}

-- the open segment closed
pub closed_after : (r : Rules) (limit next : ℕ) (t : Track) → StartsFrom next t.active_segment → After next r.lengths.padding_samples (closed_of r limit t)
unfolding closed_of
closed_after r limit next t h = closed_by_after r limit next t t.active_segment h h

extended_after : (next prev : ℕ) (f : FrameMetrics) (ratio : Float) (a : Option ActiveSegmentState) → next ≤ f.start_sample → StartsFrom next a → StartsFrom next (Some (extended_by f ratio (segment_for a (max f.start_sample prev))))
unfolding extended_by segment_for begun_at
extended_after next prev f ratio None w h = omega arith
extended_after next prev f ratio (Some s) w h = h

paused_after : (next : ℕ) (a : Option ActiveSegmentState) → StartsFrom next a → StartsFrom next (paused_by a)
unfolding paused_by
paused_after next None h = tt
paused_after next (Some s) h = h

turned_after : (r : Rules) (limit next : ℕ) (t : Track) (f : FrameMetrics) (ratio : Float) (loud speech : Bool) → next ≤ f.start_sample → StartsFrom next t.active_segment
    → After next r.lengths.padding_samples (turned_of r limit t f ratio loud speech)
unfolding turned_of loud_added paused_of active_to
turned_after r limit next t f ratio true speech w h = record { segment = extended_after next t.last_segment_end f ratio t.active_segment w h; rows = unfold reported in tt }
turned_after r limit next t f ratio false true w h = record { segment = paused_after next t.active_segment h; rows = unfold reported in tt }
turned_after r limit next t f ratio false false w h = closed_after r limit next t h

-- a frame judged that begins at next or later
pub judged_after : (r : Rules) (limit next : ℕ) (t : Track) (f : FrameMetrics) → next ≤ f.start_sample → StartsFrom next t.active_segment → After next r.lengths.padding_samples (judged_of r limit t f)
unfolding judged_of floored_to
judged_after r limit next t f w h = turned_after r limit next (floored_to (floor_after r t f) t) f (ratio_of f.energy t.noise_floor) (is_loud r t f) (is_speech r t f) w h

-- a call's end
pub ended_after : (finish : Bool) (r : Rules) (limit next : ℕ) (t : Track) → StartsFrom next t.active_segment → After next r.lengths.padding_samples (ended_of finish r limit t)
unfolding ended_of
ended_after true r limit next t h = closed_after r limit next t h
ended_after false r limit next t h = record { segment = h; rows = unfold reported in tt }

-- frames that begin at next or later, and a segment that does
pub starts_after : (r : Rules) (limit next : ℕ) (fs : List FrameMetrics) (t : Track) → Every (λ f. next ≤ f.start_sample) fs → StartsFrom next t.active_segment
    → StartsFrom next (track_after r limit t fs).active_segment × RowsFrom (next - r.lengths.padding_samples) (rows_of r limit t fs)
unfolding track_after rows_of
starts_after r limit next [] t w h = (h, tt)
starts_after r limit next (f ∷ fs) t w h =
    let j = judged_after r limit next t f w.0 h in
    let i = starts_after r limit next fs (judged_of r limit t f).track w.1 j.segment in
    (i.0, every_append _ (reported (judged_of r limit t f).report) (rows_of r limit (judged_of r limit t f).track fs) j.rows i.1)

-- and a whole call
pub call_starts_after : (finish : Bool) (r : Rules) (limit next : ℕ) (fs : List FrameMetrics) (t : Track) → Every (λ f. next ≤ f.start_sample) fs → StartsFrom next t.active_segment
    → StartsFrom next (call_track finish r limit t fs).active_segment × RowsFrom (next - r.lengths.padding_samples) (call_rows finish r limit t fs)
unfolding call_track call_rows
call_starts_after finish r limit next fs t w h =
    let i = starts_after r limit next fs t w h in
    let j = ended_after finish r limit next (track_after r limit t fs) i.0 in
    (j.segment, every_append _ (rows_of r limit t fs) (reported (ended_of finish r limit (track_after r limit t fs)).report) i.1 j.rows)

-- so no row of a call starts before the last segment end, nor more than the padding before next
pub call_rows_from : (finish : Bool) (r : Rules) (limit next : ℕ) (fs : List FrameMetrics) (t : Track) → Accepted r.config → limit ≤ 2 ^ 40 → TrackOrdered limit t → Every (FrameWithin limit) fs
    → Every (λ f. next ≤ f.start_sample) fs → StartsFrom next t.active_segment → RowsFrom (max (next - r.lengths.padding_samples) t.last_segment_end) (call_rows finish r limit t fs)
call_rows_from finish r limit next fs t a g o h w s =
    let rs = call_rows finish r limit t fs in
    every_map _ _ (λ c e. omega (arith, e.0, e.1)) rs
    (every_both _ _ rs (call_starts_after finish r limit next fs t w s).1 (in_order_starts t.last_segment_end rs (call_in_order r limit a g finish t fs o h).0))

-- ---- the frames of a call

-- they begin at its first start or later
pub frames_start : (l : Lengths) (received next start : ℕ) (es : List Float) → next ≤ start → Every (λ f. next ≤ f.start_sample) (frames_at l received start es)
unfolding frames_at frame_at
frames_start l received next start [] h = tt
frames_start l received next start (e ∷ es) h = (h, frames_start l received next (start + l.hop_length) es (omega arith))

-- they lie in the sound received where the last of them begins there: a hop past its start is at most a hop past the end
pub frames_within : (l : Lengths) (received start : ℕ) (es : List Float) → start + length es * l.hop_length ≤ received + l.hop_length → Every (FrameWithin received) (frames_at l received start es)
unfolding frames_at frame_at
frames_within l received start [] h = tt
frames_within l received start (e ∷ es) h =
    let n = length es * l.hop_length in
    let z : suc (length es) * l.hop_length ≡ n + l.hop_length = suc-mul (length es) l.hop_length in
    ((omega arith, omega arith), frames_within l received (start + l.hop_length) es (omega arith))

-- what holds of each energy
pub frames_energies : (P : Float → Type 0) (l : Lengths) (received start : ℕ) (es : List Float) → Every P es → Every (λ f. P f.energy) (frames_at l received start es)
unfolding frames_at frame_at
frames_energies P l received start [] h = tt
frames_energies P l received start (e ∷ es) h = (h.0, frames_energies P l received (start + l.hop_length) es h.1)

-- a frame for each energy
pub frames_length : (l : Lengths) (received start : ℕ) (es : List Float) → length (frames_at l received start es) ≡ length es
unfolding frames_at
frames_length l received start [] = refl
frames_length l received start (e ∷ es) = ap suc (frames_length l received (start + l.hop_length) es)
