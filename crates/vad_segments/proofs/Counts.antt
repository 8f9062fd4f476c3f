-- What is counted while frames are judged: loud frames, their scores, the silence run; and that a segment stays open only while a loud frame is recent. Assumes nothing.
use Rattle.std.specs.Prelude.{None, Option, Some}
use mathlib.Core.Path.{◌≡◌, refl, sym, ap, ◌∙◌, subst}
use mathlib.Core.Bool.{Bool, true, false, not}
use mathlib.Core.List.{List, [], ◌∷◌, map, reverse_aux}
use Prim.Native.Nat.{ℕ, suc, ◌+◌, ◌*◌, ◌≤◌, max}
use native.Mathlib.Nat.{le_refl}
use native.Mathlib.Omega.{arith}
use borrow.Author.Tests.{leb-true}
use lib.ListN.{length, get_or}
use lib.Ieee.{Float}
use Rattle.score.proofs.Laws.{score_le}
use Rattle.vad_segments.specs.Loudness.{ratio_of, in_speech_of}
use Rattle.vad_segments.specs.Closing.{booked_of, closed_by, closed_of}
use Rattle.vad_segments.specs.Judging.{floored_to, begun_at, segment_for, extended_by, paused_by, is_loud, is_speech, floor_after, turned_of, judged_of, track_after, louds_of, count_of, ended_of, call_track}
use Rattle.vad_segments.specs.declared.Rules.{Rules}
use Rattle.vad_segments.specs.declared.FrameMetrics.{FrameMetrics}
use Rattle.vad_segments.specs.declared.ActiveSegmentState.{ActiveSegmentState}
use Rattle.vad_segments.specs.declared.Track.{Track}
use Rattle.lists.proofs.Every.{every_all}
use Rattle.vad_row.proofs.Laws.{report_le}
use Rattle.vad_segments.proofs.Ordered.{judged_adds, ended_adds, after_kept, extended_in, judged_active, ended_active}

-- ---- an open segment's counts

-- at least one loud frame, a score of at most 1,024 for each, and a silence run that the hangover bears
abbrev pub SegmentCounted : ℕ → ActiveSegmentState → Type 0
SegmentCounted hangover s = (s.score_total ≤ 1024 * s.loud_frames) × (1 ≤ s.loud_frames) × (s.silence_run ≤ hangover)

-- if one is open
abbrev pub ActiveCounted : ℕ → Option ActiveSegmentState → Type 0
ActiveCounted hangover None = Unit {0}
ActiveCounted hangover (Some s) = SegmentCounted hangover s

-- the loud frames of the open segment, and 0 where none is open
abbrev pub count_in : Option ActiveSegmentState → ℕ
count_in None = 0
count_in (Some s) = s.loud_frames

extended_counted : (hangover start : ℕ) (f : FrameMetrics) (ratio : Float) (a : Option ActiveSegmentState) → ActiveCounted hangover a → SegmentCounted hangover (extended_by f ratio (segment_for a start))
unfolding extended_by segment_for begun_at
extended_counted hangover start f ratio None h = (omega (arith, score_le ratio), omega arith, omega arith)
extended_counted hangover start f ratio (Some s) h = (omega (arith, score_le ratio, h.0), omega arith, omega arith)

-- a quiet frame in speech
paused_counted : (hangover : ℕ) (a : Option ActiveSegmentState) → in_speech_of hangover a false ≡ true → ActiveCounted hangover a → ActiveCounted hangover (paused_by a)
unfolding in_speech_of paused_by
paused_counted hangover None e h = tt
paused_counted hangover (Some s) e h = (h.0, h.1, leb-true (suc s.silence_run) hangover e)

-- a frame keeps these
pub judged_counted : (r : Rules) (limit : ℕ) (t : Track) (f : FrameMetrics) → ActiveCounted r.config.hangover_frames t.active_segment → ActiveCounted r.config.hangover_frames (judged_of r limit t f).track.active_segment
judged_counted r limit t f h =
    let hangover = r.config.hangover_frames in
    let a = t.active_segment in
    judged_active (ActiveCounted hangover) r limit t f tt
    (λ e. extended_counted hangover (max f.start_sample t.last_segment_end) f (ratio_of f.energy t.noise_floor) a h)
    (λ e g. paused_counted hangover a (sym (ap (in_speech_of hangover a) e) ∙ g) h)

-- frames keep them
pub after_counted : (r : Rules) (limit : ℕ) (fs : List FrameMetrics) (t : Track) → ActiveCounted r.config.hangover_frames t.active_segment → ActiveCounted r.config.hangover_frames (track_after r limit t fs).active_segment
after_counted r limit fs t = after_kept r limit (λ u. ActiveCounted r.config.hangover_frames u.active_segment) (λ f. Unit {0}) (λ u f q. judged_counted r limit u f) fs t (every_all (λ f. Unit {0}) (λ f. tt) fs)

-- a call keeps them
pub call_counted : (finish : Bool) (r : Rules) (limit : ℕ) (t : Track) (fs : List FrameMetrics) → ActiveCounted r.config.hangover_frames t.active_segment → ActiveCounted r.config.hangover_frames (call_track finish r limit t fs).active_segment
unfolding call_track
call_counted finish r limit t fs h = ended_active (ActiveCounted r.config.hangover_frames) finish r limit (track_after r limit t fs) tt (after_counted r limit fs t h)

-- ---- what a frame adds
extended_grows : (start : ℕ) (f : FrameMetrics) (ratio : Float) (a : Option ActiveSegmentState) → count_in (Some (extended_by f ratio (segment_for a start))) ≤ suc (count_in a)
unfolding extended_by segment_for begun_at
extended_grows start f ratio None = le_refl 1
extended_grows start f ratio (Some s) = le_refl (suc s.loud_frames)

paused_grows : (a : Option ActiveSegmentState) → count_in (paused_by a) ≤ suc (count_in a)
unfolding paused_by
paused_grows None = omega arith
paused_grows (Some s) = omega arith

-- a frame adds one loud frame at most
pub count_grows : (r : Rules) (limit : ℕ) (t : Track) (f : FrameMetrics) → count_in (judged_of r limit t f).track.active_segment ≤ suc (count_in t.active_segment)
count_grows r limit t f =
    let a = t.active_segment in
    judged_active (λ b. count_in b ≤ suc (count_in a)) r limit t f (omega arith) (λ e. extended_grows (max f.start_sample t.last_segment_end) f (ratio_of f.energy t.noise_floor) a) (λ e g. paused_grows a)

-- frames add as many as they are
pub count_grows_by : (r : Rules) (limit : ℕ) (fs : List FrameMetrics) (t : Track) → count_in (track_after r limit t fs).active_segment ≤ count_in t.active_segment + length fs
unfolding track_after
count_grows_by r limit [] t = omega arith
count_grows_by r limit (f ∷ fs) t = omega (arith, count_grows r limit t f, count_grows_by r limit fs (judged_of r limit t f).track)

-- and so does a call
pub call_count_grows : (finish : Bool) (r : Rules) (limit : ℕ) (t : Track) (fs : List FrameMetrics) → count_in (call_track finish r limit t fs).active_segment ≤ count_in t.active_segment + length fs
unfolding call_track
call_count_grows finish r limit t fs = ended_active (λ b. count_in b ≤ count_in t.active_segment + length fs) finish r limit (track_after r limit t fs) (omega arith) (count_grows_by r limit fs t)

-- a frame reports one row at most
pub rows_grow : (r : Rules) (limit : ℕ) (t : Track) (f : FrameMetrics) → (judged_of r limit t f).track.rows_reported ≤ suc t.rows_reported
rows_grow r limit t f = omega (arith, (judged_adds r limit t f).rows_added, report_le (judged_of r limit t f).report)

-- frames report as many as they are
pub rows_grow_by : (r : Rules) (limit : ℕ) (fs : List FrameMetrics) (t : Track) → (track_after r limit t fs).rows_reported ≤ t.rows_reported + length fs
unfolding track_after
rows_grow_by r limit [] t = omega arith
rows_grow_by r limit (f ∷ fs) t = omega (arith, rows_grow r limit t f, rows_grow_by r limit fs (judged_of r limit t f).track)

-- and flush one more
pub call_rows_grow : (finish : Bool) (r : Rules) (limit : ℕ) (t : Track) (fs : List FrameMetrics) → (call_track finish r limit t fs).rows_reported ≤ suc (t.rows_reported + length fs)
unfolding call_track
call_rows_grow finish r limit t fs =
    let u = track_after r limit t fs in
    omega (arith, rows_grow_by r limit fs t, (ended_adds finish r limit u).rows_added, report_le (ended_of finish r limit u).report)

-- ---- loud frames
closed_by_quiet : (r : Rules) (limit : ℕ) (t : Track) (a : Option ActiveSegmentState) → (closed_by r limit t a).loud ≡ false
unfolding closed_by booked_of
closed_by_quiet r limit t None = refl
closed_by_quiet r limit t (Some s) = refl

turned_loud : (r : Rules) (limit : ℕ) (t : Track) (f : FrameMetrics) (ratio : Float) (loud speech : Bool) → (turned_of r limit t f ratio loud speech).loud ≡ loud
unfolding turned_of closed_of
turned_loud r limit t f ratio true speech = refl
turned_loud r limit t f ratio false true = refl
turned_loud r limit t f ratio false false = closed_by_quiet r limit t t.active_segment

-- what a frame's judgement says is whether it is loud
pub loud_is : (r : Rules) (limit : ℕ) (t : Track) (f : FrameMetrics) → (judged_of r limit t f).loud ≡ is_loud r t f
unfolding judged_of
loud_is r limit t f = turned_loud r limit (floored_to (floor_after r t f) t) f (ratio_of f.energy t.noise_floor) (is_loud r t f) (is_speech r t f)

-- a flag for each frame
pub louds_length : (r : Rules) (limit : ℕ) (fs : List FrameMetrics) (t : Track) → length (louds_of r limit t fs) ≡ length fs
unfolding louds_of
louds_length r limit [] t = refl
louds_length r limit (f ∷ fs) t = ap suc (louds_length r limit fs (judged_of r limit t f).track)

-- each flag is loud or quiet
flags_split : (bs : List Bool) → count_of bs + count_of (map not bs) ≡ length bs
unfolding count_of
flags_split [] = refl
flags_split (true ∷ bs) = omega (arith, flags_split bs)
flags_split (false ∷ bs) = omega (arith, flags_split bs)

-- loud and quiet frames are all frames
pub loud_and_quiet : (r : Rules) (limit : ℕ) (t : Track) (fs : List FrameMetrics) → count_of (louds_of r limit t fs) + count_of (map not (louds_of r limit t fs)) ≡ length fs
loud_and_quiet r limit t fs = flags_split (louds_of r limit t fs) ∙ louds_length r limit fs t

-- no more loud frames than frames
pub loud_most : (r : Rules) (limit : ℕ) (t : Track) (fs : List FrameMetrics) → count_of (louds_of r limit t fs) ≤ length fs
loud_most r limit t fs = omega (arith, loud_and_quiet r limit t fs)

-- ---- a loud frame is recent

-- flags of the frames judged so far, the latest first: an open segment's silence run stands after a loud one
abbrev pub Recent : List Bool → Option ActiveSegmentState → Type 0
Recent flags None = Unit {0}
Recent flags (Some s) = get_or flags s.silence_run false ≡ true

extended_recent : (flags : List Bool) (start : ℕ) (f : FrameMetrics) (ratio : Float) (a : Option ActiveSegmentState) → Recent (true ∷ flags) (Some (extended_by f ratio (segment_for a start)))
unfolding extended_by
extended_recent flags start f ratio a = refl

paused_recent : (flags : List Bool) (b : Bool) (a : Option ActiveSegmentState) → Recent flags a → Recent (b ∷ flags) (paused_by a)
unfolding paused_by
paused_recent flags b None h = tt
paused_recent flags b (Some s) h = h

-- a frame keeps this, its own flag in front
pub recent_step : (r : Rules) (limit : ℕ) (t : Track) (f : FrameMetrics) (flags : List Bool) → Recent flags t.active_segment → Recent ((judged_of r limit t f).loud ∷ flags) (judged_of r limit t f).track.active_segment
recent_step r limit t f flags h =
    let b = (judged_of r limit t f).loud in
    let start = max f.start_sample t.last_segment_end in
    let ratio = ratio_of f.energy t.noise_floor in
    judged_active (Recent (b ∷ flags)) r limit t f tt
    (λ e. subst (λ (x : Bool). Recent (x ∷ flags) (Some (extended_in t f))) (sym (loud_is r limit t f ∙ e)) (extended_recent flags start f ratio t.active_segment))
    (λ e g. paused_recent flags b t.active_segment h)

-- over a call's frames: `reverse_aux` puts their flags in front, the latest first
pub recent_after : (r : Rules) (limit : ℕ) (fs : List FrameMetrics) (t : Track) (flags : List Bool) → Recent flags t.active_segment → Recent (reverse_aux (louds_of r limit t fs) flags) (track_after r limit t fs).active_segment
unfolding track_after louds_of
recent_after r limit [] t flags h = h
recent_after r limit (f ∷ fs) t flags h = recent_after r limit fs (judged_of r limit t f).track ((judged_of r limit t f).loud ∷ flags) (recent_step r limit t f flags h)

-- a call keeps it
pub recent_call : (finish : Bool) (r : Rules) (limit : ℕ) (t : Track) (fs : List FrameMetrics) (flags : List Bool) → Recent flags t.active_segment → Recent (reverse_aux (louds_of r limit t fs) flags) (call_track finish r limit t fs).active_segment
unfolding call_track
recent_call finish r limit t fs flags h = ended_active (Recent (reverse_aux (louds_of r limit t fs) flags)) finish r limit (track_after r limit t fs) tt (recent_after r limit fs t flags h)
