-- `classify`: one frame judged, and a call's frames in order.
use Rattle.std.specs.Prelude.{Bool, true, false, cond, List, [], ◌∷◌, ◌++◌, ℕ, suc, ◌+◌, min, max, Float, None, Option, Some}
use Rattle.std.specs.Float.{binary32}
use Rattle.std.specs.Float.Ieee.{add}
use Rattle.float.specs.Numbers.{zero32}
use Rattle.score.specs.Score.{score_of}
use Rattle.vad_config.specs.declared.Lengths.{Lengths}
use Rattle.vad_segments.specs.Loudness.{ratio_of, loud_of, in_speech_of, weight_of, floor_of}
use Rattle.vad_row.specs.Rows.{reported}
use Rattle.vad_segments.specs.Setters.{framed_to, silent_for}
use Rattle.vad_segments.specs.Closing.{closed_of}
use Rattle.vad_segments.specs.declared.Rules.{Rules}
use Rattle.vad_segments.specs.declared.FrameMetrics.{FrameMetrics}
use Rattle.vad_segments.specs.declared.ActiveSegmentState.{ActiveSegmentState}
use Rattle.vad_row.specs.declared.Row.{Row}
use Rattle.vad_segments.specs.declared.Track.{Track}
use Rattle.vad_segments.specs.declared.Judged.{Judged}

-- ---- one frame

unfoldable pub floored_to : Float → Track → Track
floored_to floor t = framed_to floor t.active_segment t

unfoldable pub active_to : Option ActiveSegmentState → Track → Track
active_to a t = framed_to t.noise_floor a t

-- a segment that begins: 'a new start is never before the last segment end'
unfoldable pub begun_at : ℕ → ActiveSegmentState
begun_at start =
    record {
      start_sample = start;
      last_end_sample = start;
      score_total = 0;
      energy_sum = zero32;
      loud_frames = 0;
      silence_run = 0;
    }

unfoldable pub segment_for : Option ActiveSegmentState → ℕ → ActiveSegmentState
segment_for None start = begun_at start
segment_for (Some s) start = s

-- a loud frame is added; only loud frames move the last loud end
unfoldable pub extended_by : FrameMetrics → Float → ActiveSegmentState → ActiveSegmentState
extended_by f ratio s =
    record {
      start_sample = s.start_sample;
      last_end_sample = f.end_sample;
      score_total = s.score_total + score_of ratio;
      energy_sum = add binary32 s.energy_sum f.energy;
      loud_frames = suc s.loud_frames;
      silence_run = 0;
    }

unfoldable pub loud_added : Track → FrameMetrics → Float → Track
loud_added t f ratio =
    active_to (Some (extended_by f ratio (segment_for t.active_segment (max f.start_sample t.last_segment_end)))) t

-- a quiet frame that the hangover bears: the end stays
unfoldable pub paused_by : Option ActiveSegmentState → Option ActiveSegmentState
paused_by None = None
paused_by (Some s) = Some (silent_for (suc s.silence_run) s)

unfoldable pub paused_of : Track → Track
paused_of t = active_to (paused_by t.active_segment) t

abbrev pub is_loud : Rules → Track → FrameMetrics → Bool
is_loud r t f = loud_of r.config t.active_segment t.noise_floor f.energy

abbrev pub is_speech : Rules → Track → FrameMetrics → Bool
is_speech r t f = in_speech_of r.config.hangover_frames t.active_segment (is_loud r t f)

-- the floor after the frame
unfoldable pub floor_after : Rules → Track → FrameMetrics → Float
floor_after r t f =
    floor_of r.config.energy_floor
    (weight_of r.speech_floor_rise r.config.noise_smoothing (is_speech r t f) t.noise_floor f.energy)
    t.noise_floor
    f.energy

-- loud, a pause, or the end of a segment
unfoldable pub turned_of : Rules → ℕ → Track → FrameMetrics → Float → Bool → Bool → Judged
turned_of r limit t f ratio true speech = record { track = loud_added t f ratio; report = None; loud = true }
turned_of r limit t f ratio false true = record { track = paused_of t; report = None; loud = false }
turned_of r limit t f ratio false false = closed_of r limit t

unfoldable pub judged_of : Rules → ℕ → Track → FrameMetrics → Judged
judged_of r limit t f =
    turned_of r limit (floored_to (floor_after r t f) t) f (ratio_of f.energy t.noise_floor) (is_loud r t f) (is_speech r t f)

-- ---- a call's frames

-- 'Frames sit on one hop grid'; 'A short frame ends where the sound received ends'
unfoldable pub frame_at : Lengths → ℕ → ℕ → Float → FrameMetrics
frame_at l received start e = record { start_sample = start; end_sample = min (start + l.frame_length) received; energy = e }

unfoldable pub frames_at : Lengths → ℕ → ℕ → List Float → List FrameMetrics
frames_at l received start [] = []
frames_at l received start (e ∷ es) = frame_at l received start e ∷ frames_at l received (start + l.hop_length) es

unfoldable pub track_after : Rules → ℕ → Track → List FrameMetrics → Track
track_after r limit t [] = t
track_after r limit t (f ∷ fs) = track_after r limit (judged_of r limit t f).track fs

unfoldable pub rows_of : Rules → ℕ → Track → List FrameMetrics → List Row
rows_of r limit t [] = []
rows_of r limit t (f ∷ fs) = reported (judged_of r limit t f).report ++ rows_of r limit (judged_of r limit t f).track fs

-- which frames were loud
unfoldable pub louds_of : Rules → ℕ → Track → List FrameMetrics → List Bool
louds_of r limit t [] = []
louds_of r limit t (f ∷ fs) = (judged_of r limit t f).loud ∷ louds_of r limit (judged_of r limit t f).track fs

unfoldable pub count_of : List Bool → ℕ
count_of [] = 0
count_of (b ∷ bs) = cond b 1 0 + count_of bs

-- ---- a whole call: flush also closes the open segment

unfoldable pub ended_of : Bool → Rules → ℕ → Track → Judged
ended_of true r limit t = closed_of r limit t
ended_of false r limit t = record { track = t; report = None; loud = false }

unfoldable pub call_rows : Bool → Rules → ℕ → Track → List FrameMetrics → List Row
call_rows finish r limit t fs = rows_of r limit t fs ++ reported (ended_of finish r limit (track_after r limit t fs)).report

unfoldable pub call_track : Bool → Rules → ℕ → Track → List FrameMetrics → Track
call_track finish r limit t fs = (ended_of finish r limit (track_after r limit t fs)).track
