-- A segment closed, as `finalize_segment` does, and its row: document 01's 'Score, rows, tally'.
use Rattle.std.specs.Prelude.{Bool, false, ◌||◌, cond, ℕ, suc, ◌+◌, ◌-◌, min, max, leb, ltb, length, pos, Float, None, Option, Some}
use Rattle.std.specs.Float.{binary32}
use Rattle.std.specs.Float.Ieee.{of_int, div, to_bits}
use Rattle.vad_config.specs.Lengths.{time_of_sample_of}
use Rattle.vad_config.specs.declared.VadConfig.{VadConfig}
use Rattle.vad_row.specs.Rows.{reported, talk_of}
use Rattle.vad_row.specs.declared.Row.{Row}
use Rattle.vad_segments.specs.Setters.{booked_to}
use Rattle.vad_segments.specs.declared.Rules.{Rules}
use Rattle.vad_segments.specs.declared.ActiveSegmentState.{ActiveSegmentState}
use Rattle.vad_segments.specs.declared.Finalized.{Finalized}
use Rattle.vad_segments.specs.declared.Track.{Track}
use Rattle.vad_segments.specs.declared.Judged.{Judged}

-- ---- the row

-- 'mean energy (the loud count first rounded to f32, ties to even)'; a segment has a loud frame, so the Rust's `max(1)` never takes effect
unfoldable pub mean_energy_of : ActiveSegmentState → Float
mean_energy_of s = div binary32 s.energy_sum (of_int binary32 (pos (max 1 s.loud_frames)))

unfoldable pub time_at : VadConfig → ℕ → ℕ
time_at c n = time_of_sample_of c.stream_start_time c.sample_rate n

-- 'start sample, end sample, start time, end time, score total, loud frames, bits of the f32 mean energy'
unfoldable pub row_of : VadConfig → ℕ → ℕ → ActiveSegmentState → Row
row_of c start end s =
    record {
      start_sample = start;
      end_sample = end;
      start_time = time_at c start;
      end_time = time_at c end;
      score_total = s.score_total;
      loud_frames = s.loud_frames;
      mean_energy = to_bits binary32 (mean_energy_of s);
    }

-- ---- closing

-- padded, but not before the last segment end
unfoldable pub padded_start : ℕ → ℕ → ActiveSegmentState → ℕ
padded_start padding prev s = max (s.start_sample - padding) prev

-- padded, but not past the limit, or start + 1 if that is more, which it never is (`one_more_idle` in proofs/Ordered)
unfoldable pub padded_end : ℕ → ℕ → ActiveSegmentState → ℕ
padded_end padding limit s = min (s.last_end_sample + padding) (max limit (suc s.start_sample))

-- dropped 'but still move that end'
unfoldable pub dropped_of : ℕ → ℕ → ActiveSegmentState → Finalized
dropped_of limit prev s = record { end = max (min s.last_end_sample limit) prev; report = None }

-- 'runs under `min_speech_frames`, or with last loud end not past the start, are dropped'
unfoldable pub too_short : VadConfig → ActiveSegmentState → Bool
too_short c s = leb s.last_end_sample s.start_sample || ltb s.loud_frames c.min_speech_frames

-- a row, unless its end's time is not past its start's, which never is so either
unfoldable pub timed_of : VadConfig → ℕ → ℕ → ℕ → ℕ → ActiveSegmentState → Finalized
timed_of c limit prev start end s =
    cond (leb (time_at c end) (time_at c start)) (dropped_of limit prev s) (record { end = end; report = Some (row_of c start end s) })

-- `finalize_segment`: the limit is what the end is clipped to, 'samples received by this call'; prev is the last segment end before
unfoldable pub finalized_of : Rules → ℕ → ℕ → ActiveSegmentState → Finalized
finalized_of r limit prev s =
    let padding = r.lengths.padding_samples in
    cond (too_short r.config s) (dropped_of limit prev s) (timed_of r.config limit prev (padded_start padding prev s) (padded_end padding limit s) s)

-- the state keeps the new end, 'rows reported and talk samples'
unfoldable pub booked_of : Track → Finalized → Judged
booked_of t f =
    let rows = t.rows_reported + length (reported f.report) in
    let talk = t.talk_samples + talk_of (reported f.report) in
    record { track = booked_to f.end rows talk t; report = f.report; loud = false }

-- the open segment, if there is one, closed
unfoldable pub closed_by : Rules → ℕ → Track → Option ActiveSegmentState → Judged
closed_by r limit t None = record { track = t; report = None; loud = false }
closed_by r limit t (Some s) = booked_of t (finalized_of r limit t.last_segment_end s)

unfoldable pub closed_of : Rules → ℕ → Track → Judged
closed_of r limit t = closed_by r limit t t.active_segment
