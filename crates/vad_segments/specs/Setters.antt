-- A track and an open segment with some of their numbers changed. A record's fields are all written out here, and where a segment begins (`begun_at`) or is extended (`extended_by`).
use Rattle.std.specs.Prelude.{ℕ, Float, None, Option}
use Rattle.vad_segments.specs.declared.ActiveSegmentState.{ActiveSegmentState}
use Rattle.vad_segments.specs.declared.Track.{Track}

-- nothing heard: the floor begins at `energy_floor`
unfoldable pub fresh_track : Float → Track
fresh_track least =
    record {
      noise_floor = least;
      last_segment_end = 0;
      rows_reported = 0;
      talk_samples = 0;
      active_segment = None;
    }

-- what a frame changes: the floor, and what is open
abbrev pub framed_to : Float → Option ActiveSegmentState → Track → Track
framed_to floor a t =
    record {
      noise_floor = floor;
      last_segment_end = t.last_segment_end;
      rows_reported = t.rows_reported;
      talk_samples = t.talk_samples;
      active_segment = a;
    }

-- what a closed segment changes: the last segment end, rows and talk, and nothing is open
abbrev pub booked_to : ℕ → ℕ → ℕ → Track → Track
booked_to end rows talk t =
    record {
      noise_floor = t.noise_floor;
      last_segment_end = end;
      rows_reported = rows;
      talk_samples = talk;
      active_segment = None;
    }

-- so many quiet frames since the last loud one
abbrev pub silent_for : ℕ → ActiveSegmentState → ActiveSegmentState
silent_for frames s =
    record {
      start_sample = s.start_sample;
      last_end_sample = s.last_end_sample;
      score_total = s.score_total;
      energy_sum = s.energy_sum;
      loud_frames = s.loud_frames;
      silence_run = frames;
    }
