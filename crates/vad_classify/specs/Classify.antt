-- What `classify` answers of a call: the track, and how many of its frames were loud and quiet.
use Rattle.std.specs.Prelude.{Bool, not, List, map, ℕ, length}
use Rattle.vad_segments.specs.Judging.{louds_of, count_of, call_track}
use Rattle.vad_segments.specs.declared.Rules.{Rules}
use Rattle.vad_segments.specs.declared.FrameMetrics.{FrameMetrics}
use Rattle.vad_segments.specs.declared.Track.{Track}
use Rattle.vad_classify.specs.declared.Classified.{Classified}

-- the track, with the floor in it, and 'frames, loud and quiet counts'
unfoldable pub classified_of : Bool → Rules → ℕ → Track → List FrameMetrics → Classified
classified_of finish r limit t fs =
    let louds = louds_of r limit t fs in
    record { track = call_track finish r limit t fs; frames = length fs; loud = count_of louds; quiet = count_of (map not louds) }
