-- One call, as detect and flush share it: what it measures, holds, judges and reports, and the state that it leaves.
use Rattle.std.specs.Prelude.{Bool, ◌&&◌, cond, List, [], ◌++◌, ℕ, ◌+◌, ◌≤◌, ltb, length, take, drop, Float, Result, Ok, Err}
use Rattle.std.proofs.lemmas.List.Edits.{sets}
use Rattle.float.specs.Numbers.{zero32}
use Rattle.vad_frames.specs.Emphasis.{coefficient_of, emphasized, last_of}
use Rattle.vad_frames.specs.Grid.{energies_of, framed_of}
use Rattle.vad_row.specs.Rows.{room_of, flat}
use Rattle.vad_segments.specs.Loudness.{seed_of}
use Rattle.vad_segments.specs.Judging.{floored_to, frames_at, call_rows}
use Rattle.vad_segments.specs.Positions.{holds_of}
use Rattle.vad_segments.specs.declared.FrameMetrics.{FrameMetrics}
use Rattle.vad_row.specs.declared.Row.{Row}
use Rattle.vad_segments.specs.declared.Track.{Track}
use Rattle.vad_classify.specs.Classify.{classified_of}
use Rattle.vad_classify.specs.declared.Classified.{Classified}
use Rattle.ranges.specs.Sizes.{frame_most, warmup_most}
use Rattle.vad_state.specs.State.{state_of, window_of, carried_of, held_of}
use Rattle.vad_state.specs.Arrays.{filled_of}
use Rattle.vad_state.specs.declared.Stream.{Stream}
use Rattle.vad_state.specs.declared.Desk.{Desk}
use Rattle.vad_state.specs.declared.Kept.{Kept}
use Rattle.vad_state.specs.declared.VadDetector.{VadDetector}
use Rattle.refusals.specs.declared.Refusal.{Refusal}
use Rattle.refusals.specs.declared.Refusal.TheVariants as why
use Rattle.vad_call.specs.declared.Tally.{Tally}
use Rattle.vad_call.specs.Answers.{Detected}
use Rattle.vad_call.specs.declared.Heard.{Heard}

-- ---- what a call works in

-- the carry and a block
abbrev pub values_most : ℕ
values_most = 3072

-- the energies held, and those of a call's frames
abbrev pub energies_most : ℕ
energies_most = 1024

-- ---- a call's sound: its values, and the energies of its frames

-- the carry, then the block pre-emphasized
unfoldable pub values_of : VadDetector → List Float → List Float
values_of d xs =
    carried_of d ++ emphasized (coefficient_of d.kept.rules.config.has_pre_emphasis d.kept.rules.config.pre_emphasis) d.kept.stream.pre_emphasis_prev xs

-- the frames held from earlier calls
unfoldable pub waiting_of : VadDetector → List Float
waiting_of d = cond d.kept.desk.warming (held_of d) []

-- 'every extra frame of the completing block included'
unfoldable pub measured_from : Bool → VadDetector → List Float → List Float
measured_from finish d values = waiting_of d ++ energies_of finish (window_of d) d.kept.rules.lengths.hop_length values

unfoldable pub measured_of : Bool → VadDetector → List Float → List Float
measured_of finish d xs = measured_from finish d (values_of d xs)

unfoldable pub consumed_from : Bool → VadDetector → List Float → ℕ
consumed_from finish d values = (framed_of finish (window_of d) d.kept.rules.lengths.hop_length values).consumed

unfoldable pub carry_after : Bool → VadDetector → List Float → List Float
carry_after finish d xs = drop (consumed_from finish d (values_of d xs)) (values_of d xs)

unfoldable pub stream_after : Bool → VadDetector → List Float → Stream
stream_after finish d xs =
    record {
      carry_len = length (carry_after finish d xs);
      carry_start = d.kept.stream.carry_start + consumed_from finish d (values_of d xs);
      processed_samples = d.kept.stream.processed_samples + length xs;
      pre_emphasis_prev = last_of d.kept.stream.pre_emphasis_prev xs;
    }

-- ---- held or judged, by a state's numbers: es are the energies at hand, those held first

-- 'Warm-up holds frames until the count is reached or flush comes.'
unfoldable pub holding_with : Bool → Kept → ℕ → Bool
holding_with finish k frames = k.desk.warming && holds_of finish k.rules.lengths.warmup_frames frames

unfoldable pub holding_of : Bool → Kept → List Float → Bool
holding_of finish k es = holding_with finish k (length es)

unfoldable pub held_after : Bool → Kept → List Float → List Float
held_after finish k es = cond (holding_of finish k es) es []

unfoldable pub due_of : Bool → Kept → List Float → List Float
due_of finish k es = cond (holding_of finish k es) [] es

-- 'The floor becomes the least energy of all held frames' as warm-up ends; with none judged it stays
unfoldable pub seeded_of : Kept → List Float → Track
seeded_of k due = cond k.desk.warming (floored_to (seed_of k.rules.config.energy_floor k.desk.track.noise_floor due) k.desk.track) k.desk.track

-- held frames begin at the stream's start, others at the carry
unfoldable pub grid_start : Kept → ℕ
grid_start k = cond k.desk.warming 0 k.stream.carry_start

unfoldable pub frames_due : Kept → ℕ → List Float → List FrameMetrics
frames_due k received due = frames_at k.rules.lengths received (grid_start k) due

unfoldable pub verdict_of : Bool → Kept → ℕ → List Float → Classified
verdict_of finish k received due = classified_of finish k.rules received (seeded_of k due) (frames_due k received due)

unfoldable pub rows_due : Bool → Kept → ℕ → List Float → List Row
rows_due finish k received due = call_rows finish k.rules received (seeded_of k due) (frames_due k received due)

-- ---- the answer

unfoldable pub desk_after : Bool → List Float → Track → Desk
desk_after holding held t = record { warming = holding; held = length held; track = t }

-- the state by its new numbers, its carry and the energies held: zeros stand past the used parts of its arrays
unfoldable pub joined_of : VadDetector → Kept → List Float → List Float → VadDetector
joined_of d k carry held = state_of k (filled_of frame_most (window_of d)) (filled_of frame_most carry) (filled_of warmup_most held)

unfoldable pub advanced_of : VadDetector → Stream → List Float → Desk → List Float → VadDetector
advanced_of d s carry desk held = joined_of d (record { rules = d.kept.rules; stream = s; desk = desk }) carry held

-- 'Each call also answers frames, loud and quiet counts, and the floor', and here the rows written
unfoldable pub tally_of : Classified → ℕ → Tally
tally_of c rows = record { frames = c.frames; loud = c.loud; quiet = c.quiet; noise_floor = c.track.noise_floor; rows = rows }

-- what a refused call counts
unfoldable pub no_tally : Tally
no_tally = record { frames = 0; loud = 0; quiet = 0; noise_floor = zero32; rows = 0 }

-- what any call counts
abbrev pub tally_in : Result Tally Refusal → Tally
tally_in (Ok t) = t
tally_in (Err r) = no_tally

-- 'A refused call returns the state it was given'
unfoldable pub refused_by : Refusal → VadDetector → Detected
refused_by r d = record { outcome = Err r; detector = d }

unfoldable pub accepted_of : VadDetector → Stream → List Float → Bool → List Float → Classified → ℕ → Detected
accepted_of d s carry holding held c rows =
    record { outcome = Ok (tally_of c rows); detector = advanced_of d s carry (desk_after holding held c.track) held }

-- 18: 'this call reports more rows than fit; carries the number needed'
unfoldable pub too_many : List Row → ℕ → Bool
too_many rows room = ltb (room_of room) (length rows)

unfoldable pub concluded_of : Bool → VadDetector → Stream → List Float → List Float → ℕ → Detected
concluded_of finish d s carry es room =
    let k = d.kept in
    let due = due_of finish k es in
    let rows = rows_due finish k s.processed_samples due in
    cond (too_many rows room) (refused_by (why.Rows (length rows)) d)
    (accepted_of d s carry (holding_of finish k es) (held_after finish k es) (verdict_of finish k s.processed_samples due) (length rows))

-- 'Rows fill the lent slice from its start .. and numbers past the rows written stay.'
unfoldable pub reported_in : List Row → List ℕ → List ℕ
reported_in rows out = cond (too_many rows (length out)) out (sets out 0 (flat rows))

-- a call that is not refused before its frames are judged
unfoldable pub ran_of : Bool → VadDetector → List Float → ℕ → Detected
ran_of finish d xs room = concluded_of finish d (stream_after finish d xs) (carry_after finish d xs) (measured_of finish d xs) room

unfoldable pub rows_of_call : Bool → VadDetector → List Float → List Row
rows_of_call finish d xs = rows_due finish d.kept (d.kept.stream.processed_samples + length xs) (due_of finish d.kept (measured_of finish d xs))

unfoldable pub written_of : Bool → VadDetector → List Float → List ℕ → List ℕ
written_of finish d xs out = reported_in (rows_of_call finish d xs) out

-- ---- the same call by a state's numbers and its arrays as they are lent

-- the answer, from what was heard and the slices that it was heard in
unfoldable pub taken_of : Heard → List Float → List Float → VadDetector → Detected
taken_of h values energies d =
    let k = h.kept in
    record { outcome = Ok h.tally; detector = joined_of d k (take k.stream.carry_len (drop h.consumed values)) (take k.desk.held energies) }

unfoldable pub settled_of : Result Heard Refusal → List Float → List Float → VadDetector → Detected
settled_of (Ok h) values energies d = taken_of h values energies d
settled_of (Err r) values energies d = refused_by r d

-- what was heard, as it is answered
abbrev pub tallied : Result Heard Refusal → Result Tally Refusal
tallied (Ok h) = Ok h.tally
tallied (Err r) = Err r

-- the new carry and the energies held lie in what a call works in
abbrev pub PartsFit : Heard → Type 0
PartsFit h = (h.consumed + h.kept.stream.carry_len ≤ values_most) × (h.kept.stream.carry_len ≤ frame_most) × (h.kept.desk.held ≤ warmup_most)
