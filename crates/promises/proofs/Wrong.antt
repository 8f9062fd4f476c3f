-- For each sentence of demand 3 a wrong detector that breaks it in the run of proofs/Example. Each shows what ours shows, but for one thing.
use mathlib.Core.Bool.{Bool, false, ◌||◌, cond}
use mathlib.Core.List.{List, [], ◌∷◌, ◌++◌, map}
use Prim.Native.Nat.{ℕ, ◌+◌, min}
use lib.Dec.{eqb}
use lib.ListN.{length}
use Rattle.vad_row.specs.declared.Row.{Row}
use Rattle.vad_call.specs.declared.Tally.{Tally}
use Rattle.promises.specs.Log.{Seen}
use Rattle.promises.specs.Demand.{sound_in, rows_in}
use Rattle.promises.proofs.Example.{row_from}

-- ---- a run with each call changed: the calls before it, as ours shows them, are at hand, the latest first

unfoldable pub changed_after : List Seen → (List Seen → Seen → Seen) → List Seen → List Seen
changed_after before f [] = []
changed_after before f (s ∷ rest) = f before s ∷ changed_after (s ∷ before) f rest

unfoldable pub changed : (List Seen → Seen → Seen) → List Seen → List Seen
changed f run = changed_after [] f run

-- all that a wrong detector may show otherwise
abbrev pub showing : ℕ → List Row → Tally → ℕ → ℕ → ℕ → Bool → Seen → Seen
showing number rows tally undecided reported talk segment s =
    record {
      flush = s.flush;
      block = s.block;
      number = number;
      rows = rows;
      tally = tally;
      undecided = undecided;
      reported = reported;
      talk = talk;
      segment = segment;
      readings = s.readings;
      louds = s.louds;
      due = s.due;
    }

-- another number, other rows, another tally
unfoldable pub answers : ℕ → List Row → Tally → Seen → Seen
answers number rows tally s = showing number rows tally s.undecided s.reported s.talk s.segment s

-- another position, other totals, another segment
unfoldable pub reads : ℕ → ℕ → ℕ → Bool → Seen → Seen
reads undecided reported talk segment s = showing s.number s.rows s.tally undecided reported talk segment s

-- other counts
unfoldable pub counting : ℕ → ℕ → ℕ → ℕ → Tally → Tally
counting frames loud quiet rows t = record { frames = frames; loud = loud; quiet = quiet; noise_floor = t.noise_floor; rows = rows }

-- ---- the wrong detectors

-- 1. it writes the rows of the call before once more
unfoldable pub last_rows : List Seen → List Row
last_rows [] = []
last_rows (e ∷ before) = e.rows

unfoldable pub writes_twice : List Seen → Seen → Seen
writes_twice before s = answers s.number (last_rows before ++ s.rows) s.tally s

-- 2. its flush pads the end past the sound received; the padding of the run is 4 samples
unfoldable pub longer : Row → Row
longer r = row_from r.start_sample (r.end_sample + 4)

unfoldable pub pads_on : List Seen → Seen → Seen
pads_on before s = answers s.number (cond s.flush (map longer s.rows) s.rows) s.tally s

-- 3. its undecided position forgets the padding
unfoldable pub forgets_padding : List Seen → Seen → Seen
forgets_padding before s = reads (min (s.undecided + 4) (sound_in (s ∷ before))) s.reported s.talk s.segment s

-- 4. a refused call sends its undecided position back to 0
unfoldable pub falls_back : List Seen → Seen → Seen
falls_back before s = reads (cond (eqb s.number 0) s.undecided 0) s.reported s.talk s.segment s

-- 5. it never decides anything: no row starts before 0, and 0 never goes back
unfoldable pub stays_at_zero : List Seen → Seen → Seen
stays_at_zero before s = reads 0 s.reported s.talk s.segment s

-- 6. it closes a segment one call late; a block of the run is a frame
unfoldable pub last_open : List Seen → Bool
last_open [] = false
last_open (e ∷ before) = e.segment

unfoldable pub closes_late : List Seen → Seen → Seen
closes_late before s = reads s.undecided s.reported s.talk (last_open before || s.segment) s

-- counts made up: a refused call counts its frame too, ..
unfoldable pub counts_refused : List Seen → Seen → Seen
counts_refused before s =
    answers s.number s.rows (counting (cond (eqb s.number 0) s.tally.frames 1) s.tally.loud s.tally.quiet s.tally.rows s.tally) s

-- .. every frame is loud, ..
unfoldable pub all_loud : List Seen → Seen → Seen
all_loud before s = answers s.number s.rows (counting s.tally.frames s.tally.frames 0 s.tally.rows s.tally) s

-- .. a call counts the rows so far, ..
unfoldable pub rows_so_far : List Seen → Seen → Seen
rows_so_far before s = answers s.number s.rows (counting s.tally.frames s.tally.loud s.tally.quiet s.reported s.tally) s

-- .. there are as many rows as calls, ..
unfoldable pub rows_by_calls : List Seen → Seen → Seen
rows_by_calls before s = reads s.undecided (length before) s.talk s.segment s

-- .. or talk has a sample too many for each row
unfoldable pub talk_too_long : List Seen → Seen → Seen
talk_too_long before s = reads s.undecided s.reported (s.talk + length (rows_in (s ∷ before))) s.segment s

-- it never hears anyone: no row, no talk, no segment, and all that was received is decided
unfoldable pub hears_nobody : List Seen → Seen → Seen
hears_nobody before s =
    reads (sound_in (s ∷ before)) 0 0 false
    (answers s.number [] (counting s.tally.frames s.tally.loud s.tally.quiet 0 s.tally) s)

-- it leaves a malformed state when it has written a row
unfoldable pub breaks_down : List Seen → Seen → Seen
breaks_down before s = answers (cond (eqb (length (rows_in before)) 0) s.number 19) s.rows s.tally s

-- all of them
abbrev pub wrong : List (List Seen → Seen → Seen)
wrong =
    writes_twice
    ∷ pads_on
    ∷ forgets_padding
    ∷ falls_back
    ∷ stays_at_zero
    ∷ closes_late
    ∷ counts_refused
    ∷ all_loud
    ∷ rows_so_far
    ∷ rows_by_calls
    ∷ talk_too_long
    ∷ hears_nobody
    ∷ breaks_down
    ∷ []
