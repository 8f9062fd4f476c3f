-- What a call leaves in the lent slice is what `seen_of` calls its rows. Assumes nothing.
use mathlib.Core.Path.{◌≡◌, refl}
use mathlib.Core.Bool.{Bool, true, false, cond}
use mathlib.Core.List.{List, []}
use Prim.Native.Nat.{ℕ, ◌≤◌}
use native.Mathlib.Omega.{arith}
use borrow.Author.Tests.{ltb-false}
use lib.ListN.{length, replicate, length-replicate}
use lib.Seq.{sets}
use lib.Ieee.{Float}
use Rattle.vad_row.specs.Rows.{room_of, flat}
use Rattle.vad_row.specs.declared.Row.{Row}
use Rattle.vad_row.proofs.Laws.{flat_length, room_enough}
use Rattle.vad_state.specs.State.{sound_of}
use Rattle.vad_state.specs.declared.VadDetector.{VadDetector}
use Rattle.vad_call.specs.Calls.{stream_after, tally_of, no_tally, tally_in, refused_by, accepted_of, too_many, concluded_of, reported_in, ran_of, rows_of_call, written_of}
use Rattle.vad_call.specs.Answers.{Detected}
use Rattle.std.specs.Prelude.{Result, Ok, Err, ⊤}
use Rattle.refusals.specs.Refusals.{number_in, if_passed}
use Rattle.refusals.specs.declared.Refusal.{Refusal}
use Rattle.refusals.specs.declared.Refusal.TheVariants as why
use Rattle.refusals.proofs.First.{number_tells}
use Rattle.vad_call.specs.Checks.{check_of}
use Rattle.vad_detector.specs.Entries.{detect_of, detect_rows, flush_of, flush_rows}
use Rattle.promises.specs.Log.{Turn, Detect, Flush, is_flush, block_of, answer_of, unless_refused, seen_as, seen_of}

-- of a call with this answer, whose definition has these rows: the slice is left with those that are seen, they fit it, and the answer counts them
record Leaves (out left : List ℕ) (a : Detected) (rows : List Row) : Type 0 where
  written : left ≡ sets out 0 (flat (unless_refused (number_in a.outcome) rows))
  fit : length (flat (unless_refused (number_in a.outcome) rows)) ≤ length out
  counted : (tally_in a.outcome).rows ≡ length (unless_refused (number_in a.outcome) rows)

-- ---- over plain variables
module _ (out : List ℕ) (rows : List Row) where
  -- a refused call leaves the slice
  refused : (r : Refusal) (d : VadDetector) → Leaves out out (refused_by r d) rows
  unfolding unless_refused refused_by no_tally flat
  refused r d = let h = number_tells {A = ⊤} (Err r) in record { written = rw h; fit = rw h (omega arith); counted = rw h }

  -- rows that are not too many fit
  taken : (a : Detected) → number_in a.outcome ≡ 0 → (tally_in a.outcome).rows ≡ length rows → too_many rows (length out) ≡ false → Leaves out (sets out 0 (flat rows)) a rows
  unfolding unless_refused too_many
  taken a z n h =
      let few : length rows ≤ room_of (length out) = ltb-false _ _ h in
      let room = room_enough (length rows) (length out) few in
      record { written = rw z; fit = rw z (omega (arith, flat_length rows)); counted = rw z n }

  chosen : (t : Bool) (x y : List ℕ) (a b : Detected) → (t ≡ true → Leaves out x a rows) → (t ≡ false → Leaves out y b rows) → Leaves out (cond t x y) (cond t a b) rows
  chosen true x y a b f g = f refl
  chosen false x y a b f g = g refl

-- ---- a call that is not refused before its frames are judged, then each entry
ran : (finish : Bool) (d : VadDetector) (xs : List Float) (out : List ℕ) → Leaves out (written_of finish d xs out) (ran_of finish d xs (length out)) (rows_of_call finish d xs)
unfolding written_of reported_in ran_of concluded_of rows_of_call stream_after accepted_of tally_of
ran finish d xs out =
    let rows = rows_of_call finish d xs in
    chosen out rows (too_many rows (length out)) out (sets out 0 (flat rows)) (refused_by (why.Rows (length rows)) d) _ (λ h. refused out rows (why.Rows (length rows)) d) (λ h. taken out rows _ refl refl h)

detected : (d : VadDetector) (xs : List Float) (out : List ℕ) → Leaves out (detect_rows d xs out) (detect_of d xs (length out)) (rows_of_call false d xs)
unfolding detect_rows detect_of
detected d xs out = go (check_of d xs)
  where
    go : (v : Result ⊤ Refusal)
        → Leaves out (if_passed v (written_of false d xs out) (λ r. out)) (if_passed v (ran_of false d xs (length out)) (λ r. refused_by r d)) (rows_of_call false d xs)
    go (Ok x) = ran false d xs out
    go (Err r) = refused out (rows_of_call false d xs) r d

flushed : (d : VadDetector) (out : List ℕ) → Leaves out (flush_rows d out) (flush_of d (length out)) (rows_of_call true d [])
unfolding flush_rows flush_of
flushed d out =
    chosen out (rows_of_call true d []) (sound_of d) (written_of true d [] out) out (ran_of true d [] (length out)) (refused_by why.State d) (λ h. ran true d [] out) (λ h. refused out (rows_of_call true d []) why.State d)

-- ---- what is seen

-- the slice after a call: the rows from its start, and past them, or where the call was refused, what it held before
pub detect_written : (d : VadDetector) (xs : List Float) (out : List ℕ) → detect_rows d xs out ≡ sets out 0 (flat (seen_of d (Detect xs (length out))).rows)
unfolding seen_of seen_as answer_of is_flush block_of
detect_written d xs out = (detected d xs out).written

pub flush_written : (d : VadDetector) (out : List ℕ) → flush_rows d out ≡ sets out 0 (flat (seen_of d (Flush (length out))).rows)
unfolding seen_of seen_as answer_of is_flush block_of
flush_written d out = (flushed d out).written

-- the rows fit
pub detect_fits : (d : VadDetector) (xs : List Float) (out : List ℕ) → length (flat (seen_of d (Detect xs (length out))).rows) ≤ length out
unfolding seen_of seen_as answer_of is_flush block_of
detect_fits d xs out = (detected d xs out).fit

pub flush_fits : (d : VadDetector) (out : List ℕ) → length (flat (seen_of d (Flush (length out))).rows) ≤ length out
unfolding seen_of seen_as answer_of is_flush block_of
flush_fits d out = (flushed d out).fit

-- the answer counts them, of every call
pub rows_counted : (d : VadDetector) (k : Turn) → (seen_of d k).tally.rows ≡ length (seen_of d k).rows
unfolding seen_of seen_as answer_of is_flush block_of
rows_counted d (Detect xs room) = rw (← length-replicate {A = ℕ} room 0) (detected d xs (replicate room 0)).counted
rows_counted d (Flush room) = rw (← length-replicate {A = ℕ} room 0) (flushed d (replicate room 0)).counted
