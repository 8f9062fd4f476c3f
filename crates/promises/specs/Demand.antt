-- Demand 3, sentence by sentence, of what is seen of a run. Any detector's log can be held against it, with demand 2's frames and rows of the same calls beside it. That blocks are taken at all is demand 2's: a detector that refuses each one passes.
use Rattle.std.specs.Prelude.{◌≡◌, Bool, true, false, not, ◌&&◌, ◌||◌, cond, List, [], ◌∷◌, ◌++◌, map, reverse, ℕ, suc, ◌+◌, ◌*◌, ◌≤◌, ◌<◌, leb, eqb, length, take}
use Rattle.lists.specs.Every.{Every}
use Rattle.vad_config.specs.Settings.{frame_of, hop_of, warmup_of, padding_of}
use Rattle.vad_config.specs.declared.VadConfig.{VadConfig}
use Rattle.vad_row.specs.Rows.{talk_of, InOrder}
use Rattle.vad_row.specs.declared.Row.{Row}
use Rattle.vad_segments.specs.Judging.{count_of}
use Rattle.promises.specs.Log.{Seen}

-- what holds of each call and of the calls before it, the latest of them first
abbrev pub AtEachAfter : List Seen → (List Seen → Seen → Type 0) → List Seen → Type 0
AtEachAfter before P [] = Unit {0}
AtEachAfter before P (s ∷ rest) = P before s × AtEachAfter (s ∷ before) P rest

abbrev pub AtEach : (List Seen → Seen → Type 0) → List Seen → Type 0
AtEach P run = AtEachAfter [] P run

-- ---- what has come by now

-- the sound received: the blocks of the calls that were not refused
unfoldable pub sound_in : List Seen → ℕ
sound_in [] = 0
sound_in (s ∷ ss) = cond (eqb s.number 0) s.block 0 + sound_in ss

-- all rows, call by call as listed: of a run in the order of time; of the calls before one, only their number and their lengths are asked
unfoldable pub rows_in : List Seen → List Row
rows_in [] = []
rows_in (s ∷ ss) = s.rows ++ rows_in ss

-- all frames judged, of calls listed latest first, the latest frame first: loud or not
unfoldable pub louds_in : List Seen → List Bool
louds_in [] = []
louds_in (s ∷ before) = reverse s.louds ++ louds_in before

-- was a flush among them that was not refused
unfoldable pub flushed_in : List Seen → Bool
flushed_in [] = false
flushed_in (s ∷ ss) = (s.flush && eqb s.number 0) || flushed_in ss

-- what the calls answered, added up
unfoldable pub total_of : (Seen → ℕ) → List Seen → ℕ
total_of count [] = 0
total_of count (s ∷ ss) = count s + total_of count ss

-- ---- the sentences

-- 1. 'Rows come out in order and never overlap': `InOrder` of vad_row, of the rows of the whole run

-- 2. 'They lie within the sound received.' By 1 a row starts before it ends.
abbrev pub Within : List Seen → Seen → Type 0
Within before s = Every (λ r. r.end_sample ≤ sound_in (s ∷ before)) s.rows

-- 3. 'No row starts before an undecided position that was given earlier'
abbrev pub NotBefore : List Seen → Seen → Type 0
NotBefore before s = Every (λ e. Every (λ r. e.undecided ≤ r.start_sample) s.rows) before

-- 4. 'The undecided position never goes back.'
abbrev pub Onward : List Seen → Seen → Type 0
Onward before s = Every (λ e. e.undecided ≤ s.undecided) before

-- 'Warm-up holds frames until the count is reached or flush comes': the last of so many frames ends a frame after the hops before it
unfoldable pub warmed_up : VadConfig → List Seen → Bool
warmed_up c seen = flushed_in seen || leb (frame_of c + warmup_of c * hop_of c) (sound_in seen + hop_of c)

-- 5. 'Once warm-up has ended, with no segment open, it trails the sound received by less than a frame plus the padding.'
abbrev pub Trails : VadConfig → List Seen → Seen → Type 0
Trails c before s = warmed_up c (s ∷ before) ≡ true → s.segment ≡ false → sound_in (s ∷ before) < s.undecided + (frame_of c + padding_of c)

-- one of these is loud
unfoldable pub one_loud : List Bool → Bool
one_loud [] = false
one_loud (b ∷ bs) = b || one_loud bs

-- 6. 'A segment is open after a call only if one of the last hangover_frames + 1 frames was loud', of all frames of the run
abbrev pub LatelyLoud : VadConfig → List Seen → Seen → Type 0
LatelyLoud c before s = s.segment ≡ true → one_loud (take (suc c.hangover_frames) (louds_in (s ∷ before))) ≡ true

-- 'each count that a call answers (frames, loud, quiet, rows, talk) equals the count over the definition's frames and rows of the whole run': those of the call, and all so far added up; and the rows written are the definition's
pub record Counted (before : List Seen) (s : Seen) : Type 0 where
  pub written : s.rows ≡ s.due
  pub frames : s.tally.frames ≡ length s.louds
  pub loud : s.tally.loud ≡ count_of s.louds
  pub quiet : s.tally.quiet ≡ count_of (map not s.louds)
  pub rows : s.tally.rows ≡ length s.rows
  pub all_frames : total_of (λ e. e.tally.frames) (s ∷ before) ≡ length (louds_in (s ∷ before))
  pub all_loud : total_of (λ e. e.tally.loud) (s ∷ before) ≡ count_of (louds_in (s ∷ before))
  pub all_quiet : total_of (λ e. e.tally.quiet) (s ∷ before) ≡ count_of (map not (louds_in (s ∷ before)))
  pub all_rows : s.reported ≡ length (rows_in (s ∷ before))
  pub all_talk : s.talk ≡ talk_of (rows_in (s ∷ before))

-- '19 never comes': no call is refused by it, and no reading is refused
abbrev pub Never19 : List Seen → Seen → Type 0
Never19 before s = (s.number ≡ 19 → ⊥) × Every (λ n. n ≡ 0) s.readings

-- ---- demand 3
pub record Promised (c : VadConfig) (run : List Seen) : Type 0 where
  pub in_order : InOrder 0 (rows_in run)
  pub within : AtEach Within run
  pub not_before : AtEach NotBefore run
  pub onward : AtEach Onward run
  pub trails : AtEach (Trails c) run
  pub lately_loud : AtEach (LatelyLoud c) run
  pub counted : AtEach Counted run
  pub never_19 : AtEach Never19 run
