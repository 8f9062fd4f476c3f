-- Document 01's 'Small table to prove', proved as one list; its two runs by the equations of vad_runs, one for each call. Assumes nothing.
use mathlib.Core.Path.{◌≡◌, refl, sym, ap, ◌∙◌}
use mathlib.Core.List.{List, [], ◌∷◌, ◌++◌, map}
use Prim.Native.Nat.{ℕ, ◌+◌}
use native.Mathlib.Omega.{arith}
use lib.ListN.{length, take, drop, replicate, length-append}
use lib.Seq.{sets, length-sets, take_at}
use lib.Ieee.{Float, of_bits, of_int, round, sum, add, neg, sub, mul, div, lt, eq, le, is_nan}
use Rattle.lists.specs.Every.{Every}
use Rattle.lists.proofs.Stores.{sets_all}
use Rattle.float.specs.Fused.{fused_of}
use Rattle.float.specs.Root.{root_of, twice_root}
use Rattle.float.specs.Whole.{round_of, ceil_of}
use Rattle.ranges.specs.Ranges.{rate_in, leading_of, all_within}
use Rattle.score.specs.Score.{score_of, reaches, largest}
use Rattle.vad_config.specs.Domain.{in_unit, duration_in, start_in}
use Rattle.vad_config.specs.Lengths.{frame_samples, frame_length_of, hop_length_of, warmup_frames_of}
use Rattle.refusals.specs.Refusals.{first_of, number_in}
use Rattle.vad_call.specs.Calls.{tally_in}
use Rattle.vad_config.specs.Settings.{frame_of, hop_of, warmup_of, framing_refusals, level_refusals, limit_refusals, refusal_of, outcome_of}
use Rattle.vad_row.specs.Rows.{row_width, flat, room_of}
use Rattle.vad_row.specs.declared.Row.{Row}
use Rattle.vad_row.proofs.Laws.{flat_length}
use Rattle.vad_state.specs.State.{half32, weights_in}
use Rattle.vad_state.specs.declared.VadDetector.{VadDetector}
use Rattle.vad_call.specs.Calls.{too_many, concluded_of, ran_of}
use Rattle.vad_call.specs.Answers.{Detected}
use Rattle.vad_detector.specs.Opening.{weights_fit, open_refusal, open_of, open_verdict}
use Rattle.vad_detector.specs.Entries.{detect_of, flush_of, flush_rows}
use Rattle.vad_detector.specs.Answers.{Opened}
use Rattle.vad_runs.specs.Detector.{config, window, a, b}
use Rattle.vad_runs.proofs.Detector.{lent, Run, run_a, run_b}
use Rattle.promises.specs.Log.{Seen, Turn, Detect, Flush, is_flush, block_of, answer_of, seen_as, seen_of, log_of}
use Rattle.promises.specs.Table.{calls, Reports, Holds, small_table}
use Rattle.promises.proofs.Written.{flush_written, rows_counted}

-- ---- the two runs

-- what a run's log shows: the calls' numbers and rows
record Shows (d : VadDetector) (ks : List Turn) (numbers : List ℕ) (rows : List (List ℕ)) : Type 0 where
  by_number : map (λ s. s.number) (log_of d ks) ≡ numbers
  by_row : map (λ s. flat s.rows) (log_of d ks) ≡ rows

shows_first : {d : VadDetector} {k : Turn} {ks : List Turn} {number : ℕ} {row numbers : List ℕ} {rows : List (List ℕ)} → (seen_of d k).number ≡ number → flat (seen_of d k).rows ≡ row
    → Shows (answer_of d k).detector ks numbers rows → Shows d (k ∷ ks) (number ∷ numbers) (row ∷ rows)
unfolding log_of
shows_first n r h = record { by_number = rw (n, h.by_number); by_row = rw (r, h.by_row) }

none : (rs : List Row) → 0 ≡ length rs → flat rs ≡ []
unfolding flat
none [] h = refl
none (r ∷ rs) h = absurd (omega arith)

-- a detect that reports nothing
quiet : {d : VadDetector} {xs : List Float} {told : Detected} {ks : List Turn} {numbers : List ℕ} {rows : List (List ℕ)} → detect_of d xs 0 ≡ told → number_in told.outcome ≡ 0 → (tally_in told.outcome).rows ≡ 0
    → Shows told.detector ks numbers rows → Shows d (Detect xs 0 ∷ ks) (0 ∷ numbers) ([] ∷ rows)
unfolding seen_of seen_as answer_of
quiet {d} {xs} e z n h =
    shows_first (ap (λ (x : Detected). number_in x.outcome) e ∙ z) (none (seen_of d (Detect xs 0)).rows (sym (ap (λ (x : Detected). (tally_in x.outcome).rows) e ∙ n) ∙ rows_counted d (Detect xs 0))) (rw e h)

-- one row, in a slice of two numbers more, which stay
alone : (rs : List Row) (row rest : List ℕ) → length rs ≡ 1 → length rest ≡ 2 → sets (replicate lent 5) 0 (flat rs) ≡ row ++ rest → flat rs ≡ row
alone rs row rest n m e =
    let wide : length (flat rs) ≡ row_width = omega (arith, flat_length rs) in
    let same : length row + 2 ≡ lent = omega (arith, length-append row rest, ap length e, length-sets (replicate lent 5) 0 (flat rs)) in
    sym (take_at (flat rs) (drop (length (flat rs)) (replicate lent 5)) row_width wide)
    ∙ ap (take row_width) (sym (sets_all (replicate lent 5) (flat rs) (omega (arith, wide))) ∙ e)
    ∙ take_at row rest row_width (omega arith)

-- the two numbers more are no room
same_room : (d : VadDetector) → seen_of d (Flush row_width) ≡ seen_of d (Flush lent)
unfolding seen_of answer_of is_flush block_of flush_of ran_of concluded_of too_many room_of
same_room d = refl

-- a flush that reports one row
flushes : {d : VadDetector} {row : List ℕ} {told : Detected} → flush_of d lent ≡ told → number_in told.outcome ≡ 0 → (tally_in told.outcome).rows ≡ 1 → flush_rows d (replicate lent 5) ≡ row ++ 5 ∷ 5 ∷ []
    → Shows d (Flush row_width ∷ []) (0 ∷ []) (row ∷ [])
unfolding seen_of seen_as answer_of log_of
flushes {d} {row} e z n w =
    let same = same_room d in
    let rows = (seen_of d (Flush lent)).rows in
    let one : length rows ≡ 1 = sym (rows_counted d (Flush lent)) ∙ ap (λ (x : Detected). (tally_in x.outcome).rows) e ∙ n in
    shows_first
    (ap (λ (s : Seen). s.number) same ∙ ap (λ (x : Detected). number_in x.outcome) e ∙ z)
    (ap (λ (s : Seen). flat s.rows) same ∙ alone rows row (5 ∷ 5 ∷ []) one refl (sym (flush_written d (replicate lent 5)) ∙ w))
    (record { by_number = refl; by_row = refl })

-- a run of vad_runs, with any release ratio, is what the table's line says: the opening, six quiet calls and a flush, each by its equation
pub run_reports : (release ended talk loud : ℕ) (row : List ℕ) → Run release ended talk loud row → Reports release row
run_reports release ended talk loud row h =
    let flush = flushes h.7.0 refl refl h.7.1 in
    let log = quiet h.1 refl refl (quiet h.2 refl refl (quiet h.3 refl refl (quiet h.4 refl refl (quiet h.5 refl refl (quiet h.6 refl refl flush))))) in
    let shown : Shows (open_of (config release) window half32).detector calls (replicate 7 0) (replicate 6 [] ++ row ∷ []) = rw h.0 log in
    (ap (λ (o : Opened). number_in o.outcome) h.0, shown.by_number, shown.by_row)

-- ---- the table

-- every line of it: sixteen are computed, the runs go by the law above
pub small_table_lem : Every Holds small_table
unfolding open_of open_refusal open_verdict weights_fit weights_in all_within leading_of refusal_of outcome_of framing_refusals level_refusals limit_refusals first_of in_unit rate_in duration_in start_in frame_of frame_length_of frame_samples hop_of hop_length_of warmup_of warmup_frames_of score_of largest reaches fused_of root_of twice_root round_of ceil_of mul sub div add sum neg round of_int of_bits le lt eq is_nan
small_table_lem = (refl, (refl, (refl, (refl, (refl, (refl, (refl, (refl, (refl, (refl, (refl, (refl, (refl, (refl, (refl, (refl, (run_reports a 280 160 1 _ run_a, (run_reports b 360 240 2 _ run_b, tt))))))))))))))))))
