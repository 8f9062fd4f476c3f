-- Demand 3 says something: each wrong detector of proofs/Wrong breaks its sentence in the run of proofs/Example, and ours keeps all of them there. Assumes nothing.
use mathlib.Core.Path.{◌≡◌, refl, sym, ap, subst}
use mathlib.Core.Bool.{true≢false}
use mathlib.Core.List.{List, [], ◌∷◌}
use Prim.Native.Nat.{◌≤◌}
use native.Mathlib.Omega.{arith}
use lib.ListN.{length}
use lib.Ieee.{of_int, add, mul, div, round}
use Rattle.float.specs.Whole.{round_of}
use Rattle.lists.specs.Every.{Every}
use Rattle.lists.proofs.Every.{every_map, every_all}
use Rattle.ranges.specs.Ranges.{rate_in}
use Rattle.vad_config.specs.Domain.{duration_in}
use Rattle.vad_config.specs.Lengths.{frame_samples, frame_length_of, seconds_of, padding_samples_of}
use Rattle.vad_config.specs.Settings.{frame_of, padding_of}
use Rattle.vad_row.specs.Rows.{talk_in, talk_of, InOrder}
use Rattle.vad_segments.specs.Judging.{count_of}
use Rattle.vad_row.specs.declared.Row.{Row}
use Rattle.promises.specs.Log.{Seen}
use Rattle.promises.specs.Demand.{AtEachAfter, AtEach, sound_in, rows_in, louds_in, flushed_in, Within, NotBefore, Onward, warmed_up, Trails, one_loud, LatelyLoud, Counted, Never19, Promised}
use Rattle.promises.proofs.Example.{settings, window, rise, calls, run, shown}
use Rattle.promises.proofs.Wrong.{changed_after, changed, answers, reads, counting, last_rows, writes_twice, longer, pads_on, forgets_padding, falls_back, stays_at_zero, last_open, closes_late, counts_refused, all_loud, rows_so_far, rows_by_calls, talk_too_long, hears_nobody, breaks_down, wrong}
use Rattle.promises.proofs.Demand3.{demand_3}
use Rattle.promises.proofs.Shown.{opening_accepted, handed, run_is}

-- ours keeps every sentence in this very run
pub ours_promised : Promised settings run
ours_promised = demand_3 settings window rise calls opening_accepted handed

-- what fails of the literals fails of the run
fails : (P : List Seen → Type 0) → (P shown → ⊥) → P run → ⊥
fails P broken h = broken (subst P run_is h)

-- .. what is said of each call too
fails_at : (P : List Seen → Seen → Type 0) (f : List Seen → Seen → Seen) → (AtEach P (changed f shown) → ⊥) → AtEach P (changed f run) → ⊥
fails_at P f = fails (λ r. AtEach P (changed f r))

-- 1. the row 4 .. 20 comes once more
pub writes_twice_lem : InOrder 0 (rows_in (changed writes_twice run)) → ⊥
unfolding changed changed_after writes_twice last_rows answers rows_in
writes_twice_lem = fails (λ r. InOrder 0 (rows_in (changed writes_twice r))) (λ h. omega arith)

-- 2. the flush's row ends at 44, and 40 samples were received
pub pads_on_lem : AtEach Within (changed pads_on run) → ⊥
unfolding changed changed_after pads_on longer answers sound_in
pads_on_lem = fails_at Within pads_on (λ h. omega arith)

-- 3. after the first block it gives 8, and then comes the row that starts at 4
pub forgets_padding_lem : AtEach NotBefore (changed forgets_padding run) → ⊥
unfolding changed changed_after forgets_padding reads sound_in
forgets_padding_lem = fails_at NotBefore forgets_padding (λ h. omega arith)

-- 4. the refused call sends 4 back to 0
pub falls_back_lem : AtEach Onward (changed falls_back run) → ⊥
unfolding changed changed_after falls_back reads
falls_back_lem = fails_at Onward falls_back (λ h. omega arith)

-- the padding of the run
padding : padding_of settings ≡ 4
unfolding padding_of padding_samples_of seconds_of round_of of_int add mul div round
padding = refl

-- 5. with the first row 32 samples were received, and no segment is open: 32 is not below 0 + 8 + 4
pub stays_at_zero_lem : AtEach (Trails settings) (changed stays_at_zero run) → ⊥
unfolding changed changed_after stays_at_zero reads sound_in flushed_in warmed_up frame_of frame_samples frame_length_of rate_in duration_in
stays_at_zero_lem = fails_at (Trails settings) stays_at_zero (λ h. omega (arith, h.1.1.1.1.1.1.0 refl refl, padding))

-- 6. two quiet frames, and its segment is still open
pub closes_late_lem : AtEach (LatelyLoud settings) (changed closes_late run) → ⊥
unfolding changed changed_after closes_late last_open reads louds_in one_loud
closes_late_lem = fails_at (LatelyLoud settings) closes_late (λ h. true≢false (sym (h.1.1.1.1.1.1.0 refl)))

-- the refused call judges no frame, ..
pub counts_refused_lem : AtEach Counted (changed counts_refused run) → ⊥
unfolding changed changed_after counts_refused counting answers
counts_refused_lem = fails_at Counted counts_refused (λ h. omega arith)

-- .. the first frame is not loud, ..
pub all_loud_lem : AtEach Counted (changed all_loud run) → ⊥
unfolding changed changed_after all_loud counting answers count_of
all_loud_lem = fails_at Counted all_loud (λ h. omega arith)

-- .. the block after the first row writes none, ..
pub rows_so_far_lem : AtEach Counted (changed rows_so_far run) → ⊥
unfolding changed changed_after rows_so_far counting answers
rows_so_far_lem = fails_at Counted rows_so_far (λ h. omega arith)

-- .. the first flush writes no row, ..
pub rows_by_calls_lem : AtEach Counted (changed rows_by_calls run) → ⊥
unfolding changed changed_after rows_by_calls reads rows_in
rows_by_calls_lem = fails_at Counted rows_by_calls (λ h. omega arith)

-- .. and the first row has 16 samples, not 17
pub talk_too_long_lem : AtEach Counted (changed talk_too_long run) → ⊥
unfolding changed changed_after talk_too_long reads rows_in talk_of talk_in
talk_too_long_lem = fails_at Counted talk_too_long (λ h. omega arith)

-- the definition has a row
pub hears_nobody_lem : AtEach Counted (changed hears_nobody run) → ⊥
unfolding changed changed_after hears_nobody counting answers reads
hears_nobody_lem = fails_at Counted hears_nobody (λ h. absurd (none h.1.1.1.1.1.1.0.written))
  where
    none : {r : Row} {rs : List Row} → [] ≡ r ∷ rs → ⊥
    none e = omega (arith, ap length e)

-- the call after the first row answers 19
pub breaks_down_lem : AtEach Never19 (changed breaks_down run) → ⊥
unfolding changed changed_after breaks_down answers rows_in
breaks_down_lem = fails_at Never19 breaks_down (λ h. h.1.1.1.1.1.1.1.0.0 refl)

-- ---- so demand 3 is true of none of them

-- each fails by the sentence that it breaks
pub none_promised : Every (λ f. Promised settings (changed f run) → ⊥) wrong
none_promised =
    (λ p. writes_twice_lem p.in_order, (λ p. pads_on_lem p.within, (λ p. forgets_padding_lem p.not_before, (λ p. falls_back_lem p.onward, (λ p. stays_at_zero_lem p.trails, (λ p. closes_late_lem p.lately_loud, (λ p. counts_refused_lem p.counted, (λ p. all_loud_lem p.counted, (λ p. rows_so_far_lem p.counted, (λ p. rows_by_calls_lem p.counted, (λ p. talk_too_long_lem p.counted, (λ p. hears_nobody_lem p.counted, (λ p. breaks_down_lem p.never_19, tt)))))))))))))

-- ---- sentence 5 is needed: of what stays at 0, in any run, sentences 3 and 4 are true
module _ (P : List Seen → Seen → Type 0) (kept : (before : List Seen) (s : Seen) → Every (λ e. e.undecided ≡ 0) before → P before s) where
  at_zero : (before olds ss : List Seen) → Every (λ e. e.undecided ≡ 0) before → AtEachAfter before P (changed_after olds stays_at_zero ss)
  unfolding changed_after stays_at_zero reads
  at_zero before olds [] h = tt
  at_zero before olds (s ∷ ss) h = (kept before (stays_at_zero olds s) h, at_zero (stays_at_zero olds s ∷ before) (s ∷ olds) ss (refl, h))

-- no row starts before 0, ..
pub zero_not_before : (ss : List Seen) → AtEach NotBefore (changed stays_at_zero ss)
unfolding changed
zero_not_before ss =
    at_zero NotBefore
    (λ before s h. every_map (λ e. e.undecided ≡ 0) (λ e. Every (λ r. e.undecided ≤ r.start_sample) s.rows) (λ e z. every_all (λ r. e.undecided ≤ r.start_sample) (λ r. omega arith) s.rows) before h)
    [] [] ss tt

-- .. and 0 never goes back
pub zero_onward : (ss : List Seen) → AtEach Onward (changed stays_at_zero ss)
unfolding changed
zero_onward ss = at_zero Onward (λ before s h. every_map (λ e. e.undecided ≡ 0) (λ e. e.undecided ≤ s.undecided) (λ e z. omega arith) before h) [] [] ss tt
