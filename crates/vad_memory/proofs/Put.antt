-- Numbers put into memory, and the parts of a detector after one another. Assumes nothing.
use mathlib.Core.Path.{◌≡◌, refl, sym, ap, ◌∙◌}
use mathlib.Core.List.{List, ◌++◌, append_assoc}
use Prim.Native.Nat.{ℕ, ◌+◌, ◌≤◌}
use native.Mathlib.Omega.{arith}
use lib.ListN.{length, take, drop, length-append, length-drop}
use lib.Seq.{sets, sets-eq, drop-drop, take_at, drop_at}
use lib.Ieee.{Float}
use mir.Val.{bool_byte}
use Rattle.std.specs.Prelude.{None, Option, Some, is_some}
use Rattle.std.specs.Option.{unwrap_or}
use Rattle.float.specs.Numbers.{zero32}
use Rattle.lists.proofs.Stores.{sets_all}
use Rattle.vad_layout.specs.Layout.{numbers_most, floats_most}
use Rattle.vad_layout.proofs.InFloats as in-floats
use Rattle.ranges.specs.Sizes.{frame_most, warmup_most}
use Rattle.vad_segments.specs.Judging.{begun_at, segment_for}
use Rattle.vad_segments.specs.declared.ActiveSegmentState.{ActiveSegmentState}
use Rattle.vad_state.specs.declared.Kept.{Kept}
use Rattle.vad_state.specs.declared.VadDetector.{VadDetector}
use Rattle.vad_call.specs.declared.Tally.{Tally}
use Rattle.vad_memory.specs.DetectorState.{tally_numbers, rule_numbers, stream_numbers, active_numbers, desk_numbers, open_word, shown_of, numbers_of, singles_of, floats_of, numbers_written, floats_written}

-- ---- floats put at a place

-- a part that is lent and written whole
pub put_at : (to x xs : List Float) (at : ℕ) {n : ℕ} → x ≡ xs → length xs ≡ n → at + n ≤ length to → take at to ++ (x ++ drop n (drop at to)) ≡ sets to at xs
put_at to x xs at {n} e count room =
    ap (λ (l : List Float). take at to ++ (l ++ drop n (drop at to))) e
    ∙ ap (λ (l : List Float). take at to ++ (xs ++ l)) (drop-drop n at to ∙ ap (λ (k : ℕ). drop (at + k) to) (sym count))
    ∙ sym (append_assoc (take at to) xs (drop (at + length xs) to))
    ∙ sym (sets-eq xs to at (omega arith))

-- one part after another
module _ (to a b c x y z : List Float) where
  abbrev first : List Float
  first = x ++ drop frame_most to

  abbrev second : List Float
  second = take in-floats.carry first ++ (y ++ drop frame_most (drop in-floats.carry first))

  pub three_parts : length a ≡ frame_most → length b ≡ frame_most → length c ≡ warmup_most → in-floats.singles ≤ length to
      → x ≡ a → y ≡ b → z ≡ c
      → take in-floats.warmup second ++ (z ++ drop warmup_most (drop in-floats.warmup second)) ≡ a ++ (b ++ (c ++ drop in-floats.singles to))
  three_parts la lb lc room ex ey ez =
      let rest = drop frame_most to in
      let x_long : length x ≡ frame_most = ap length ex ∙ la in
      let y_long : length y ≡ frame_most = ap length ey ∙ lb in
      let joined = length-append x y in
      let two : length (x ++ y) ≡ in-floats.warmup = omega arith in
      let far = drop in-floats.warmup to in
      let both : second ≡ (x ++ y) ++ far =
      ap (λ (l : List Float). l ++ (y ++ drop frame_most (drop in-floats.carry first))) (take_at x rest in-floats.carry x_long)
      ∙ ap (λ (l : List Float). x ++ (y ++ drop frame_most l)) (drop_at x rest in-floats.carry x_long)
      ∙ ap (λ (l : List Float). x ++ (y ++ l)) (drop-drop frame_most frame_most to)
      ∙ sym (append_assoc x y far) in
      let front : take in-floats.warmup second ≡ x ++ y = ap (take in-floats.warmup) both ∙ take_at (x ++ y) far in-floats.warmup two in
      let back : drop in-floats.warmup second ≡ far = ap (drop in-floats.warmup) both ∙ drop_at (x ++ y) far in-floats.warmup two in
      ap (λ (l : List Float). l ++ (z ++ drop warmup_most (drop in-floats.warmup second))) front
      ∙ ap (λ (l : List Float). (x ++ y) ++ (z ++ l)) (ap (drop warmup_most) back ∙ drop-drop warmup_most in-floats.warmup to)
      ∙ append_assoc x y (z ++ drop in-floats.singles to)
      ∙ rw (ex, ey, ez) refl

-- ---- the open segment

pub open_byte : (a : Option ActiveSegmentState) → bool_byte (is_some a) ≡ open_word a
unfolding open_word
open_byte None = refl
open_byte (Some s) = refl

pub shown_is : (a : Option ActiveSegmentState)
    → unwrap_or a record { start_sample = 0; last_end_sample = 0; score_total = 0; energy_sum = zero32; loud_frames = 0; silence_run = 0 } ≡ shown_of a
unfolding segment_for begun_at
shown_is None = refl
shown_is (Some s) = refl

-- ---- the whole state

pub numbers_count : (k : Kept) (t : Tally) → length (numbers_of k t) ≡ numbers_most
unfolding numbers_of tally_numbers rule_numbers stream_numbers desk_numbers active_numbers
numbers_count k t = refl

pub numbers_put : (k : Kept) (t : Tally) (ns : List ℕ) → numbers_most ≤ length ns → sets ns 0 (numbers_of k t) ≡ numbers_written k t ns
unfolding numbers_written
numbers_put k t ns h =
    let count = numbers_count k t in
    sets_all ns (numbers_of k t) (omega arith) ∙ ap (λ (n : ℕ). numbers_of k t ++ drop n ns) count

singles_count : (k : Kept) → in-floats.singles + length (singles_of k) ≡ floats_most
unfolding singles_of
singles_count k = refl

pub floats_count : (d : VadDetector) → length d.window ≡ frame_most → length d.carry ≡ frame_most → length d.warmup ≡ warmup_most → length (floats_of d) ≡ floats_most
unfolding floats_of
floats_count d w c h =
    let singles = singles_of d.kept in
    let rest = singles_count d.kept in
    let a = length-append d.window (d.carry ++ (d.warmup ++ singles)) in
    let b = length-append d.carry (d.warmup ++ singles) in
    let e = length-append d.warmup singles in
    omega arith

-- the single floats, put behind the arrays of a state, complete it
pub singles_put : (d : VadDetector) (fs : List Float) → length d.window ≡ frame_most → length d.carry ≡ frame_most → length d.warmup ≡ warmup_most → floats_most ≤ length fs
    → sets (d.window ++ (d.carry ++ (d.warmup ++ drop in-floats.singles fs))) in-floats.singles (singles_of d.kept) ≡ floats_written d fs
unfolding floats_written floats_of
singles_put d fs w c h room =
    let arrays = d.window ++ (d.carry ++ d.warmup) in
    let rest = drop in-floats.singles fs in
    let singles = singles_of d.kept in
    let n = length singles in
    let all-floats = singles_count d.kept in
    let inner = length-append d.carry d.warmup in
    let outer = length-append d.window (d.carry ++ d.warmup) in
    let count : length arrays ≡ in-floats.singles = omega arith in
    let left = length-drop in-floats.singles fs in
    let all = length-append arrays rest in
    let grouped : (ys : List Float) → d.window ++ (d.carry ++ (d.warmup ++ ys)) ≡ arrays ++ ys = (λ ys. sym (append_assoc d.window (d.carry ++ d.warmup) ys ∙ ap (λ (zs : List Float). d.window ++ zs) (append_assoc d.carry d.warmup ys))) in
    let far : drop (in-floats.singles + n) (arrays ++ rest) ≡ drop floats_most fs = sym (drop-drop n in-floats.singles (arrays ++ rest)) ∙ ap (drop n) (drop_at arrays rest in-floats.singles count) ∙ drop-drop n in-floats.singles fs ∙ ap (λ (k : ℕ). drop k fs) all-floats in
    ap (λ (ys : List Float). sets ys in-floats.singles singles) (grouped rest)
    ∙ sets-eq singles (arrays ++ rest) in-floats.singles (omega arith)
    ∙ ap (λ (ys : List Float). (ys ++ singles) ++ drop (in-floats.singles + n) (arrays ++ rest)) (take_at arrays rest in-floats.singles count)
    ∙ ap (λ (ys : List Float). (arrays ++ singles) ++ ys) far
    ∙ ap (λ (ys : List Float). ys ++ drop floats_most fs) (sym (grouped singles))
