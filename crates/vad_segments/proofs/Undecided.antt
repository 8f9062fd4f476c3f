-- The undecided position: no later row starts before it, it never goes back, and with no segment open it trails the sound by less than a frame and the padding. Assumes nothing.
use Rattle.vad_segments.specs.declared.ActiveSegmentState.{ActiveSegmentState}
use Rattle.std.specs.Prelude.{None, Option, Some}
use mathlib.Core.Path.{◌≡◌, ap}
use mathlib.Core.Bool.{Bool, true, false}
use mathlib.Core.List.{List}
use Prim.Native.Nat.{ℕ, ◌+◌, ◌^◌, ◌≤◌, ◌<◌}
use native.Mathlib.Omega.{arith}
use Rattle.lists.specs.Every.{Every}
use Rattle.lists.proofs.Every.{every_map}
use Rattle.vad_config.proofs.Laws.{Accepted}
use Rattle.vad_segments.specs.Judging.{call_rows, call_track}
use Rattle.vad_segments.specs.Positions.{next_of, decided_to, undecided_of}
use Rattle.vad_segments.proofs.Rooms.{FrameWithin}
use Rattle.vad_segments.specs.declared.Rules.{Rules}
use Rattle.vad_segments.specs.declared.FrameMetrics.{FrameMetrics}
use Rattle.vad_segments.specs.declared.Track.{Track}
use Rattle.vad_row.proofs.Laws.{RowsFrom, between_le}
use Rattle.vad_segments.proofs.Ordered.{TrackOrdered, StartsFrom, call_in_order, call_starts_after, call_rows_from}

-- ---- the next start

-- a segment can begin where the carry does, or is open
next_carry : (carry : ℕ) (a : Option ActiveSegmentState) → next_of carry a ≤ carry
unfolding next_of
next_carry carry None = omega arith
next_carry carry (Some s) = omega arith

next_active : (carry : ℕ) (a : Option ActiveSegmentState) → StartsFrom (next_of carry a) a
unfolding next_of
next_active carry None = tt
next_active carry (Some s) = omega arith

-- what both are past, it is past
next_from : (n carry : ℕ) (a : Option ActiveSegmentState) → n ≤ carry → StartsFrom n a → n ≤ next_of carry a
unfolding next_of
next_from n carry None l h = l
next_from n carry (Some s) l h = omega arith

-- ---- the position
module _ (padding carry : ℕ) (t : Track) where
  -- it lies in the sound that frames have left behind
  pub undecided_le : (warming : Bool) → undecided_of warming padding carry t ≤ carry
  unfolding undecided_of decided_to
  undecided_le true = omega arith
  undecided_le false = let n = next_carry carry t.active_segment in omega arith

  -- 'after warm-up with no segment open it trails the sound by less than a frame plus the padding': n values are carried, fewer than a frame
  pub undecided_trails : (n frame : ℕ) → t.active_segment ≡ None → n < frame → carry + n < undecided_of false padding carry t + (frame + padding)
  unfolding undecided_of decided_to next_of
  undecided_trails n frame c h = let e = ap (next_of carry) c in omega arith

-- ---- over a call, whose frames begin where the carry does or later
module _ (finish : Bool) (r : Rules) (limit : ℕ) (fs : List FrameMetrics) (t : Track) (carry : ℕ) (a : Accepted r.config) (g : limit ≤ 2 ^ 40)
    (o : TrackOrdered limit t) (h : Every (FrameWithin limit) fs) (w : Every (λ f. carry ≤ f.start_sample) fs) where
  abbrev next : ℕ
  next = next_of carry t.active_segment

  frames_from_lem : Every (λ f. next ≤ f.start_sample) fs
  frames_from_lem = every_map _ _ (λ f l. let n = next_carry carry t.active_segment in omega arith) fs w

  -- 'never before an undecided position given earlier'
  pub undecided_rows : RowsFrom (undecided_of false r.lengths.padding_samples carry t) (call_rows finish r limit t fs)
  unfolding undecided_of decided_to
  undecided_rows =
      every_map _ _ (λ c e. omega arith) (call_rows finish r limit t fs)
      (call_rows_from finish r limit next fs t a g o h frames_from_lem (next_active carry t.active_segment))

  -- 'that position never goes back'
  pub undecided_mono : (onward : ℕ) → carry ≤ onward → undecided_of false r.lengths.padding_samples carry t ≤ undecided_of false r.lengths.padding_samples onward (call_track finish r limit t fs)
  unfolding undecided_of decided_to
  undecided_mono onward l =
      let u = call_track finish r limit t fs in
      let n = next_carry carry t.active_segment in
      let s = (call_starts_after finish r limit next fs t frames_from_lem (next_active carry t.active_segment)).0 in
      let later = next_from next onward u.active_segment (omega arith) s in
      let ends = between_le t.last_segment_end (call_rows finish r limit t fs) u.last_segment_end (call_in_order r limit a g finish t fs o h) in
      omega arith
