-- A state's tests as the code asks them, over plain variables. Assumes nothing.
use mathlib.Core.Path.{◌≡◌, refl}
use mathlib.Core.Bool.{Bool, true, false, ◌&&◌}
use mathlib.Core.List.{List}
use Prim.Native.Nat.{ℕ, ◌-◌, ◌≤◌}
use native.Mathlib.Nat.{le_trans, min-le_left}
use native.Mathlib.Omega.{arith}
use lib.Dec.{eqb}
use lib.ListN.{length, take, length-take}
use lib.Ieee.{Float}
use Rattle.vad_config.specs.Settings.{refusal_of, lengths_of}
use Rattle.vad_config.specs.declared.Lengths.{Lengths}
use Rattle.vad_config.proofs.Laws.{lengths_are, frame_high, hop_high, warmup_high}
use Rattle.vad_segments.specs.declared.Rules.{Rules}
use Rattle.ranges.specs.Sizes.{frame_most, warmup_most}
use Rattle.vad_state.specs.State.{same_lengths}

-- `==` of lengths, which joins the tests from the other side
joined : (a b c d : Bool) → a && (b && (c && d)) ≡ (a && b && c && d)
joined true true c d = refl
joined true false c d = refl
joined false b c d = refl

pub same_joined : (l m : Lengths) → eqb l.frame_length m.frame_length && (eqb l.hop_length m.hop_length && (eqb l.warmup_frames m.warmup_frames && eqb l.padding_samples m.padding_samples)) ≡ same_lengths l m
unfolding same_lengths
same_joined l m = joined (eqb l.frame_length m.frame_length) (eqb l.hop_length m.hop_length) (eqb l.warmup_frames m.warmup_frames) (eqb l.padding_samples m.padding_samples)

-- the part of an array from its start
pub first_short : (n : ℕ) (xs : List Float) → n ≤ frame_most → length (take (n - 0) xs) ≤ frame_most
first_short n xs h = let e = length-take (n - 0) xs in let m = min-le_left (n - 0) (length xs) in omega arith

-- ---- what sound settings give
pub frame_short : (r : Rules) → refusal_of r.config ≡ 0 → r.lengths ≡ lengths_of r.config → r.lengths.frame_length ≤ frame_most
frame_short r z l = rw (l, (lengths_are r.config).0) (frame_high r.config z)

pub warmup_short : (r : Rules) → refusal_of r.config ≡ 0 → r.lengths ≡ lengths_of r.config → r.lengths.warmup_frames ≤ warmup_most
warmup_short r z l = rw (l, (lengths_are r.config).2) (warmup_high r.config z)

pub hop_short : (r : Rules) → refusal_of r.config ≡ 0 → r.lengths ≡ lengths_of r.config → r.lengths.hop_length ≤ frame_most
hop_short r z l = rw (l, (lengths_are r.config).1) (le_trans (hop_high r.config z) (frame_high r.config z))
