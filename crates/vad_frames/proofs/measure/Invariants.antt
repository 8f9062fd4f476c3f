use mathlib.Core.Path.{◌≡◌}
use Prim.Native.Nat.{◌+◌, ◌-◌}
use lib.ListN.{length, drop}
use lib.Seq.{sets}
use Rattle.vad_frames.specs.Grid.{frames_of, energies_of}
use Rattle.vad_frames.proofs.measure.Given as goal

abbrev pub invariant-loop-start : goal.invariant-loop-start
invariant-loop-start l =
    (length l.energies ≡ length l.initial.energies)
    × (l.count + length (frames_of l.finish (length l.window) l.hop_length (drop l.start l.values)) ≡ length (frames_of l.finish (length l.window) l.hop_length l.values))
    × (sets l.energies l.count (energies_of l.finish l.window l.hop_length (drop l.start l.values)) ≡ sets l.initial.energies 0 (energies_of l.finish l.window l.hop_length l.values))

abbrev pub decreases-loop-start : goal.decreases-loop-start
decreases-loop-start l = length l.values - l.start
