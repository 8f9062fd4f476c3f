use mathlib.Core.Path.{◌≡◌}
use lib.ListN.{length, drop}
use lib.Seq.{sets}
use Rattle.vad_frames.specs.Emphasis.{emphasized}
use Rattle.vad_frames.proofs.emphasize_each.Given as goal

abbrev pub invariant-loop-i : goal.invariant-loop-i
invariant-loop-i l = (length l.values ≡ length l.initial.values) × (sets l.values l.i (emphasized l.coeff l.last (drop l.i l.samples)) ≡ sets l.initial.values 0 (emphasized l.coeff l.previous l.samples))
