use mathlib.Core.Path.{◌≡◌}
use mathlib.Core.Bool.{true}
use lib.Dec.{T}
use lib.ListN.{length, drop}
use lib.Seq.{sets}
use lib.Ieee.Scale.{finite}
use Rattle.vad_frames.specs.Emphasis.{emphasized}
use Rattle.vad_frames.specs.Inside.{SamePast}
use Rattle.vad_frames.proofs.settle_finite.Given as goal

abbrev pub invariant-loop-i : goal.invariant-loop-i
invariant-loop-i l =
    (length l.values ≡ length l.initial.values) × T (finite l.prior) × (l.all ≡ true → sets l.values l.i (emphasized l.coeff l.prior (drop l.i l.samples)) ≡ sets l.initial.values 0 (emphasized l.coeff l.previous l.samples)) × SamePast (length l.samples) l.values l.initial.values
