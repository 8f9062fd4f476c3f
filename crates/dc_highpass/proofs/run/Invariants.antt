use mathlib.Core.Path.{◌≡◌}
use Prim.Native.Nat.{◌+◌}
use lib.ListN.{length, drop}
use lib.Seq.{sets}
use Rattle.dc_highpass.specs.Filter.{results_of, after_of}
use Rattle.dc_highpass.proofs.run.Given as goal

abbrev pub invariant-loop-i : goal.invariant-loop-i
invariant-loop-i l = record {
  counted : l.i + length (results_of l.filter (drop l.i l.samples)) ≡ length (results_of l.initial.filter l.samples);
  carried : after_of l.filter (drop l.i l.samples) ≡ after_of l.initial.filter l.samples;
  written : sets l.output l.i (results_of l.filter (drop l.i l.samples)) ≡ sets l.initial.output 0 (results_of l.initial.filter l.samples);
}
