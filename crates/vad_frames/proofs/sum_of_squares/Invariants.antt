use mathlib.Core.Path.{◌≡◌}
use lib.ListN.{drop}
use Rattle.float.specs.Numbers.{zero32}
use Rattle.vad_frames.specs.Energy.{squares_from}
use Rattle.vad_frames.proofs.sum_of_squares.Given as goal

abbrev pub invariant-loop-i : goal.invariant-loop-i
invariant-loop-i l = squares_from l.total (drop l.i l.frame) (drop l.i l.window) ≡ squares_from zero32 l.frame l.window
