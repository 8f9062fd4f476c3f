use mathlib.Core.Path.{◌≡◌}
use mathlib.Core.Bool.{◌&&◌}
use lib.ListN.{drop}
use Rattle.ranges.specs.Ranges.{all_within}
use Rattle.ranges.proofs.all_inside.Given as goal

abbrev pub invariant-loop-x : goal.invariant-loop-x
invariant-loop-x l = (l.all && all_within l.low (drop l.x-index l.xs) l.high) ≡ all_within l.low l.xs l.high
