-- What is filled so far is what the reader gave.
use Rattle.std.proofs.Common.{◌-◌, ◌≤◌, take}
use Rattle.std.specs.Io.KnownBytes.{Consumes}
use Rattle.words.proofs.Words.fill.Given as goal

abbrev pub invariant-loop-at : goal.invariant-loop-at
invariant-loop-at g l =
    (l.at ≤ 4)
    × Consumes (g.R.Read.remaining l.initial.self.input) (g.R.Read.remaining l.self.input) (take l.at l.bytes)

abbrev pub decreases-loop-at : goal.decreases-loop-at
decreases-loop-at g l = 4 - l.at
