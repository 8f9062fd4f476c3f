use mathlib.Core.Path.{◌≡◌}
use mathlib.Core.Bool.{true, false}
use Rattle.vad_segments.specs.Positions.{undecided_of}
use Rattle.vad_segments.proofs.positions.undecided_from.Goals as goal

pub returns-then-warming : goal.returns-then-warming
unfolding undecided_of
returns-then-warming c = let held : c.args.warming ≡ true = c.if-warming.true in simp held

pub returns : goal.returns
unfolding undecided_of
returns c = let begun : c.args.warming ≡ false = c.if-warming.false in simp (begun, c.decided_to.ensures, c.next_start-next.ensures)
