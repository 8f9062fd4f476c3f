use mathlib.Core.Path.{◌≡◌}
use native.Mathlib.Omega.{arith}
use borrow.Author.Rules.{rules}
use Rattle.vad_segments.specs.Positions.{undecided_of}
use Rattle.vad_segments.proofs.Undecided.{undecided_le}
use Rattle.vad_door.proofs.Door.{undecided_read_lem, read_word}
use Rattle.vad_door.proofs.undecided_from.Goals as goal

pub read-requires-clause-small : goal.read-requires-clause-small
read-requires-clause-small c =
    λ k w small p.
    let is : w ≡ undecided_of k.desk.warming k.rules.lengths.padding_samples k.stream.carry_start k.desk.track = search rules in
    let most = undecided_le k.rules.lengths.padding_samples k.stream.carry_start k.desk.track k.desk.warming in
    let start = small.0 in
    omega arith

pub returns : goal.returns
returns c = undecided_read_lem _ _ _ (read_word _ _ _ _ _ (λ w p. search rules) c.read.ensures)
