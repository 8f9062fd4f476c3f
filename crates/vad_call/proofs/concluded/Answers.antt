use mathlib.Core.Path.{◌≡◌}
use mathlib.Core.Bool.{true, false}
use Rattle.vad_call.specs.Calls.{tally_of}
use Rattle.vad_call.specs.Inside.{accepted_hearing, hearing_of}
use Rattle.vad_call.proofs.concluded.Goals as goal

pub returns-then-outcome : goal.returns-then-outcome
unfolding hearing_of
returns-then-outcome c = let on : c.args.outcome.refused ≡ true = c.if-outcome.true in rw on

pub returns : goal.returns
unfolding tally_of accepted_hearing hearing_of
returns c = let off : c.args.outcome.refused ≡ false = c.if-outcome.false in rw (off, c.held_after.ensures)
