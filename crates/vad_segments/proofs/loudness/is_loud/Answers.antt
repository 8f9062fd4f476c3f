use mathlib.Core.Path.{◌≡◌}
use mathlib.Core.Bool.{true, false}
use lib.Ieee.{le}
use Rattle.vad_segments.proofs.loudness.is_loud.Goals as goal

pub returns-then-gate-energy : goal.returns-then-gate-energy
returns-then-gate-energy c = let loud : le c.args.gate c.args.energy ≡ true = c.if-gate-energy.true in simp loud

pub returns-else-gate-energy : goal.returns-else-gate-energy
returns-else-gate-energy c = let quiet : le c.args.gate c.args.energy ≡ false = c.if-gate-energy.false in simp quiet
