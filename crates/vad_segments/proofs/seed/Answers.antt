use mathlib.Core.Path.{sym, ap, ◌∙◌}
use native.Mathlib.Omega.{arith}
use Rattle.std.proofs.lemmas.Grind.{common_steps}
use Rattle.vad_segments.specs.Loudness.{at_least}
use Rattle.vad_segments.proofs.Turns.{seed_first, seed_none, least_step, least_end}
use Rattle.vad_segments.proofs.seed.Goals as goal

pub returns-in_default : goal.returns-in_default
returns-in_default c = grind (arith, common_steps, seed_none)

pub loop-energy-preserved : goal.loop-energy-preserved
loop-energy-preserved c =
    rw c.lesser-quietest.ensures (least_step c.loop-energy.energy-index c.in-Some.rest.now c.loop-energy-test.true c.loop-energy.quietest ∙ c.loop-energy.invariant)

pub returns : goal.returns
returns c =
    c.at_least.ensures
    ∙ ap (at_least _) (sym (least_end c.loop-energy.quietest c.loop-energy.energy-index _ c.loop-energy-test.false) ∙ c.loop-energy.invariant)
    ∙ rw c.in-Some.ensures.cases.0 (seed_first c.args.energy_floor c.args.noise_floor _ _)
