use mathlib.Core.Path.{sym, ◌∙◌}
use Rattle.dc_highpass.proofs.Calls.{checked}
use Rattle.dc_highpass.proofs.process.Goals as goal

pub run-requires : goal.run-requires
run-requires c = (checked _ _ _ (sym c.check.ensures ∙ c.in-Ok.is)).fits
