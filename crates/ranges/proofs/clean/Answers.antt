use Rattle.ranges.specs.Ranges.{clean_of}
use Rattle.ranges.proofs.Laws.{all_leading}
use mathlib.Core.Path.{sym, ◌∙◌}
use Rattle.ranges.proofs.clean.Goals as goal

pub returns-then-all_inside : goal.returns-then-all_inside
unfolding clean_of
returns-then-all_inside c = all_leading _ _ c.args.samples.now (sym c.all_inside.ensures ∙ c.if-all_inside.true)

pub returns : goal.returns
unfolding clean_of
returns c = c.leading.ensures
