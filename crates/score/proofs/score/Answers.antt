use mathlib.Core.Path.{sym, ap, ◌∙◌}
use Rattle.score.specs.Score.{score_of}
use Rattle.score.proofs.Bits.{number, read_back, bits_from_one}
use Rattle.score.proofs.Laws.{score_below}
use Rattle.score.proofs.score.Goals as goal

pub float_to_bits-ratio : goal.float_to_bits-ratio
float_to_bits-ratio c = number _ c.if-ratio.true

pub search-requires : goal.search-requires
search-requires c = bits_from_one _ c.well_formed.0.1 c.if-ratio.true

pub returns-then-ratio : goal.returns-then-ratio
returns-then-ratio c = c.search.ensures ∙ ap score_of (read_back _ c.well_formed.0.1)

pub returns : goal.returns
returns c = sym (score_below _ c.if-ratio.false)
