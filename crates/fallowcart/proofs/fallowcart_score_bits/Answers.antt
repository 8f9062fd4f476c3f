use mathlib.Core.Path.{refl}
use Rattle.fallowcart.proofs.fallowcart_score_bits.Goals as goal

pub returns : goal.returns
returns c = rw (c.score.ensures, c.from_bits.ensures) refl
