use mathlib.Core.Path.{refl}
use Rattle.fallowcart.proofs.fallowcart_root_bits.Goals as goal

pub returns : goal.returns
returns c = rw (c.pattern.ensures, c.sqrt.ensures, c.from_bits.ensures) refl
