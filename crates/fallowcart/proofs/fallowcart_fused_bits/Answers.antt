use mathlib.Core.Path.{refl}
use Rattle.fallowcart.proofs.fallowcart_fused_bits.Goals as goal

pub returns : goal.returns
returns c = rw (c.pattern.ensures, c.mul_add.ensures, c.from_bits-3.ensures, c.from_bits-2.ensures, c.from_bits.ensures) refl
