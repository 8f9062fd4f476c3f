-- The filter's order as the host has it: a flag, and a word.
use Rattle.std.specs.Prelude.{Bool, true, false, ℕ}
use Rattle.dc_state.specs.declared.HighpassOrder.{HighpassOrder}
use Rattle.dc_state.specs.declared.HighpassOrder.TheVariants.{SecondOrder, FourthOrder}

abbrev pub order_of : Bool → HighpassOrder
order_of false = SecondOrder
order_of true = FourthOrder

abbrev pub order_word : HighpassOrder → ℕ
order_word SecondOrder = 0
order_word FourthOrder = 1
