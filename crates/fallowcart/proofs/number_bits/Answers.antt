use native.Mathlib.Nat.{lt_of_lt_of_le}
use lib.Dec.{lit≤}
use lib.Ieee.{binary32}
use lib.Ieee.Bits.{to_bits-lt}
use Rattle.float.proofs.Words.{T_of}
use Rattle.fallowcart.proofs.number_bits.Goals as goal

pub overflow_cast-result : goal.overflow_cast-result
overflow_cast-result c = record { fits = lt_of_lt_of_le (to_bits-lt binary32 c.args.x (T_of c.well_formed.0.1)) (lit≤ tt) }
