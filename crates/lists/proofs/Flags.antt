-- What a flag's word is. Assumes nothing.
use mathlib.Core.Path.{◌≡◌, refl}
use mathlib.Core.Bool.{Bool, true, false}
use Prim.Native.Nat.{◌≤◌}
use lib.Dec.{eqb, lit≤}
use mir.Val.{bool_byte}
use Rattle.lists.specs.Flags.{flag_word}

-- a Bool cast to a number
pub flag_byte : (b : Bool) → bool_byte b ≡ flag_word b
flag_byte true = refl
flag_byte false = refl

-- read back
pub flag_back : (b : Bool) → eqb (flag_word b) 1 ≡ b
flag_back true = refl
flag_back false = refl

pub flag_small : (b : Bool) → flag_word b ≤ 1
flag_small true = lit≤ tt
flag_small false = lit≤ tt
