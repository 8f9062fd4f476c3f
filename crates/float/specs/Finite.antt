-- Document 01's answer of both helpers: a finite number, or the word that there is none.
use Rattle.std.specs.Prelude.{false, pos, Float, None, Option, Some}
use Rattle.std.specs.Float.{nan, inf, fin}

-- a rounded result, which may have overflowed
abbrev pub rounded : Float → Option Float
rounded nan = None
rounded (inf s) = None
rounded (fin s m e) = Some (fin s m e)

-- the number, and another for the word
abbrev pub or_else : Float → Option Float → Float
or_else other (Some x) = x
or_else other None = other

-- the number, and 0 for the word
abbrev pub or_zero : Option Float → Float
or_zero = or_else (fin false 0 (pos 0))
