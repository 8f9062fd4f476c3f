-- A flag as a word: 0 or 1.
use Rattle.std.specs.Prelude.{Bool, true, false, List, ℕ, eqb, get_or}

abbrev pub flag_word : Bool → ℕ
flag_word false = 0
flag_word true = 1

-- the flag that stands at a place of a list of words
abbrev pub flag_at : List ℕ → ℕ → Bool
flag_at ws i = eqb (get_or ws i 0) 1
