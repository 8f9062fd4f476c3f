-- What a private function answers. Nothing here has to be believed: no public contract cites it.
use Rattle.std.specs.Prelude.{Bool, ◌&&◌, cond, List, [], ◌∷◌, ℕ, leb, ltb, eqb, length, get_or, Float, None, Option, Some}
use Rattle.dc_state.specs.declared.PreprocessingConfig.{PreprocessingConfig}
use Rattle.dc_state.specs.declared.DcHighPassFilter.{DcHighPassFilter}
use Rattle.dc_highpass.specs.Filter.{nothing_open}
use Rattle.dc_door.specs.FilterState.{config_at, filter_at, readable}
use Rattle.dc_door.specs.FilterDoor.{five_at}

-- a flag's word, the settings' six words, and all of a state
abbrev pub flag_read : ℕ → Option Bool
flag_read word = cond (leb word 1) (Some (eqb word 1)) None

unfoldable pub config_read : List ℕ → Option PreprocessingConfig
config_read ws = cond (leb (get_or ws 3 0) 1 && (leb (get_or ws 4 0) 1 && leb (get_or ws 5 0) 1)) (Some (config_at ws)) None

unfoldable pub held_in : List ℕ → Option DcHighPassFilter
held_in ws = cond (readable ws) (Some (filter_at ws)) None

-- words that are no state are read as the one that a refused opening leaves
unfoldable pub read_of : List ℕ → DcHighPassFilter
read_of ws = cond (readable ws) (filter_at ws) nothing_open

-- two stages' numbers, where there are ten
unfoldable pub stages_read : List Float → Option (List (List Float))
stages_read xs = cond (ltb (length xs) 10) None (Some (five_at xs 0 ∷ five_at xs 5 ∷ []))
