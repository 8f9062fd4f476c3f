-- A run of calls, refused ones among them: what the theorems over whole runs speak of.
use Rattle.std.specs.Prelude.{List, [], ◌∷◌, ℕ, Float, Option}
use Rattle.refusals.specs.Refusals.{number_in}
use Rattle.dc_state.specs.declared.DcHighPassFilter.{DcHighPassFilter}
use Rattle.dc_highpass.specs.Filter.{process_of, reset_of}
use Rattle.dc_highpass.specs.declared.VadContext.{VadContext}

-- a block with its label and the length of the output that is lent, or a reset
pub data Call : Type 0 where
  Block : List Float → Option VadContext → ℕ → Call
  Reset : Call

-- the state that a call returns
unfoldable pub next : DcHighPassFilter → Call → DcHighPassFilter
next f (Block xs label room) = (process_of f xs label room).filter
next f Reset = (reset_of f).filter

-- 0, or the number of the refusal
unfoldable pub number_of : DcHighPassFilter → Call → ℕ
number_of f (Block xs label room) = number_in (process_of f xs label room).outcome
number_of f Reset = number_in (reset_of f).outcome

-- the state after some calls
unfoldable pub play : DcHighPassFilter → List Call → DcHighPassFilter
play f [] = f
play f (k ∷ ks) = play (next f k) ks
