-- Two answers that meet a contract are equal, and so are two outputs: each contract is an equation.
use Rattle.std.specs.Prelude.{Option, Result}
use mathlib.Core.Path.{◌≡◌}
use mathlib.Core.List.{List}
use Prim.Native.Nat.{ℕ}
use lib.Ieee.{Float}
use Rattle.float.proofs.Unique.{only}
use Rattle.refusals.specs.declared.Refusal.{Refusal}
use Rattle.dc_state.specs.declared.PreprocessingConfig.{PreprocessingConfig}
use Rattle.dc_state.specs.declared.DcHighPassFilter.{DcHighPassFilter}
use Rattle.dc_highpass.specs.Filter.{nothing_open, open_of, process_of, output_after, reset_of, bias_read}
use Rattle.dc_highpass.specs.declared.VadContext.{VadContext}
use Rattle.dc_highpass.specs.declared.Answered.{Answered}

pub open_unique : (c : PreprocessingConfig) (a : List (List Float)) (r q : Answered) → r ≡ open_of c a → q ≡ open_of c a → r ≡ q
open_unique c a r q = only

pub process_unique : (f : DcHighPassFilter) (xs : List Float) (label : Option VadContext) (room : ℕ) (r q : Answered) → r ≡ process_of f xs label room → q ≡ process_of f xs label room → r ≡ q
process_unique f xs label room r q = only

pub output_unique : (f : DcHighPassFilter) (xs : List Float) (label : Option VadContext) (out r q : List Float) → r ≡ output_after f xs label out → q ≡ output_after f xs label out → r ≡ q
output_unique f xs label out r q = only

pub reset_unique : (f : DcHighPassFilter) (r q : Answered) → r ≡ reset_of f → q ≡ reset_of f → r ≡ q
reset_unique f r q = only

pub bias_unique : (f : DcHighPassFilter) (r q : Result Float Refusal) → r ≡ bias_read f → q ≡ bias_read f → r ≡ q
bias_unique f r q = only

pub nothing_unique : (r q : DcHighPassFilter) → r ≡ nothing_open → q ≡ nothing_open → r ≡ q
nothing_unique r q = only
