-- Two answers of the door that meet a contract are equal, and so is what it leaves in a lent slice.
use Rattle.std.specs.Prelude.{Option}
use mathlib.Core.Path.{◌≡◌}
use mathlib.Core.Bool.{Bool}
use mathlib.Core.List.{List}
use Prim.Native.Nat.{ℕ}
use lib.Ieee.{Float}
use Rattle.float.proofs.Unique.{only}
use Rattle.dc_state.specs.declared.PreprocessingConfig.{PreprocessingConfig}
use Rattle.dc_highpass.specs.declared.VadContext.{VadContext}
use Rattle.dc_door.specs.FilterDoor.{settings_of, label_of, open_answer, open_state, process_answer, process_state, process_output, reset_answer, reset_state, bias_answer}

module _ (ws : List ℕ) (r q : ℕ) (ss ts : List ℕ) where
  pub open_unique : (c : PreprocessingConfig) (xs : List Float) → (r ≡ open_answer c xs ws) × (ss ≡ open_state c xs ws) → (q ≡ open_answer c xs ws) × (ts ≡ open_state c xs ws) → (r ≡ q) × (ss ≡ ts)
  open_unique c xs h k = (only h.0 k.0, only h.1 k.1)

  pub process_unique : (xs : List Float) (label : Option VadContext) (room : ℕ)
      → (r ≡ process_answer ws xs label room) × (ss ≡ process_state ws xs label room) → (q ≡ process_answer ws xs label room) × (ts ≡ process_state ws xs label room) → (r ≡ q) × (ss ≡ ts)
  process_unique xs label room h k = (only h.0 k.0, only h.1 k.1)

  pub reset_unique : (r ≡ reset_answer ws) × (ss ≡ reset_state ws) → (q ≡ reset_answer ws) × (ts ≡ reset_state ws) → (r ≡ q) × (ss ≡ ts)
  reset_unique h k = (only h.0 k.0, only h.1 k.1)

  pub bias_unique : r ≡ bias_answer ws → q ≡ bias_answer ws → r ≡ q
  bias_unique = only

pub output_unique : (ws : List ℕ) (xs : List Float) (label : Option VadContext) (out r q : List Float) → r ≡ process_output ws xs label out → q ≡ process_output ws xs label out → r ≡ q
output_unique ws xs label out r q = only

pub settings_unique : (cutoff : Float) (rate : ℕ) (alpha : Float) (removal highpass fourth : Bool) (r q : PreprocessingConfig)
    → r ≡ settings_of cutoff rate alpha removal highpass fourth → q ≡ settings_of cutoff rate alpha removal highpass fourth → r ≡ q
settings_unique cutoff rate alpha removal highpass fourth r q = only

pub label_unique : (context silence : Bool) (r q : Option VadContext) → r ≡ label_of context silence → q ≡ label_of context silence → r ≡ q
label_unique context silence r q = only
