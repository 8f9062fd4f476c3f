-- Two answers that meet a public function's contract are equal, and so is what is left in the lent slices: each contract is an equation.
use mathlib.Core.Path.{◌≡◌}
use mathlib.Core.Bool.{Bool}
use mathlib.Core.List.{List}
use Prim.Native.Nat.{ℕ}
use lib.Ieee.{Float}
use Rattle.float.proofs.Unique.{only}
use Rattle.vad_state.specs.State.{sound_of}
use Rattle.vad_state.specs.declared.Kept.{Kept}
use Rattle.std.specs.Prelude.{Result, ⊤}
use Rattle.vad_call.specs.Calls.{ran_of, written_of, tallied}
use Rattle.refusals.specs.declared.Refusal.{Refusal}
use Rattle.vad_call.specs.declared.Heard.{Heard}
use Rattle.vad_call.specs.Checks.{check_of}
use Rattle.vad_lent.specs.Lent.{state_at, arrays_in}

pub sound_at_unique : (k : Kept) (fs : List Float) (r q : Bool) → r ≡ sound_of (state_at k fs) → q ≡ sound_of (state_at k fs) → r ≡ q
sound_at_unique k fs r q = only

pub check_at_unique : (k : Kept) (fs xs : List Float) (r q : Result ⊤ Refusal) → r ≡ check_of (state_at k fs) xs → q ≡ check_of (state_at k fs) xs → r ≡ q
check_at_unique k fs xs r q = only

-- of what `hear_at` heard, all but where the carry stood among the values, which is gone
module _ (finish : Bool) (k : Kept) (fs xs : List Float) (room : ℕ) where
  pub outcome_unique : (r q : Result Heard Refusal) → tallied r ≡ (ran_of finish (state_at k fs) xs room).outcome → tallied q ≡ (ran_of finish (state_at k fs) xs room).outcome → tallied r ≡ tallied q
  outcome_unique r q = only

  pub kept_unique : (r q : Kept) → r ≡ (ran_of finish (state_at k fs) xs room).detector.kept → q ≡ (ran_of finish (state_at k fs) xs room).detector.kept → r ≡ q
  kept_unique r q = only

  pub floats_unique : (r q : List Float) → r ≡ arrays_in (ran_of finish (state_at k fs) xs room).detector fs → q ≡ arrays_in (ran_of finish (state_at k fs) xs room).detector fs → r ≡ q
  floats_unique r q = only

pub rows_unique : (finish : Bool) (k : Kept) (fs xs : List Float) (out r q : List ℕ) → r ≡ written_of finish (state_at k fs) xs out → q ≡ written_of finish (state_at k fs) xs out → r ≡ q
rows_unique finish k fs xs out r q = only
