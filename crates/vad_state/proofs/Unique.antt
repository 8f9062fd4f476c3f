-- Two answers that meet a public function's contract are equal: each contract is an equation.
use mathlib.Core.Path.{◌≡◌}
use mathlib.Core.Bool.{Bool}
use mathlib.Core.List.{List}
use Prim.Native.Nat.{ℕ}
use lib.ListN.{length, take}
use lib.Seq.{sets}
use lib.Ieee.{Float}
use Rattle.float.proofs.Unique.{only}
use Rattle.ranges.specs.Sizes.{frame_most}
use Rattle.vad_state.specs.State.{state_of, weights_in, sound_of}
use Rattle.vad_state.specs.Arrays.{filled_of}
use Rattle.vad_state.specs.declared.VadDetector.{VadDetector}
use Rattle.vad_state.specs.declared.Kept.{Kept}

pub sound_unique : (d : VadDetector) (r q : Bool) → r ≡ sound_of d → q ≡ sound_of d → r ≡ q
sound_unique d r q = only

pub sound_lent_unique : (k : Kept) (window carry warmup : List Float) (r q : Bool) → r ≡ sound_of (state_of k window carry warmup) → q ≡ sound_of (state_of k window carry warmup) → r ≡ q
sound_lent_unique k window carry warmup r q = only

pub weights_in_unique : (window : List Float) (rise : Float) (r q : Bool) → r ≡ weights_in window rise → q ≡ weights_in window rise → r ≡ q
weights_in_unique window rise r q = only

-- of `filled` and the three that fill in place
pub filled_unique : (n : ℕ) (xs r q : List Float) → r ≡ filled_of n xs → q ≡ filled_of n xs → r ≡ q
filled_unique n xs r q = only

pub put_unique : (to xs r q : List Float) → r ≡ sets to 0 xs → q ≡ sets to 0 xs → r ≡ q
put_unique to xs r q = only

pub put_first_unique : (to xs r q : List Float) (n : ℕ) → r ≡ sets to 0 (take n xs) → q ≡ sets to 0 (take n xs) → r ≡ q
put_first_unique to xs r q n = only

pub clear_unique : (to r q : List Float) (from : ℕ) → r ≡ filled_of (length to) (take from to) → q ≡ filled_of (length to) (take from to) → r ≡ q
clear_unique to r q from = only

pub clear_past_unique : (n : ℕ) (xs r q : List Float) → r ≡ filled_of frame_most (take n xs) → q ≡ filled_of frame_most (take n xs) → r ≡ q
clear_past_unique n xs r q = only
