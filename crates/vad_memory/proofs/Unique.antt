-- Two answers that meet a contract are equal, and so is what is left in lent memory.
use mathlib.Core.Path.{◌≡◌}
use mathlib.Core.Bool.{Bool}
use mathlib.Core.List.{List}
use Prim.Native.Nat.{ℕ}
use lib.Seq.{sets}
use lib.Ieee.{Float}
use Rattle.float.proofs.Unique.{only}
use Rattle.vad_layout.proofs.InFloats as in-floats
use Rattle.vad_state.specs.declared.Kept.{Kept}
use Rattle.vad_state.specs.declared.VadDetector.{VadDetector}
use Rattle.vad_call.specs.declared.Tally.{Tally}
use Rattle.vad_memory.specs.DetectorState.{kept_at, detector_at, long_enough, readable, singles_of, numbers_written, floats_written}

module _ (ns : List ℕ) (fs : List Float) where
  pub long_enough_unique : (r q : Bool) → r ≡ long_enough ns fs → q ≡ long_enough ns fs → r ≡ q
  long_enough_unique r q = only

  pub is_readable_unique : (r q : Bool) → r ≡ readable ns fs → q ≡ readable ns fs → r ≡ q
  is_readable_unique r q = only

  pub detector_at_unique : (r q : VadDetector) → r ≡ detector_at ns fs → q ≡ detector_at ns fs → r ≡ q
  detector_at_unique r q = only

  pub kept_at_unique : (r q : Kept) → r ≡ kept_at ns fs → q ≡ kept_at ns fs → r ≡ q
  kept_at_unique r q = only

  module _ (k : Kept) (t : Tally) (ms ls : List ℕ) (gs hs : List Float) where
    pub put_kept_unique : (ms ≡ numbers_written k t ns) × (gs ≡ sets fs in-floats.singles (singles_of k)) → (ls ≡ numbers_written k t ns) × (hs ≡ sets fs in-floats.singles (singles_of k)) → (ms ≡ ls) × (gs ≡ hs)
    put_kept_unique h g = (only h.0 g.0, only h.1 g.1)

  module _ (d : VadDetector) (t : Tally) (ms ls : List ℕ) (gs hs : List Float) where
    pub put_detector_unique : (ms ≡ numbers_written d.kept t ns) × (gs ≡ floats_written d fs) → (ls ≡ numbers_written d.kept t ns) × (hs ≡ floats_written d fs) → (ms ≡ ls) × (gs ≡ hs)
    put_detector_unique h k = (only h.0 k.0, only h.1 k.1)
