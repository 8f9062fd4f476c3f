-- Two answers that meet a contract are equal, and so are two outputs: each contract is an equation.
use mathlib.Core.Path.{◌≡◌}
use mathlib.Core.Bool.{Bool}
use mathlib.Core.List.{List}
use Prim.Native.Nat.{ℕ}
use lib.Seq.{sets}
use lib.Ieee.{Float}
use Rattle.float.proofs.Unique.{only}
use Rattle.vad_frames.specs.Emphasis.{coefficient_of, emphasized, last_of}
use Rattle.vad_frames.specs.Energy.{energy_of}
use Rattle.vad_frames.specs.Grid.{energies_of, framed_of}
use Rattle.vad_frames.specs.declared.Framed.{Framed}

pub coefficient_unique : (present : Bool) (a r q : Float) → r ≡ coefficient_of present a → q ≡ coefficient_of present a → r ≡ q
coefficient_unique present a r q = only

-- the last sample, and what stands in the lent slice
pub pre_emphasize_unique : (a p : Float) (xs values : List Float) (r q : Float) (y z : List Float) → (r ≡ last_of p xs) × (y ≡ sets values 0 (emphasized a p xs)) → (q ≡ last_of p xs) × (z ≡ sets values 0 (emphasized a p xs)) → (r ≡ q) × (y ≡ z)
pre_emphasize_unique a p xs values r q y z h k = (only h.0 k.0, only h.1 k.1)

pub frame_energy_unique : (window frame : List Float) (r q : Float) → r ≡ energy_of window frame → q ≡ energy_of window frame → r ≡ q
frame_energy_unique window frame r q = only

-- the counts, and what stands in the lent slice
pub frame_signal_unique : (finish : Bool) (window : List Float) (hop : ℕ) (xs energies : List Float) (r q : Framed) (y z : List Float)
    → (r ≡ framed_of finish window hop xs) × (y ≡ sets energies 0 (energies_of finish window hop xs)) → (q ≡ framed_of finish window hop xs) × (z ≡ sets energies 0 (energies_of finish window hop xs)) → (r ≡ q) × (y ≡ z)
frame_signal_unique finish window hop xs energies r q y z h k = (only h.0 k.0, only h.1 k.1)
