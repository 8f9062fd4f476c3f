-- Document 01's 'Frames': which frames a call takes of the values it has, the carry and then the block's, and what of them stays.
use Rattle.std.specs.Prelude.{Bool, cond, ◌||◌, List, [], ◌∷◌, map, ℕ, zero, suc, ◌-◌, ◌*◌, min, leb, length, take, drop, Float}
use Rattle.vad_frames.specs.Energy.{energy_of}
use Rattle.vad_frames.specs.declared.Framed.{Framed}

-- a start is taken where a whole frame stands from it on; 'flush also takes every start with at least one sample left'
unfoldable pub taken : Bool → ℕ → ℕ → Bool
taken finish frame left = finish || leb frame left

-- 'Frames sit on one hop grid': the next start is `skip` values ahead, and after each start the next is a hop ahead. A short frame has what is left.
unfoldable pub frames_from : Bool → ℕ → ℕ → ℕ → List Float → List (List Float)
frames_from finish frame hop skip [] = []
frames_from finish frame hop zero (x ∷ xs) =
    cond (taken finish frame (length (x ∷ xs))) (take frame (x ∷ xs) ∷ frames_from finish frame hop (hop - 1) xs) []
frames_from finish frame hop (suc skip) (x ∷ xs) = frames_from finish frame hop skip xs

unfoldable pub frames_of : Bool → ℕ → ℕ → List Float → List (List Float)
frames_of finish frame hop values = frames_from finish frame hop 0 values

-- the energies of a call's frames
unfoldable pub energies_of : Bool → List Float → ℕ → List Float → List Float
energies_of finish window hop values = map (energy_of window) (frames_of finish (length window) hop values)

-- up to the first start that is not taken; flush 'consumes the carry'
unfoldable pub consumed_of : Bool → ℕ → ℕ → ℕ → ℕ
consumed_of finish hop frames values = cond finish values (min (frames * hop) values)

unfoldable pub framed_of : Bool → List Float → ℕ → List Float → Framed
framed_of finish window hop values =
    let n = length (frames_of finish (length window) hop values) in
    record { frames = n; consumed = consumed_of finish hop n (length values) }

-- the carry after the call
unfoldable pub carry_of : Bool → List Float → ℕ → List Float → List Float
carry_of finish window hop values = drop (framed_of finish window hop values).consumed values
