-- Document 01's 'Frames': when a frame is loud, when it is in speech, and the noise floor.
use Rattle.vad_segments.specs.declared.ActiveSegmentState.{ActiveSegmentState}
use Rattle.std.specs.Prelude.{Bool, ◌&&◌, ◌||◌, cond, List, [], ◌∷◌, ℕ, suc, leb, Float, None, Option, Some}
use Rattle.std.specs.Float.{binary32}
use Rattle.std.specs.Float.Ieee.{le, lt, sub, mul, div}
use Rattle.float.specs.Finite.{or_zero}
use Rattle.float.specs.Fused.{fused_of}
use Rattle.float.specs.Numbers.{one32}
use Rattle.vad_config.specs.declared.VadConfig.{VadConfig}

-- 'f32 energy/floor'
unfoldable pub ratio_of : Float → Float → Float
ratio_of energy floor = div binary32 energy floor

-- 'release ratio (segment open) or activation ratio'
unfoldable pub required_of : VadConfig → Option ActiveSegmentState → Float
required_of c None = c.activation_ratio
required_of c (Some s) = c.release_ratio

-- 'A frame is loud when energy ≥ gate and f32 energy/floor ≥' the ratio required
unfoldable pub loud_of : VadConfig → Option ActiveSegmentState → Float → Float → Bool
loud_of c active floor energy = le c.min_speech_energy energy && le (required_of c active) (ratio_of energy floor)

-- a quiet frame inside a segment is a pause: 'a segment closes when the silence run exceeds hangover'
unfoldable pub in_speech_of : ℕ → Option ActiveSegmentState → Bool → Bool
in_speech_of hangover None loud = loud
in_speech_of hangover (Some s) loud = loud || leb (suc s.silence_run) hangover

-- 'Floor weight: rise when in speech and energy is above the floor, else smoothing.'
unfoldable pub weight_of : Float → Float → Bool → Float → Float → Float
weight_of rise smoothing speech floor energy = cond (speech && lt floor energy) rise smoothing

-- 'at least `energy_floor`'
unfoldable pub at_least : Float → Float → Float
at_least least x = cond (lt x least) least x

-- weight × floor + (1 − weight) × energy, the first product fused; 0 stands where there is no number, and `floor_found` in proofs/Floor shows that in the domain there always is one
unfoldable pub floor_of : Float → Float → Float → Float → Float
floor_of least weight floor energy = at_least least (or_zero (fused_of weight floor (mul binary32 (sub binary32 one32 weight) energy)))

-- the lesser of two energies
unfoldable pub lesser_of : Float → Float → Float
lesser_of m e = cond (lt e m) e m

unfoldable pub least_from : Float → List Float → Float
least_from m [] = m
least_from m (e ∷ es) = least_from (lesser_of m e) es

-- 'The floor becomes the least energy of all held frames .. but at least `energy_floor`. A flush with no frame ends warm-up with the floor unchanged.'
unfoldable pub seed_of : Float → Float → List Float → Float
seed_of least floor [] = floor
seed_of least floor (e ∷ es) = at_least least (least_from e es)
