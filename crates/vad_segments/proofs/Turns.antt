-- One turn of the loop of `seed`, over plain lists. Assumes nothing.
use mathlib.Core.Path.{◌≡◌, refl}
use mathlib.Core.List.{List, [], ◌∷◌}
use Prim.Native.Nat.{ℕ, ◌+◌, ◌≤◌, ◌<◌}
use native.Mathlib.Numerals.{add-one}
use native.Mathlib.Omega.{arith}
use lib.ListN.{length, drop, get_or, drop_of_length-le}
use lib.Seq.{drop-cons}
use lib.Ieee.{Float, nan}
use Rattle.vad_segments.specs.Loudness.{at_least, lesser_of, least_from, seed_of}

pub seed_first : (least floor e : Float) (es : List Float) → at_least least (least_from e es) ≡ seed_of least floor (e ∷ es)
unfolding seed_of
seed_first least floor e es = refl

pub seed_none : (least floor : Float) (es : List Float) → length es ≡ 0 → floor ≡ seed_of least floor es
unfolding seed_of
seed_none least floor [] h = refl
seed_none least floor (e ∷ es) h = absurd (omega arith)

pub least_end : (m : Float) (i : ℕ) (es : List Float) → length es ≤ i → least_from m (drop i es) ≡ m
unfolding least_from
least_end m i es h = rw (drop_of_length-le es h)

pub least_step : (i : ℕ) (es : List Float) → i < length es → (m : Float) → least_from (lesser_of m (get_or es i nan)) (drop (i + 1) es) ≡ least_from m (drop i es)
unfolding least_from
least_step i es h m = rw (add-one i, drop-cons es i nan)
