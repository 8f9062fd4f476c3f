-- One turn of each loop, over plain lists. Assumes nothing.
use Rattle.std.specs.Prelude.{Some, slice_get}
use Rattle.std.specs.Option.{unwrap_or}
use mathlib.Core.Path.{◌≡◌, refl, sym, ap, ◌∙◌}
use mathlib.Core.Logic.{inl, inr}
use mathlib.Core.Bool.{Bool, true, false}
use mathlib.Core.List.{List, [], ◌∷◌, map}
use Prim.Native.Nat.{ℕ, zero, suc, ◌+◌, ◌-◌, ◌*◌, ◌≤◌, ◌<◌, min}
use native.Mathlib.Nat.{le_of_lt, min-eq_left, min-eq_right}
use native.Mathlib.Numerals.{add-one}
use native.Mathlib.Omega.{arith}
use lib.ListN.{length, take, drop, get_or, drop_of_length-le, length-drop}
use lib.Seq.{take_all, take-length, drop-cons, drop-drop}
use lib.Dec.{T}
use lib.Ieee.{Float, nan, inf, fin, binary32, add, neg}
use lib.Ieee.Scale.{finite}
use Rattle.float.specs.Finite.{or_zero}
use Rattle.float.specs.Fused.{fused_of}
use Rattle.float.proofs.Sticky.{side}
use Rattle.vad_frames.specs.Emphasis.{emphasized_of, emphasized, last_of}
use Rattle.vad_frames.specs.Energy.{square_of, squares_from, energy_of}
use Rattle.vad_frames.specs.Grid.{taken, frames_from, frames_of, energies_of, consumed_of, framed_of}

-- ---- the loops that end with their list
pub emphasized_end : (a p : Float) (i : ℕ) (xs : List Float) → length xs ≤ i → emphasized a p (drop i xs) ≡ []
unfolding emphasized
emphasized_end a p i xs h = rw (drop_of_length-le xs h)

pub squares_end : (t : Float) (i : ℕ) (xs ws : List Float) → length xs ≤ i → squares_from t (drop i xs) (drop i ws) ≡ t
unfolding squares_from
squares_end t i xs ws h = rw (drop_of_length-le xs h)

module _ (i : ℕ) (xs : List Float) (h : i < length xs) where
  next : drop (i + 1) xs ≡ drop (suc i) xs
  next = rw (add-one i)

  pub emphasized_step : (a p : Float) → emphasized a p (drop i xs) ≡ emphasized_of a p (get_or xs i nan) ∷ emphasized a (get_or xs i nan) (drop (i + 1) xs)
  unfolding emphasized
  emphasized_step a p = rw (next, drop-cons xs i nan)

-- ---- sums that are settled
pub finite_neg : (x : Float) → T (finite x) → T (finite (neg x))
unfolding neg
finite_neg nan h = h
finite_neg (inf s) h = h
finite_neg (fin s m e) h = tt

pub settled_is : (a p x y : Float) → Some y ≡ fused_of a (neg p) x → y ≡ emphasized_of a p x
unfolding emphasized_of
settled_is a p x y h = ap or_zero h

-- ---- the last raw sample
pub last_found : (p : Float) (xs : List Float) → unwrap_or (slice_get xs (length xs - 1)) p ≡ last_of p xs
unfolding last_of
last_found p [] = refl
last_found p (x ∷ xs) = let e : length (x ∷ xs) - 1 ≡ length xs = omega arith in rw e (go x xs)
  where
    go : (x : Float) (xs : List Float) → unwrap_or (slice_get (x ∷ xs) (length xs)) p ≡ last_of x xs
    go x [] = refl
    go x (y ∷ ys) = go y ys

pub squares_step : (t : Float) (i : ℕ) (xs ws : List Float) → i < length xs → i < length ws
    → squares_from (add binary32 t (square_of (get_or xs i nan) (get_or ws i nan))) (drop (i + 1) xs) (drop (i + 1) ws) ≡ squares_from t (drop i xs) (drop i ws)
unfolding squares_from
squares_step t i xs ws h g = rw (next i xs h, next i ws g, drop-cons xs i nan, drop-cons ws i nan)

-- ---- frames
-- a part from the front is cut off by what is there
pub take_min : (n : ℕ) (xs : List Float) → take (min n (length xs)) xs ≡ take n xs
take_min n xs =
    elim (side n (length xs)) [ inl l ↦ rw (min-eq_left (le_of_lt l)) | inr l ↦ rw (min-eq_right l, take-length xs, take_all n xs l) ]

-- the part of the code, from s on, is cut to what is left
pub part_is : (n s : ℕ) (xs : List Float) → take (s + min n (length xs - s) - s) (drop s xs) ≡ take n (drop s xs)
part_is n s xs =
    let e : s + min n (length xs - s) - s ≡ min n (length xs - s) = omega arith in
    rw (e, ← length-drop s xs) (take_min n (drop s xs))

module _ (finish : Bool) (frame hop : ℕ) where
  -- frames that begin k values ahead are those of the list without its first k
  pub skips : (k : ℕ) (xs : List Float) → frames_from finish frame hop k xs ≡ frames_of finish frame hop (drop k xs)
  unfolding frames_of frames_from
  skips zero xs = refl
  skips (suc k) [] = refl
  skips (suc k) (x ∷ xs) = skips k xs

  pub frames_next : (x : Float) (xs : List Float) → 1 ≤ hop → taken finish frame (length (x ∷ xs)) ≡ true
      → frames_of finish frame hop (x ∷ xs) ≡ take frame (x ∷ xs) ∷ frames_of finish frame hop (drop hop (x ∷ xs))
  unfolding frames_of frames_from
  frames_next x xs h t = let e : hop ≡ suc (hop - 1) = omega arith in rw t (ap (λ (fs : List (List Float)). take frame (x ∷ xs) ∷ fs) (skips (hop - 1) xs ∙ ap (λ (n : ℕ). frames_of finish frame hop (drop n (x ∷ xs))) (sym e)))

  pub frames_none : (x : Float) (xs : List Float) → taken finish frame (length (x ∷ xs)) ≡ false → frames_of finish frame hop (x ∷ xs) ≡ []
  unfolding frames_of frames_from
  frames_none x xs t = rw t

  module _ (i : ℕ) (xs : List Float) where
    pub frames_end : length xs ≤ i → frames_of finish frame hop (drop i xs) ≡ []
    unfolding frames_of frames_from
    frames_end h = rw (drop_of_length-le xs h)

    pub frames_step : i < length xs → 1 ≤ hop → taken finish frame (length xs - i) ≡ true
        → frames_of finish frame hop (drop i xs) ≡ take frame (drop i xs) ∷ frames_of finish frame hop (drop (i + hop) xs)
    frames_step l h t =
        let e = drop-cons xs i nan l in
        let n = ap (taken finish frame) (ap length (sym e) ∙ length-drop i xs) ∙ t in
        rw (← drop-drop hop i xs, e) (frames_next (get_or xs i nan) (drop (suc i) xs) h n)

    pub frames_stop : i < length xs → taken finish frame (length xs - i) ≡ false → frames_of finish frame hop (drop i xs) ≡ []
    frames_stop l t =
        let e = drop-cons xs i nan l in
        rw e (frames_none (get_or xs i nan) (drop (suc i) xs) (ap (taken finish frame) (ap length (sym e) ∙ length-drop i xs) ∙ t))

-- ---- their energies
module _ (finish : Bool) (window : List Float) (hop i : ℕ) (xs : List Float) where
  pub energies_step : i < length xs → 1 ≤ hop → taken finish (length window) (length xs - i) ≡ true
      → energies_of finish window hop (drop i xs) ≡ energy_of window (take (length window) (drop i xs)) ∷ energies_of finish window hop (drop (i + hop) xs)
  unfolding energies_of
  energies_step l h t = ap (map (energy_of window)) (frames_step finish (length window) hop i xs l h t)

  pub energies_none : frames_of finish (length window) hop (drop i xs) ≡ [] → energies_of finish window hop (drop i xs) ≡ []
  unfolding energies_of
  energies_none e = ap (map (energy_of window)) e

-- ---- what a call answers
module _ (finish : Bool) (window : List Float) (hop : ℕ) (xs : List Float) (n : ℕ) (e : n ≡ length (frames_of finish (length window) hop xs)) where
  pub framed_flushed : finish ≡ true → record { frames = n; consumed = length xs } ≡ framed_of finish window hop xs
  unfolding framed_of consumed_of
  framed_flushed t = rw (← e, t)

  pub framed_whole : finish ≡ false → (m : ℕ) → m ≡ min (n * hop) (length xs) → record { frames = n; consumed = m } ≡ framed_of finish window hop xs
  unfolding framed_of consumed_of
  framed_whole t m p = rw (p, ← e, t)
