-- What callers use of the definitions: lengths, cuts, and where the frames stand. Assumes nothing.
use mathlib.Core.Path.{◌≡◌, refl, sym, ap, ap₂, ◌∙◌}
use mathlib.Core.Logic.{inl, inr}
use mathlib.Core.Bool.{Bool, true, false, cond}
use mathlib.Core.List.{List, [], ◌∷◌, ◌++◌, map}
use Prim.Native.Nat.{ℕ, zero, suc, ◌+◌, ◌-◌, ◌*◌, ◌≤◌, ◌<◌, min}
use native.Mathlib.Nat.{mul-le-mul_left, suc-mul, zero-mul, zero-add, add-mul, min-eq_left}
use native.Mathlib.Omega.{arith}
use lib.Dec.{lit≤}
use lib.ListN.{length, take, drop, get_or, length-append, length-take, length-drop}
use lib.Seq.{take-append-le, drop-append-le, drop-length, drop-nil, drop-drop}
use lib.Ieee.{Float}
use borrow.Author.Tests.{le-leb, leb-true}
use Rattle.lists.proofs.Every.{length_map, map_append}
use Rattle.float.proofs.Sticky.{side}
use Rattle.vad_frames.specs.Emphasis.{emphasized_of, emphasized, last_of}
use Rattle.vad_frames.specs.Energy.{energy_of}
use Rattle.vad_frames.specs.Grid.{taken, frames_from, frames_of, energies_of, consumed_of, framed_of, carry_of}
use Rattle.vad_frames.proofs.Turns.{frames_next, frames_none}

-- ---- pre-emphasis
-- as many values as samples
pub emphasized_length : (a p : Float) (xs : List Float) → length (emphasized a p xs) ≡ length xs
unfolding emphasized
emphasized_length a p [] = refl
emphasized_length a p (x ∷ xs) = ap suc (emphasized_length a x xs)

-- a cut of the samples does not show
pub emphasized_append : (a p : Float) (xs ys : List Float) → emphasized a p (xs ++ ys) ≡ emphasized a p xs ++ emphasized a (last_of p xs) ys
unfolding emphasized last_of
emphasized_append a p [] ys = refl
emphasized_append a p (x ∷ xs) ys = ap (λ (vs : List Float). emphasized_of a p x ∷ vs) (emphasized_append a x xs ys)

-- nor in the sample that is remembered
pub last_append : (p : Float) (xs ys : List Float) → last_of p (xs ++ ys) ≡ last_of (last_of p xs) ys
unfolding last_of
last_append p [] ys = refl
last_append p (x ∷ xs) ys = last_append x xs ys

-- ---- where the frames stand
-- what is enough for a start is enough for an earlier one
taken_more : (finish : Bool) (frame n m : ℕ) → taken finish frame n ≡ true → n ≤ m → taken finish frame m ≡ true
unfolding taken
taken_more true frame n m t h = refl
taken_more false frame n m t h = let l = leb-true frame n t in le-leb frame m (omega arith)

frame_of_taken : (frame n : ℕ) → taken false frame n ≡ true → frame ≤ n
unfolding taken
frame_of_taken frame n t = leb-true frame n t

module _ (finish : Bool) (frame hop : ℕ) (h : 1 ≤ hop) where
  -- from j values on, frame k begins k hops later
  starts_from : (j k : ℕ) (xs : List Float) → k < length (frames_from finish frame hop j xs) → (j + k * hop < length xs) × (taken finish frame (length xs - (j + k * hop)) ≡ true)
  unfolding frames_from
  starts_from j k [] l = absurd (omega arith)
  starts_from (suc j) k (x ∷ xs) l = let r = starts_from j k xs l in (omega (arith, r.0), taken_more finish frame _ _ r.1 (omega arith))
  starts_from zero k (x ∷ xs) l = go (taken finish frame (suc (length xs))) refl k l (λ i m. starts_from (hop - 1) i xs m)
    where
      go : (b : Bool) → taken finish frame (suc (length xs)) ≡ b → (k : ℕ) → k < length (cond b (take frame (x ∷ xs) ∷ frames_from finish frame hop (hop - 1) xs) [])
          → ((i : ℕ) → i < length (frames_from finish frame hop (hop - 1) xs) → (hop - 1 + i * hop < length xs) × (taken finish frame (length xs - (hop - 1 + i * hop)) ≡ true))
          → (0 + k * hop < suc (length xs)) × (taken finish frame (suc (length xs) - (0 + k * hop)) ≡ true)
      go false e k l f = absurd (omega arith)
      go true e zero l f = (omega arith, taken_more finish frame _ _ e (omega arith))
      go true e (suc k) l f = let r = f k (omega arith) in let m = suc-mul k hop in (omega (arith, r.0), taken_more finish frame _ _ r.1 (omega arith))

  -- a frame begins inside the values, where enough is left
  pub frame_starts : (k : ℕ) (xs : List Float) → k < length (frames_of finish frame hop xs) → (k * hop < length xs) × (taken finish frame (length xs - k * hop) ≡ true)
  unfolding frames_of
  frame_starts k xs l = rw (zero-add (k * hop)) at (starts_from 0 k xs l)

  reached_from : (j k : ℕ) (xs : List Float) → j + k * hop < length xs → taken finish frame (length xs - (j + k * hop)) ≡ true → k < length (frames_from finish frame hop j xs)
  unfolding frames_from
  reached_from j k [] l t = absurd (omega arith)
  reached_from (suc j) k (x ∷ xs) l t = reached_from j k xs (omega arith) (taken_more finish frame _ _ t (omega arith))
  reached_from zero zero (x ∷ xs) l t = rw (taken_more finish frame _ (suc (length xs)) t (omega arith)) (omega arith)
  reached_from zero (suc k) (x ∷ xs) l t =
      let m = suc-mul k hop in
      let r = reached_from (hop - 1) k xs (omega arith) (taken_more finish frame _ _ t (omega arith)) in
      rw (taken_more finish frame _ (suc (length xs)) t (omega arith)) (omega arith)

  -- and every such start has its frame
  pub frame_reached : (k : ℕ) (xs : List Float) → k * hop < length xs → taken finish frame (length xs - k * hop) ≡ true → k < length (frames_of finish frame hop xs)
  unfolding frames_of
  frame_reached k xs l t = reached_from 0 k xs (omega arith) (rw (zero-add (k * hop)) t)

  -- fewer frames than values, for steps of m values that are no longer than a hop
  pub frames_below : (m : ℕ) (xs : List Float) → 1 ≤ m → m ≤ hop → length (frames_of finish frame hop xs) * m < length xs + m
  frames_below m xs p q = go (length (frames_of finish frame hop xs)) (λ k l. (frame_starts k xs l).0)
    where
      go : (n : ℕ) → ((k : ℕ) → k < n → k * hop < length xs) → n * m < length xs + m
      go zero f = omega arith
      go (suc n) f = let l = f n (omega arith) in let e = suc-mul n m in let g = mul-le-mul_left n q in omega arith

  -- the last frame begins inside the values
  pub frames_within : (xs : List Float) → length (frames_of finish frame hop xs) * hop < length xs + hop
  frames_within xs = frames_below hop xs h (omega arith)

  -- no more frames than values
  pub frames_le : (xs : List Float) → length (frames_of finish frame hop xs) ≤ length xs
  frames_le xs = omega (arith, frames_below 1 xs (lit≤ tt) h)

  first_taken : (xs : List Float) → 0 < length (frames_of finish frame hop xs) → taken finish frame (length xs) ≡ true
  first_taken xs l = taken_more finish frame _ _ (frame_starts 0 xs l).1 (omega arith)

  -- frame k is what stands k hops on
  pub frame_at_lem : (k : ℕ) (xs : List Float) → k < length (frames_of finish frame hop xs) → get_or (frames_of finish frame hop xs) k [] ≡ take frame (drop (k * hop) xs)
  frame_at_lem zero [] l = absurd (omega (arith, (frame_starts 0 [] l).0))
  frame_at_lem zero (x ∷ xs) l = rw (frames_next finish frame hop x xs h (first_taken (x ∷ xs) l), zero-mul hop)
  frame_at_lem (suc k) [] l = absurd (omega (arith, (frame_starts (suc k) [] l).0))
  frame_at_lem (suc k) (x ∷ xs) l =
      let e = frames_next finish frame hop x xs h (first_taken (x ∷ xs) (omega arith)) in
      let n = ap length e in
      let d : hop + k * hop ≡ suc k * hop = let m = suc-mul k hop in omega arith in
      ap (λ (fs : List (List Float)). get_or fs (suc k) []) e ∙ frame_at_lem k (drop hop (x ∷ xs)) (omega arith) ∙ ap (take frame) (drop-drop (k * hop) hop (x ∷ xs) ∙ ap (λ (i : ℕ). drop i (x ∷ xs)) d)

  -- a frame is whole, or has what is left
  pub frame_length : (k : ℕ) (xs : List Float) → k < length (frames_of finish frame hop xs) → length (get_or (frames_of finish frame hop xs) k []) ≡ min frame (length xs - k * hop)
  frame_length k xs l = ap length (frame_at_lem k xs l) ∙ length-take frame (drop (k * hop) xs) ∙ ap (min frame) (length-drop (k * hop) xs)

  -- and has a value at least
  pub frame_filled : (k : ℕ) (xs : List Float) → 1 ≤ frame → k < length (frames_of finish frame hop xs) → 1 ≤ length (get_or (frames_of finish frame hop xs) k [])
  frame_filled k xs f l = let e = frame_length k xs l in let i = (frame_starts k xs l).0 in omega arith

-- ---- how many frames there are: a call that takes whole frames only, and one that takes every start
module _ (frame hop k : ℕ) (xs : List Float) (h : 1 ≤ hop) where
  -- a start with a whole frame from it on
  pub whole_taken : 1 ≤ frame → k * hop + frame ≤ length xs → k < length (frames_of false frame hop xs)
  unfolding taken
  whole_taken f l = frame_reached false frame hop h k xs (omega arith) (le-leb frame (length xs - k * hop) (omega arith))

  -- a start with less
  pub whole_left : length xs < k * hop + frame → length (frames_of false frame hop xs) ≤ k
  whole_left l = elim (side k (length (frames_of false frame hop xs))) [
    | inl m ↦ let s = frame_starts false frame hop h k xs m in absurd (omega (arith, s.0, frame_of_taken frame (length xs - k * hop) s.1))
    | inr m ↦ m
  ]

  -- a start with a value left
  pub flush_taken : k * hop < length xs → k < length (frames_of true frame hop xs)
  unfolding taken
  flush_taken l = frame_reached true frame hop h k xs l refl

  -- a start past the values
  pub flush_left : length xs ≤ k * hop → length (frames_of true frame hop xs) ≤ k
  flush_left l = elim (side k (length (frames_of true frame hop xs))) [
    | inl m ↦ absurd (omega (arith, (frame_starts true frame hop h k xs m).0))
    | inr m ↦ m
  ]

-- ---- what is used up, and what stays
-- whole frames leave less than a frame
pub whole_rest : (frame hop : ℕ) (xs : List Float) → 1 ≤ hop → hop ≤ frame → let n = length (frames_of false frame hop xs) in (n * hop ≤ length xs) × (length xs < n * hop + frame)
whole_rest frame hop xs h g =
    let n = length (frames_of false frame hop xs) in (
      go n (λ k l. elim (side (length xs) (k * hop + frame)) [ inl m ↦ absurd (omega (arith, whole_left frame hop k xs h m)) | inr m ↦ m ]),
      elim (side (length xs) (n * hop + frame)) [ inl m ↦ m | inr m ↦ absurd (omega (arith, whole_taken frame hop n xs h (omega arith) m)) ],
    )
  where
    go : (n : ℕ) → ((k : ℕ) → k < n → k * hop + frame ≤ length xs) → n * hop ≤ length xs
    go zero f = omega arith
    go (suc n) f = let l = f n (omega arith) in let e = suc-mul n hop in omega arith

module _ (finish : Bool) (window : List Float) (hop : ℕ) (xs : List Float) where
  -- as many energies as frames
  pub energies_length : length (energies_of finish window hop xs) ≡ length (frames_of finish (length window) hop xs)
  unfolding energies_of
  energies_length = length_map (energy_of window) (frames_of finish (length window) hop xs)

  -- no more is used up than there is
  pub consumed_le : (framed_of finish window hop xs).consumed ≤ length xs
  unfolding framed_of consumed_of
  consumed_le = go finish
    where
      go : (b : Bool) → cond b (length xs) (min (length (frames_of finish (length window) hop xs) * hop) (length xs)) ≤ length xs
      go true = omega arith
      go false = omega arith

  -- the rest stays
  pub carry_length : length (carry_of finish window hop xs) ≡ length xs - (framed_of finish window hop xs).consumed
  unfolding carry_of
  carry_length = length-drop (framed_of finish window hop xs).consumed xs

-- a flush leaves nothing
pub carry_flushed : (window : List Float) (hop : ℕ) (xs : List Float) → carry_of true window hop xs ≡ []
unfolding carry_of framed_of consumed_of
carry_flushed window hop xs = drop-length xs

module _ (window : List Float) (hop : ℕ) (xs : List Float) (h : 1 ≤ hop) (g : hop ≤ length window) where
  -- whole frames use up a hop each
  pub whole_consumed : (framed_of false window hop xs).consumed ≡ (framed_of false window hop xs).frames * hop
  unfolding framed_of consumed_of
  whole_consumed = min-eq_left (whole_rest (length window) hop xs h g).0

  -- and less than a frame stays
  pub carry_short : length (carry_of false window hop xs) < length window
  unfolding framed_of
  carry_short =
      let r = whole_rest (length window) hop xs h g in
      omega (arith, carry_length false window hop xs, whole_consumed, r.0, r.1)

-- ---- cutting
-- a whole frame is taken by every call
taken_whole : (finish : Bool) (frame n : ℕ) → taken false frame n ≡ true → taken finish frame n ≡ true
unfolding taken
taken_whole true frame n t = refl
taken_whole false frame n t = t

module _ (frame hop : ℕ) (h : 1 ≤ hop) (g : hop ≤ frame) (finish : Bool) where
  abbrev rest : List Float → List Float
  rest xs = drop (length (frames_of false frame hop xs) * hop) xs

  abbrev Cut : List Float → List Float → Type 0
  Cut xs ys = frames_of finish frame hop (xs ++ ys) ≡ frames_of false frame hop xs ++ frames_of finish frame hop (rest xs ++ ys)

  cut_none : (ys : List Float) → Cut [] ys
  unfolding frames_of frames_from
  cut_none ys = rw (drop-nil (0 * hop))

  cut_step : (x : Float) (xs ys : List Float) (b : Bool) → taken false frame (suc (length xs)) ≡ b → Cut (drop hop (x ∷ xs)) ys → Cut (x ∷ xs) ys
  cut_step x xs ys false e i = rw (frames_none false frame hop x xs e, zero-mul hop)
  cut_step x xs ys true e i =
      let l = length-append xs ys in
      let d = drop hop (x ∷ xs) in
      let n = length (frames_of false frame hop d) in
      let room = frame_of_taken frame (suc (length xs)) e in
      let longer = taken_whole finish frame (suc (length (xs ++ ys))) (taken_more false frame _ _ e (omega arith)) in
      let k : hop + n * hop ≡ suc n * hop = let m = suc-mul n hop in omega arith in
      let left = drop-drop (n * hop) hop (x ∷ xs) ∙ ap (λ (i : ℕ). drop i (x ∷ xs)) k in
      frames_next finish frame hop x (xs ++ ys) h longer
      ∙ ap₂ (λ (f : List Float) (fs : List (List Float)). f ∷ fs) (take-append-le frame (x ∷ xs) ys room) (ap (frames_of finish frame hop) (drop-append-le hop (x ∷ xs) ys (omega arith)) ∙ i)
      ∙ rw (frames_next false frame hop x xs h e) (ap (λ (zs : List Float). take frame (x ∷ xs) ∷ (frames_of false frame hop d ++ frames_of finish frame hop (zs ++ ys))) left)

  cut_within : (n : ℕ) (xs ys : List Float) → length xs ≤ n → Cut xs ys
  cut_within zero [] ys l = cut_none ys
  cut_within zero (x ∷ xs) ys l = absurd (omega arith)
  cut_within (suc n) [] ys l = cut_none ys
  cut_within (suc n) (x ∷ xs) ys l =
      let m = length-drop hop (x ∷ xs) in
      cut_step x xs ys (taken false frame (suc (length xs))) refl (cut_within n (drop hop (x ∷ xs)) ys (omega arith))

  -- values that go on have the whole frames of the first part, and then those of what it leaves and the rest
  pub frames_append : (xs ys : List Float)
      → frames_of finish frame hop (xs ++ ys) ≡ frames_of false frame hop xs ++ frames_of finish frame hop (drop (length (frames_of false frame hop xs) * hop) xs ++ ys)
  frames_append xs ys = cut_within (length xs) xs ys (omega arith)

module _ (window : List Float) (hop : ℕ) (h : 1 ≤ hop) (g : hop ≤ length window) where
  -- the carry begins at the first start that is not taken
  pub carry_is : (xs : List Float) → carry_of false window hop xs ≡ drop (length (frames_of false (length window) hop xs) * hop) xs
  unfolding carry_of framed_of
  carry_is xs = ap (λ (n : ℕ). drop n xs) (whole_consumed window hop xs h g)

  -- a cut does not show in the energies, the carry handed on
  pub energies_append : (finish : Bool) (xs ys : List Float) → energies_of finish window hop (xs ++ ys) ≡ energies_of false window hop xs ++ energies_of finish window hop (carry_of false window hop xs ++ ys)
  unfolding energies_of
  energies_append finish xs ys =
      rw (carry_is xs)
      (ap (map (energy_of window)) (frames_append (length window) hop h g finish xs ys)
      ∙ map_append (energy_of window) (frames_of false (length window) hop xs) (frames_of finish (length window) hop (drop (length (frames_of false (length window) hop xs) * hop) xs ++ ys)))

  -- nor in the carry
  pub carry_append : (xs ys : List Float) → carry_of false window hop (xs ++ ys) ≡ carry_of false window hop (carry_of false window hop xs ++ ys)
  carry_append xs ys =
      let F = frames_of false (length window) hop in
      let n = length (F xs) in
      let r = drop (n * hop) xs ++ ys in
      let e = ap length (frames_append (length window) hop h g false xs ys) ∙ length-append (F xs) (F r) in
      carry_is (xs ++ ys)
      ∙ ap (λ (i : ℕ). drop i (xs ++ ys)) (ap (λ (i : ℕ). i * hop) e ∙ add-mul n (length (F r)) hop)
      ∙ sym (drop-drop (length (F r) * hop) (n * hop) (xs ++ ys))
      ∙ ap (drop (length (F r) * hop)) (drop-append-le (n * hop) xs ys (whole_rest (length window) hop xs h g).0)
      ∙ sym (carry_is r)
      ∙ ap (λ (zs : List Float). carry_of false window hop (zs ++ ys)) (sym (carry_is xs))
