-- Bounds of pre-emphasised values and of energies, by which the fused product and the root are numbers in the domain. Assumes nothing.
use mathlib.Core.Path.{◌≡◌, sym, ap, subst, ◌∙◌}
use mathlib.Core.Bool.{Bool, true, false, cond}
use mathlib.Core.List.{List, [], ◌∷◌, map}
use Prim.Native.Nat.{ℕ, zero, suc, ◌+◌, ◌-◌, ◌*◌, ◌≤◌}
use native.Mathlib.Nat.{zero-mul, add-zero}
use native.Mathlib.Omega.{arith}
use lib.Dec.{T, lit≤, lit<}
use lib.IntN.{pos}
use lib.ListN.{length, take, length-take}
use lib.Ieee.{Float, nan, inf, fin, binary32, fits, up, down, of_bits, of_int, neg, add, mul, sum, round}
use lib.Ieee.Fits.{div-fits}
use Rattle.lists.specs.Every.{Every}
use Rattle.lists.proofs.Every.{every_take}
use Rattle.float.specs.Fused.{fused_of}
use Rattle.float.specs.Root.{root_of}
use Rattle.float.specs.Numbers.{zero32 as +0}
use Rattle.float.proofs.Align.{sum_minus_zero}
use Rattle.float.proofs.Bounds.{Mag, Low, Yields, held_small, held_scaled, low_wider, mul_weight, square_low, add_low, div_whole_low, fused_weight, root_low, neg_mag, found, found_fits}
use Rattle.vad_frames.specs.Emphasis.{emphasized_of, emphasized, last_of}
use Rattle.vad_frames.specs.Energy.{square_of, squares_from, mean_square_of, energy_of}
use Rattle.vad_frames.specs.Grid.{taken, frames_from, frames_of, energies_of}

-- ---- pre-emphasis
-- of samples of the domain there always is a number, at most twice a sample's limit
pub emphasis_found : (a p x : Float) → Mag a 1 1 → Mag p 65536 1 → Mag x 65536 1 → Yields (fused_of a (neg p) x) (λ v. Mag v 131072 1)
emphasis_found a p x h g i = fused_weight a (neg p) x 65536 65536 (held_small binary32 131072 (lit≤ tt)) h (neg_mag p 65536 1 g) i

module _ (a : Float) (h : Mag a 1 1) where
  -- a block's values
  pub emphasized_mag : (p : Float) (xs : List Float) → Mag p 65536 1 → Every (λ x. Mag x 65536 1) xs → Every (λ y. Mag y 131072 1) (emphasized a p xs)
  unfolding emphasized emphasized_of
  emphasized_mag p [] g i = tt
  emphasized_mag p (x ∷ xs) g i = (found (fused_of a (neg p) x) (λ v. Mag v 131072 1) (emphasis_found a p x h g i.0), emphasized_mag x xs i.0 i.1)

  -- are f32
  pub emphasized_fits : (p : Float) (xs : List Float) → Mag p 65536 1 → Every (λ x. Mag x 65536 1) xs → Every (λ y. T (fits binary32 y)) (emphasized a p xs)
  unfolding emphasized emphasized_of
  emphasized_fits p [] g i = tt
  emphasized_fits p (x ∷ xs) g i = (found_fits (fused_of a (neg p) x) (λ v. Mag v 131072 1) (emphasis_found a p x h g i.0), emphasized_fits x xs i.0 i.1)

-- the sample that is remembered
pub last_mag : (p : Float) (xs : List Float) → Mag p 65536 1 → Every (λ x. Mag x 65536 1) xs → Mag (last_of p xs) 65536 1
unfolding last_of
last_mag p [] g i = g
last_mag p (x ∷ xs) g i = last_mag x xs i.0 i.1

-- ---- one frame
-- a value by its weight, squared
pub windowed_square : (x w : Float) → Mag x 131072 1 → Mag w 1 1 → Low (square_of x w) 17179869184 1
unfolding square_of
windowed_square x w h g =
    square_low binary32 (mul binary32 x w) 131072 1 17179869184 1 (lit< tt) (lit< tt) (held_scaled 1 34 (lit< tt) (lit≤ tt)) (mul_weight binary32 x w 131072 1 (lit< tt) (held_small binary32 131072 (lit≤ tt)) h g) (lit≤ tt)

-- k squares before, each at most 2 ^ 34
squares_low : (xs ws : List Float) (t : Float) (k : ℕ) → k + length xs ≤ 2048 → length xs ≤ length ws → Every (λ x. Mag x 131072 1) xs → Every (λ w. Mag w 1 1) ws
    → Low t (k * 17179869184) 1 → Low (squares_from t xs ws) ((k + length xs) * 17179869184) 1
unfolding squares_from
squares_low [] ws t k l m h g i = subst (λ (n : ℕ). Low t (n * 17179869184) 1) (sym (add-zero k)) i
squares_low (x ∷ xs) [] t k l m h g i = absurd (omega arith)
squares_low (x ∷ xs) (w ∷ ws) t k l m h g i =
    let next : Low (add binary32 t (square_of x w)) ((k + 1) * 17179869184) 1 =
    add_low binary32 t (square_of x w) (k * 17179869184) 1 17179869184 1 ((k + 1) * 17179869184) 1 (lit< tt) (lit< tt) (lit< tt) ((k + 1) * 17179869184) 1 (held_scaled (k + 1) 34 (omega arith) (lit≤ tt)) i (windowed_square x w h.0 g.0) (omega arith) in
    let count : k + 1 + length xs ≡ k + suc (length xs) = omega arith in
    subst (λ (n : ℕ). Low (squares_from (add binary32 t (square_of x w)) xs ws) (n * 17179869184) 1) count (squares_low xs ws (add binary32 t (square_of x w)) (k + 1) (omega arith) (omega arith) h.1 g.1 next)

module _ (window : List Float) (w : Every (λ v. Mag v 1 1) window) (l : 1 ≤ length window) (m : length window ≤ 2048) where
  module _ (frame : List Float) (s : length frame ≤ length window) (h : Every (λ x. Mag x 131072 1) frame) where
    mean_low : Low (mean_square_of window frame) 17179869184 1
    unfolding mean_square_of of_int of_bits
    mean_low =
        let n = length window in
        let total = squares_low frame window (fin false 0 (pos 0)) 0 (omega arith) s h w (omega arith) in
        div_whole_low binary32 (squares_from +0 frame window) (round binary32 false n 1) n 17179869184 1 (omega arith) (lit< tt) (held_scaled 1 34 (lit< tt) (lit≤ tt)) (held_small binary32 n (omega arith))
        (low_wider (squares_from +0 frame window) ((0 + length frame) * 17179869184) 1 (n * 17179869184) 1 (lit< tt) total (omega arith))

    -- of values of the domain there always is a root
    pub root_found : Yields (root_of (mean_square_of window frame)) (λ v. Low v 131072 1)
    unfolding mean_square_of
    root_found =
        root_low (mean_square_of window frame) 17179869184 1 131072 1 (lit< tt) (lit< tt) (div-fits binary32 (squares_from +0 frame window) (of_int binary32 (pos (length window)))) (held_small binary32 131072 (lit≤ tt)) mean_low (lit≤ tt)

    -- the energy is from 0 to 131,072
    pub energy_low : Low (energy_of window frame) 131072 1
    unfolding energy_of
    energy_low = found (root_of (mean_square_of window frame)) (λ v. Low v 131072 1) root_found

    -- and an f32
    pub energy_fits : T (fits binary32 (energy_of window frame))
    unfolding energy_of
    energy_fits = found_fits (root_of (mean_square_of window frame)) (λ v. Low v 131072 1) root_found

  -- ---- the frames of a call
  module _ (P : Float → Type 0) (f : (frame : List Float) → length frame ≤ length window → Every (λ x. Mag x 131072 1) frame → P (energy_of window frame)) (finish : Bool) (hop : ℕ) where
    each_from : (j : ℕ) (xs : List Float) → Every (λ x. Mag x 131072 1) xs → Every P (map (energy_of window) (frames_from finish (length window) hop j xs))
    unfolding frames_from
    each_from j [] h = tt
    each_from (suc j) (x ∷ xs) h = each_from j xs h.1
    each_from zero (x ∷ xs) h = go (taken finish (length window) (suc (length xs))) (each_from (hop - 1) xs h.1)
      where
        go : (b : Bool) → Every P (map (energy_of window) (frames_from finish (length window) hop (hop - 1) xs))
            → Every P (map (energy_of window) (cond b (take (length window) (x ∷ xs) ∷ frames_from finish (length window) hop (hop - 1) xs) []))
        go false i = tt
        go true i = (let k = length-take (length window) (x ∷ xs) in f (take (length window) (x ∷ xs)) (omega arith) (every_take (λ x. Mag x 131072 1) (length window) (x ∷ xs) h), i)

  -- a call's energies
  pub energies_low : (finish : Bool) (hop : ℕ) (xs : List Float) → Every (λ x. Mag x 131072 1) xs → Every (λ e. Low e 131072 1) (energies_of finish window hop xs)
  unfolding energies_of frames_of
  energies_low finish hop xs h = each_from (λ e. Low e 131072 1) energy_low finish hop 0 xs h

  -- are f32
  pub energies_fit : (finish : Bool) (hop : ℕ) (xs : List Float) → Every (λ x. Mag x 131072 1) xs → Every (λ e. T (fits binary32 e)) (energies_of finish window hop xs)
  unfolding energies_of frames_of
  energies_fit finish hop xs h = each_from (λ e. T (fits binary32 e)) energy_fits finish hop 0 xs h

-- ---- the zero that a sum of squares begins from
-- −0 and +0 and a square give the same
zero_add_low : (y : Float) (n d : ℕ) → Low y n d → add binary32 (neg +0) y ≡ add binary32 +0 y
unfolding add neg of_bits
zero_add_low nan n d h = absurd h
zero_add_low (inf s) n d h = absurd h
zero_add_low (fin true m e) n d h = absurd h
zero_add_low (fin false m e) n d h =
    let begun : Bool → ℕ → Float = λ t k. sum binary32 t k false (m * up e * 1) (1 * down e) in
    ap (begun true) (zero-mul (down e)) ∙ sum_minus_zero binary32 (m * up e * 1) (1 * down e) ∙ sym (ap (begun false) (zero-mul (down e)))

-- so the Rust's −0 gives the sum that +0 gives
pub either_zero : (x w : Float) (xs ws : List Float) (n d : ℕ) → Low (square_of x w) n d → squares_from (neg +0) (x ∷ xs) (w ∷ ws) ≡ squares_from +0 (x ∷ xs) (w ∷ ws)
unfolding squares_from
either_zero x w xs ws n d h = ap (λ (t : Float). squares_from t xs ws) (zero_add_low (square_of x w) n d h)
