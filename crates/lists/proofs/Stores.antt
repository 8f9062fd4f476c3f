-- Stores into a lent slice, one after the other: `sets l i vs` of lib.Seq, for any element. Assumes nothing.
use mathlib.Core.Path.{◌≡◌, sym, ap, ◌∙◌}
use mathlib.Core.List.{List, [], ◌∷◌, ◌++◌, append_assoc}
use Prim.Native.Nat.{ℕ, suc, ◌+◌, ◌-◌, ◌≤◌, ◌<◌}
use native.Mathlib.Nat.{zero-add, add-zero}
use native.Mathlib.Numerals.{add-one}
use native.Mathlib.Omega.{arith}
use lib.ListN.{length, take, drop, get_or, set, replicate, length-set, drop_of_length-le}
use lib.Seq.{sets, sets-eq, drop-cons, drop-set-lt, drop-drop}

module _ {A : Type 0} where
  -- one store, and the rest after it
  pub sets_cons : (l : List A) (i : ℕ) (v : A) (vs : List A) → sets (set l i v) (i + 1) vs ≡ sets l i (v ∷ vs)
  sets_cons l i v vs = rw (add-one i)

  pub sets_append : (l : List A) (i : ℕ) (a b : List A) → sets l i (a ++ b) ≡ sets (sets l i a) (i + length a) b
  sets_append l i [] b = rw (add-zero i)
  sets_append l i (x ∷ a) b = let e : i + suc (length a) ≡ suc i + length a = omega arith in rw e (sets_append (set l i x) (suc i) a b)

  -- from the slice's start
  pub sets_all : (l vs : List A) → length vs ≤ length l → sets l 0 vs ≡ vs ++ drop (length vs) l
  sets_all l vs h = rw (sets-eq vs l 0 (omega arith), zero-add (length vs))

  -- what a part's own store leaves of the whole
  pub sets_mid : (l vs ws : List A) (i k : ℕ) → i + length vs ≤ length l → k ≡ length vs → ws ≡ vs → take i l ++ (ws ++ drop k (drop i l)) ≡ sets l i vs
  sets_mid l vs ws i k h e w =
      let far : drop k (drop i l) ≡ drop (i + length vs) l = drop-drop k i l ∙ ap (λ n. drop (i + n) l) e in
      rw (w, far, sets-eq vs l i h) (sym (append_assoc (take i l) vs (drop (i + length vs) l)))

  -- what a store left does not show where it is written over
  pub sets_over : (l : List A) (i : ℕ) (v : A) (vs : List A) → i < length vs → length vs ≤ length l → sets (set l i v) 0 vs ≡ sets l 0 vs
  sets_over l i v vs h k =
      let e : length (set l i v) ≡ length l = simp length-set in
      sets_all (set l i v) vs (omega arith) ∙ ap (λ (r : List A). vs ++ r) (drop-set-lt (length vs) l i v h) ∙ sym (sets_all l vs k)

  -- one element over and over: a turn of such a loop, and its end
  pub clear_step : (l : List A) (i n : ℕ) (z : A) → i < n → sets (set l i z) (i + 1) (replicate (n - (i + 1)) z) ≡ sets l i (replicate (n - i) z)
  clear_step l i n z h = let e : n - i ≡ suc (n - (i + 1)) = omega arith in sets_cons l i z (replicate (n - (i + 1)) z) ∙ rw e

  pub clear_end : (l : List A) (i n : ℕ) (z : A) → n ≤ i → sets l i (replicate (n - i) z) ≡ l
  clear_end l i n z h = let e : n - i ≡ 0 = omega arith in rw e

  -- a slice copied to a place, one element after the other: a turn of such a loop that stands at place k and element i, and its end
  pub put_step : (l xs : List A) (k i : ℕ) (d : A) → i < length xs → sets (set l k (get_or xs i d)) (k + 1) (drop (i + 1) xs) ≡ sets l k (drop i xs)
  put_step l xs k i d h =
      let next : drop (i + 1) xs ≡ drop (suc i) xs = rw (add-one i) in
      sets_cons l k (get_or xs i d) (drop (i + 1) xs) ∙ rw (next, drop-cons xs i d)

  pub put_end : (l xs : List A) (k i : ℕ) → length xs ≤ i → sets l k (drop i xs) ≡ l
  put_end l xs k i h = rw (drop_of_length-le xs h)

  -- a part from the start, as the code's `&xs[0..n]` reads
  pub from_start : (n : ℕ) (xs : List A) → take (n - 0) xs ≡ take n xs
  from_start n xs = let e : n - 0 ≡ n = omega arith in rw e
