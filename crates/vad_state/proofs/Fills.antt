-- Numbers put into an array, and zeros past them. Assumes nothing.
use mathlib.Core.Path.{◌≡◌, refl, sym, ap, ◌∙◌}
use mathlib.Core.List.{List, [], ◌∷◌, ◌++◌, append_assoc, append-nil}
use Prim.Native.Nat.{ℕ, zero, suc, ◌+◌, ◌-◌, ◌≤◌}
use native.Mathlib.Omega.{arith}
use lib.ListN.{length, take, drop, replicate, drop_of_length-le, length-append, length-drop, length-replicate}
use lib.Seq.{sets, sets-eq, take-append_seam, drop-append_seam, drop-drop, drop-append-le, take_at, drop_at, take-length, drop-length, length-sets, length-take-le}
use lib.Ieee.{Float}
use Rattle.lists.proofs.Stores.{sets_all}
use Rattle.float.specs.Numbers.{zero32}
use Rattle.vad_state.specs.Arrays.{filled_of}

drop_replicate : (i n : ℕ) (x : Float) → drop i (replicate n x) ≡ replicate (n - i) x
drop_replicate zero n x = let e : n ≡ n - 0 = omega arith in ap (λ (k : ℕ). replicate k x) e
drop_replicate (suc i) zero x = let e : 0 ≡ 0 - suc i = omega arith in ap (λ (k : ℕ). replicate k x) e
drop_replicate (suc i) (suc n) x = let e : n - i ≡ suc n - suc i = omega arith in drop_replicate i n x ∙ ap (λ (k : ℕ). replicate k x) e

-- zeros stand past the numbers
pub put_filled : (n : ℕ) (xs : List Float) → length xs ≤ n → sets (replicate n zero32) 0 xs ≡ filled_of n xs
unfolding filled_of
put_filled n xs h =
    let long = length-replicate n zero32 in
    sets_all (replicate n zero32) xs (omega arith) ∙ ap (λ (zs : List Float). xs ++ zs) (drop_replicate (length xs) n zero32)

-- an array that is filled to its end
pub filled_whole : (n : ℕ) (xs : List Float) → length xs ≡ n → filled_of n xs ≡ xs
unfolding filled_of
filled_whole n xs h = let e : n - length xs ≡ 0 = omega arith in ap (λ (k : ℕ). xs ++ replicate k zero32) e ∙ append-nil xs

-- what `clear` leaves
pub cleared : (to : List Float) (i : ℕ) → i ≤ length to → sets to i (replicate (length to - i) zero32) ≡ filled_of (length to) (take i to)
unfolding filled_of
cleared to i h =
    let zs = replicate (length to - i) zero32 in
    let many = length-replicate (length to - i) zero32 in
    let first : i ≡ length (take i to) = sym (length-take-le i to h) in
    let over : length to ≤ i + length zs = omega arith in
    let none : drop (i + length zs) to ≡ [] = drop_of_length-le to over in
    sets-eq zs to i (omega arith)
    ∙ ap (λ (ys : List Float). (take i to ++ zs) ++ ys) none
    ∙ append-nil (take i to ++ zs)
    ∙ ap (λ (k : ℕ). take i to ++ replicate (length to - k) zero32) first

-- ---- parts

-- as many as a part has, taken again
pub take_again : (n : ℕ) (xs : List Float) → take (length (take n xs)) xs ≡ take n xs
take_again zero xs = refl
take_again (suc n) [] = refl
take_again (suc n) (x ∷ xs) = ap (λ (ys : List Float). x ∷ ys) (take_again n xs)

-- what was put, read again
pub put_back : (to xs : List Float) (n : ℕ) → length xs ≡ n → n ≤ length to → take n (sets to 0 xs) ≡ xs
put_back to xs n h r = ap (take n) (sets_all to xs (omega arith)) ∙ take_at xs (drop (length xs) to) n h

-- numbers put over others, and what stands past them cleared
pub put_cleared : (n : ℕ) (to xs whole : List Float) → length to ≡ n → length xs ≤ n → whole ≡ sets to 0 xs → filled_of (length whole) (take (length xs) whole) ≡ filled_of n xs
put_cleared n to xs whole long h w =
    let count : length whole ≡ n = ap length w ∙ length-sets to 0 xs ∙ long in
    ap (λ (k : ℕ). filled_of k (take (length xs) whole)) count
    ∙ ap (filled_of n) (ap (take (length xs)) w ∙ put_back to xs (length xs) refl (omega arith))

-- and a part of it
pub put_rest : (to xs : List Float) (i n : ℕ) → length xs ≡ n → n ≤ length to → i ≤ n → take (n - i) (drop i (sets to 0 xs)) ≡ drop i xs
put_rest to xs i n h r l =
    let long = length-drop i xs in
    ap (λ (ys : List Float). take (n - i) (drop i ys)) (sets_all to xs (omega arith))
    ∙ ap (take (n - i)) (drop-append-le i xs (drop (length xs) to) (omega arith))
    ∙ take_at (drop i xs) (drop (length xs) to) (n - i) (omega arith)

-- numbers put at the start, and more into the lent part after them
pub put_on : (to a b whole last : List Float) (n : ℕ) → length a ≡ n → n + length b ≤ length to → whole ≡ sets to 0 a → last ≡ sets (take (length whole - n) (drop n whole)) 0 b
    → take n whole ++ (last ++ drop (length whole - n) (drop n whole)) ≡ sets to 0 (a ++ b)
put_on to a b whole last n h room w l =
    let rest = drop n to in
    let long = length-drop n to in
    let spread : whole ≡ a ++ rest = w ∙ sets_all to a (omega arith) ∙ ap (λ (k : ℕ). a ++ drop k to) h in
    let head : take n whole ≡ a = ap (take n) spread ∙ take_at a rest n h in
    let tail : drop n whole ≡ rest = ap (drop n) spread ∙ drop_at a rest n h in
    let count : length whole - n ≡ length rest = ap (λ (k : ℕ). k - n) (ap length w ∙ length-sets to 0 a) ∙ sym long in
    let lent : take (length whole - n) (drop n whole) ≡ rest = ap (take (length whole - n)) tail ∙ ap (λ (k : ℕ). take k rest) count ∙ take-length rest in
    let none : drop (length whole - n) (drop n whole) ≡ [] = ap (drop (length whole - n)) tail ∙ ap (λ (k : ℕ). drop k rest) count ∙ drop-length rest in
    let more : last ≡ b ++ drop (length b) rest = l ∙ ap (λ (r : List Float). sets r 0 b) lent ∙ sets_all rest b (omega arith) in
    let both = length-append a b in
    let far : drop (length b) rest ≡ drop (length (a ++ b)) to = drop-drop (length b) n to ∙ (let e : n + length b ≡ length (a ++ b) = omega arith in ap (λ (k : ℕ). drop k to) e) in
    ap (λ (ys : List Float). take n whole ++ (last ++ ys)) none
    ∙ ap (λ (ys : List Float). take n whole ++ ys) (append-nil last ∙ more ∙ ap (λ (ys : List Float). b ++ ys) far)
    ∙ ap (λ (ys : List Float). ys ++ (b ++ drop (length (a ++ b)) to)) head
    ∙ sym (append_assoc a b (drop (length (a ++ b)) to))
    ∙ sym (sets_all to (a ++ b) (omega arith))

-- ---- an array that holds some numbers and zeros past them
module _ (n : ℕ) (xs : List Float) where
  -- the numbers are read back
  pub filled_used : take (length xs) (filled_of n xs) ≡ xs
  unfolding filled_of
  filled_used = take-append_seam xs (replicate (n - length xs) zero32)

  pub filled_take : (k : ℕ) → length xs ≡ k → take k (filled_of n xs) ≡ xs
  filled_take k e = ap (λ (i : ℕ). take i (filled_of n xs)) (sym e) ∙ filled_used

  -- zeros stand past them
  pub filled_rest : drop (length xs) (filled_of n xs) ≡ replicate (n - length xs) zero32
  unfolding filled_of
  filled_rest = drop-append_seam xs (replicate (n - length xs) zero32)

  -- and the array has its length
  pub filled_length : length xs ≤ n → length (filled_of n xs) ≡ n
  unfolding filled_of
  filled_length h = let z = length-append xs (replicate (n - length xs) zero32) in let m = length-replicate (n - length xs) zero32 in omega arith
