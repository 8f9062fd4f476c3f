-- Laws of a fact of every element, and of `map` over a list in parts. Assumes nothing.
use mathlib.Core.Path.{◌≡◌, refl, ap}
use mathlib.Core.List.{List, [], ◌∷◌, ◌++◌, map}
use Prim.Native.Nat.{ℕ, zero, suc, ◌<◌}
use native.Mathlib.Nat.{not-suc-le-zero, le_of_suc-le-suc}
use lib.ListN.{length, take, drop, get_or}
use Rattle.lists.specs.Every.{Every}

module _ {A : Type 0} where
  module _ (P : A → Type 0) where
    -- of two lists in a row
    pub every_append : (xs ys : List A) → Every P xs → Every P ys → Every P (xs ++ ys)
    every_append [] ys h g = g
    every_append (x ∷ xs) ys h g = (h.0, every_append xs ys h.1 g)

    -- of a part
    pub every_take : (n : ℕ) (xs : List A) → Every P xs → Every P (take n xs)
    every_take zero xs h = tt
    every_take (suc n) [] h = tt
    every_take (suc n) (x ∷ xs) h = (h.0, every_take n xs h.1)

    pub every_drop : (n : ℕ) (xs : List A) → Every P xs → Every P (drop n xs)
    every_drop zero xs h = h
    every_drop (suc n) [] h = h
    every_drop (suc n) (x ∷ xs) h = every_drop n xs h.1

    -- of one
    pub every_at : (i : ℕ) (d : A) (xs : List A) → Every P xs → i < length xs → P (get_or xs i d)
    every_at i d [] h l = absurd (not-suc-le-zero l)
    every_at zero d (x ∷ xs) h l = h.0
    every_at (suc i) d (x ∷ xs) h l = every_at i d xs h.1 (le_of_suc-le-suc l)

  -- a weaker fact
  pub every_map : (P Q : A → Type 0) → ((x : A) → P x → Q x) → (xs : List A) → Every P xs → Every Q xs
  every_map P Q f [] h = tt
  every_map P Q f (x ∷ xs) h = (f x h.0, every_map P Q f xs h.1)

  -- two facts
  pub every_both : (P Q : A → Type 0) (xs : List A) → Every P xs → Every Q xs → Every (λ x. P x × Q x) xs
  every_both P Q [] h g = tt
  every_both P Q (x ∷ xs) h g = ((h.0, g.0), every_both P Q xs h.1 g.1)

  -- a fact of everything
  pub every_all : (P : A → Type 0) → ((x : A) → P x) → (xs : List A) → Every P xs
  every_all P f [] = tt
  every_all P f (x ∷ xs) = (f x, every_all P f xs)

module _ {A B : Type 0} (f : A → B) where
  pub length_map : (xs : List A) → length (map f xs) ≡ length xs
  length_map [] = refl
  length_map (x ∷ xs) = ap suc (length_map xs)

  pub map_append : (xs ys : List A) → map f (xs ++ ys) ≡ map f xs ++ map f ys
  map_append [] ys = refl
  map_append (x ∷ xs) ys = ap (λ (zs : List B). f x ∷ zs) (map_append xs ys)
