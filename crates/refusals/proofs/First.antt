-- The first test that holds: how a chain of tests in code goes along the list, and what its answer says. Assumes nothing.
use mathlib.Core.Path.{◌≡◌, refl, sym, ap, ◌∙◌}
use mathlib.Core.Bool.{Bool, true, false, not, cond, true≢false}
use mathlib.Core.List.{List, [], ◌∷◌, ◌++◌}
use Prim.Native.Nat.{ℕ}
use borrow.Author.Tests.{eqb-false, ne_eqb}
use lib.Dec.{eqb}
use lib.ListN.{drop}
use Rattle.std.specs.Prelude.{Result, Ok, Err, ⊤, is_ok, is_err}
use Rattle.refusals.specs.Refusals.{number, number_in, Case, refusing, first_of}
use Rattle.refusals.specs.declared.Refusal.{Refusal}
use Rattle.refusals.specs.declared.Refusal.TheVariants as why

-- ---- no number is 0

pub number_some : (r : Refusal) → number r ≡ 0 → ⊥
number_some why.Rate e = eqb-false 1 0 refl e
number_some why.FrameDuration e = eqb-false 2 0 refl e
number_some why.FrameOverlap e = eqb-false 3 0 refl e
number_some why.PreEmphasis e = eqb-false 4 0 refl e
number_some why.ReleaseRatio e = eqb-false 5 0 refl e
number_some why.ActivationRatio e = eqb-false 6 0 refl e
number_some why.MinSpeechEnergy e = eqb-false 7 0 refl e
number_some why.NoiseSmoothing e = eqb-false 8 0 refl e
number_some why.EnergyFloor e = eqb-false 9 0 refl e
number_some why.MinSpeechFrames e = eqb-false 10 0 refl e
number_some why.FrameLength e = eqb-false 11 0 refl e
number_some why.Warmup e = eqb-false 12 0 refl e
number_some why.Limits e = eqb-false 13 0 refl e
number_some why.Window e = eqb-false 14 0 refl e
number_some why.Block e = eqb-false 15 0 refl e
number_some (why.Sample place) e = eqb-false 16 0 refl e
number_some why.Received e = eqb-false 17 0 refl e
number_some (why.Rows needed) e = eqb-false 18 0 refl e
number_some why.State e = eqb-false 19 0 refl e
number_some why.FilterRate e = eqb-false 20 0 refl e
number_some why.FilterCutoff e = eqb-false 21 0 refl e
number_some why.FilterHalfRate e = eqb-false 22 0 refl e
number_some why.FilterAlpha e = eqb-false 23 0 refl e
number_some why.FilterCoefficient e = eqb-false 24 0 refl e
number_some why.FilterOutput e = eqb-false 25 0 refl e
number_some (why.FilterOverflow place) e = eqb-false 26 0 refl e
number_some why.FilterState e = eqb-false 27 0 refl e

-- so an answer's number 0 says that nothing was refused
pub none_refused : (v : Result ⊤ Refusal) → number_in v ≡ 0 → v ≡ Ok tt
none_refused (Ok x) e = refl
none_refused (Err r) e = absurd (number_some r e)

pub number_tells : {A : Type 0} (v : Result A Refusal) → eqb (number_in v) 0 ≡ not (is_err v)
number_tells (Ok x) = refl
number_tells (Err r) = ne_eqb (number r) 0 (number_some r)

pub ok_tells : {A : Type 0} (v : Result A Refusal) → eqb (number_in v) 0 ≡ is_ok v
ok_tells (Ok x) = refl
ok_tells (Err r) = ne_eqb (number r) 0 (number_some r)

-- an answer is no refusal and a refusal at once
pub ok_or_err : {A : Type 0} {x : A} {r : Refusal} → Ok x ≡ Err r → ⊥
ok_or_err {A} {x} {r} e = number_some r (sym (ap (λ (v : Result A Refusal). number_in v) e))

-- ---- along the list

-- what is left of the list from its n-th test on
abbrev pub from : List Case → ℕ → Result ⊤ Refusal
from cs n = first_of (drop n cs)

module _ (c : Case) where
  pub here : (cs : List Case) → c.refused ≡ true → first_of (c ∷ cs) ≡ Err c.by
  unfolding first_of
  here cs h = rw h

  pub skip : (cs : List Case) → c.refused ≡ false → first_of (c ∷ cs) ≡ first_of cs
  unfolding first_of
  skip cs h = rw h

  pub last : c.refused ≡ false → first_of (c ∷ []) ≡ Ok tt
  unfolding first_of
  last h = rw h

-- a callee's answer r is the test s, and the code looked at r, or at its opposite
pub told : {r s v : Bool} → r ≡ s → r ≡ v → s ≡ v
told e h = sym e ∙ h

pub denied : {r s v : Bool} → r ≡ s → r ≡ v → not s ≡ not v
denied e h = ap not (sym e ∙ h)

-- ---- what the answer says

-- a fact of the refusal that decides: of each one whose test holds and those before it do not, and of none
abbrev pub Deciding : (Result ⊤ Refusal → Type 0) → List Case → Type 0
Deciding P [] = P (Ok tt)
Deciding P (c ∷ cs) = (c.refused ≡ true → P (Err c.by)) × (c.refused ≡ false → Deciding P cs)

pub decided : (P : Result ⊤ Refusal → Type 0) (cs : List Case) → Deciding P cs → P (first_of cs)
unfolding first_of
decided P [] h = h
decided P (c ∷ cs) h = go c.refused h.0 (λ e. decided P cs (h.1 e))
  where
    go : (t : Bool) → (t ≡ true → P (Err c.by)) → (t ≡ false → P (first_of cs)) → P (cond t (Err c.by) (first_of cs))
    go true f g = f refl
    go false f g = g refl

-- no case has number n
abbrev pub without : ℕ → List Case → Bool
without n [] = true
without n (c ∷ cs) = cond (eqb (number c.by) n) false (without n cs)

-- a number that none has is not answered; 0 is answered where nothing is refused
pub never : (n : ℕ) (cs : List Case) → without n cs ≡ true → (n ≡ 0 → ⊥) → number_in (first_of cs) ≡ n → ⊥
unfolding first_of
never n [] w z e = z (sym e)
never n (c ∷ cs) w z e = go c.refused (eqb (number c.by) n) refl w e (λ v. never n cs v z)
  where
    go : (t k : Bool) → eqb (number c.by) n ≡ k → cond k false (without n cs) ≡ true → number_in (cond t (Err c.by) (first_of cs)) ≡ n
        → (without n cs ≡ true → number_in (first_of cs) ≡ n → ⊥) → ⊥
    go t true k w e later = true≢false (sym w)
    go true false k w e later = eqb-false _ n k e
    go false false k w e later = later w e

-- where nothing is refused, each test does not hold
module _ (c : Case) (cs : List Case) (e : first_of (c ∷ cs) ≡ Ok tt) where
  pub passed : (c.refused ≡ false) × (first_of cs ≡ Ok tt)
  unfolding first_of
  passed = go c.refused refl e
    where
      go : (t : Bool) → c.refused ≡ t → cond t (Err c.by) (first_of cs) ≡ Ok tt → (c.refused ≡ false) × (first_of cs ≡ Ok tt)
      go true r e = absurd (ok_or_err (sym e))
      go false r e = (r, e)

pub none_held : (cs : List Case) → number_in (first_of cs) ≡ 0 → first_of cs ≡ Ok tt
none_held cs = none_refused (first_of cs)

-- ---- two lists one after the other

pub first_found : {r : Refusal} (xs ys : List Case) → first_of xs ≡ Err r → first_of (xs ++ ys) ≡ Err r
unfolding first_of
first_found [] ys h = absurd (ok_or_err h)
first_found {r} (x ∷ xs) ys h = go x.refused h (first_found xs ys)
  where
    go : (t : Bool) → cond t (Err x.by) (first_of xs) ≡ Err r → (first_of xs ≡ Err r → first_of (xs ++ ys) ≡ Err r) → cond t (Err x.by) (first_of (xs ++ ys)) ≡ Err r
    go true h later = h
    go false h later = later h

pub first_none : (xs ys : List Case) → first_of xs ≡ Ok tt → first_of (xs ++ ys) ≡ first_of ys
first_none [] ys e = refl
first_none (x ∷ xs) ys e = let p = passed x xs e in skip x (xs ++ ys) p.0 ∙ first_none xs ys p.1

-- the last of a list where none holds, and any other in its place that does not hold either
pub last_case : (cs : List Case) (c : Case) → first_of (cs ++ (c ∷ [])) ≡ Ok tt → (c.refused ≡ false) × ((d : Case) → d.refused ≡ false → first_of (cs ++ (d ∷ [])) ≡ Ok tt)
last_case [] c e = ((passed c [] e).0, last)
last_case (x ∷ cs) c e =
    let p = passed x (cs ++ (c ∷ [])) e in
    let l = last_case cs c p.1 in
    (l.0, λ d h. skip x (cs ++ (d ∷ [])) p.0 ∙ l.1 d h)

-- ---- computed: the first that holds, with what it carries, whatever the order of the numbers; and none

second_decides : first_of (refusing why.FilterState false ∷ refusing (why.Sample 3) true ∷ refusing why.Block true ∷ []) ≡ Err (why.Sample 3)
unfolding first_of
second_decides = refl

none_decides : first_of (refusing why.FilterState false ∷ refusing (why.Sample 3) false ∷ []) ≡ Ok tt
unfolding first_of
none_decides = refl
