-- What a call answers and leaves in the output, way by way. Assumes nothing.
use Rattle.std.specs.Prelude.{Option, Result, Ok, Err, ⊤}
use mathlib.Core.Path.{◌≡◌, sym, ◌∙◌}
use mathlib.Core.Bool.{Bool, true, false, cond}
use mathlib.Core.List.{List, [], ◌∷◌, ◌++◌, append_assoc}
use Prim.Native.Nat.{ℕ, ◌-◌, ◌≤◌, ◌<◌}
use native.Mathlib.Nat.{zero-add}
use native.Mathlib.Omega.{arith}
use borrow.Author.Tests.{not-false, lt-ltb, le-ltb, ltb-false}
use lib.ListN.{length, drop, replicate, length-append, length-replicate}
use lib.Seq.{sets}
use lib.Ieee.{Float}
use lib.Ieee.Scale.{finite}
use Rattle.refusals.specs.Refusals.{first_of, if_passed}
use Rattle.refusals.specs.declared.Refusal.{Refusal}
use Rattle.refusals.specs.declared.Refusal.TheVariants as why
use Rattle.refusals.proofs.First.{passed}
use Rattle.float.specs.Numbers.{zero32}
use Rattle.ranges.specs.Ranges.{clean_of}
use Rattle.dc_state.specs.Settings.{sound_of}
use Rattle.dc_state.specs.declared.DcHighPassFilter.{DcHighPassFilter}
use Rattle.dc_highpass.specs.Filter.{biased_of, pass_of, results_of, after_of, check_of, stop_of, ran_of, process_of, written_of, output_after}
use Rattle.dc_highpass.specs.declared.VadContext.{VadContext}
use Rattle.dc_highpass.specs.declared.Answered.{Answered}
use Rattle.lists.proofs.Stores.{sets_append, sets_all}

-- what holds of both ways on from a check, holds of the one that is taken
pub either_way : {A : Type 0} (P : A → Type 0) (v : Result ⊤ Refusal) (a : A) (f : Refusal → A) → P a → ((r : Refusal) → P (f r)) → P (if_passed v a f)
either_way P (Ok x) a f h k = h
either_way P (Err r) a f h k = k r

pub results_le : (f : DcHighPassFilter) (xs : List Float) → length (results_of f xs) ≤ length xs
unfolding results_of
results_le f [] = omega arith
results_le f (x ∷ xs) = go (finite (pass_of f x).output) (results_le (pass_of f x).filter xs)
  where
    go : (t : Bool) → length (results_of (pass_of f x).filter xs) ≤ length xs → length (cond t ((pass_of f x).output ∷ results_of (pass_of f x).filter xs) []) ≤ length (x ∷ xs)
    go true ih = omega arith
    go false ih = omega arith

-- what a check that refuses nothing has found
pub record Checked (f : DcHighPassFilter) (xs : List Float) (room : ℕ) : Type 0 where
  pub sound : sound_of f ≡ true
  pub short : length xs ≤ 1024
  pub fits : length xs ≤ room
  pub clean : length xs ≤ clean_of xs

pub checked : (f : DcHighPassFilter) (xs : List Float) (room : ℕ) → check_of f xs room ≡ Ok tt → Checked f xs room
unfolding check_of
checked f xs room h =
    let p27 = passed _ _ h in
    let p15 = passed _ _ p27.1 in
    let p25 = passed _ _ p15.1 in
    let p16 = passed _ _ p25.1 in
    record {
      sound = not-false _ p27.0;
      short = ltb-false _ _ p15.0;
      fits = ltb-false _ _ p25.0;
      clean = ltb-false _ _ p16.0;
    }

-- what `run` and `clear` write one after the other
pub written : (ys : List Float) (n : ℕ) (out : List Float) → length ys ≤ n → n ≤ length out → sets (sets out 0 ys) (length ys) (replicate (n - length ys) zero32) ≡ written_of ys n out
unfolding written_of
written ys n out h k =
    let zs = replicate (n - length ys) zero32 in
    let long : length (ys ++ zs) ≡ n = (let a = length-append ys zs in let b = length-replicate (n - length ys) zero32 in omega arith) in
    let joined : sets out 0 (ys ++ zs) ≡ sets (sets out 0 ys) (length ys) zs = sets_append out 0 ys zs ∙ rw (zero-add (length ys)) in
    sym joined ∙ sets_all out (ys ++ zs) (omega arith) ∙ rw (long, append_assoc ys zs (drop n out))

-- ---- a block that is taken

module _ (given f : DcHighPassFilter) (xs : List Float) (n : ℕ) (c : n ≡ length (results_of f xs)) where
  pub ran_stuck : n < length xs → record { outcome = Err (why.FilterOverflow n); filter = given } ≡ ran_of given f xs
  unfolding ran_of stop_of first_of
  ran_stuck l = rw (← c, lt-ltb n (length xs) l)

  pub ran_done : length xs ≤ n → (h : DcHighPassFilter) → h ≡ after_of f xs → record { outcome = Ok tt; filter = h } ≡ ran_of given f xs
  unfolding ran_of stop_of first_of
  ran_done l h a = rw (← a, ← c, le-ltb n (length xs) l)

  module _ (out mid : List Float) (room : length xs ≤ length out) (ran : mid ≡ sets out 0 (results_of f xs)) where
    pub written_stuck : (last : List Float) → last ≡ sets mid n (replicate (length xs - n) zero32) → last ≡ written_of (results_of f xs) (length xs) out
    written_stuck last e = e ∙ rw (ran, c) (written (results_of f xs) (length xs) out (results_le f xs) room)

    pub written_done : length xs ≤ n → mid ≡ written_of (results_of f xs) (length xs) out
    written_done l = let none : length xs - n ≡ 0 = omega arith in written_stuck mid (rw none)

-- ---- the whole call

module _ (f : DcHighPassFilter) (xs : List Float) (label : Option VadContext) (room : ℕ) where
  pub answer_refused : (r : Refusal) → check_of f xs room ≡ Err r → record { outcome = Err r; filter = f } ≡ process_of f xs label room
  unfolding process_of
  answer_refused r e = rw e

  pub answer_ran : check_of f xs room ≡ Ok tt → (g : DcHighPassFilter) → g ≡ biased_of f xs label → (p : Answered) → p ≡ ran_of f g xs → p ≡ process_of f xs label room
  unfolding process_of
  answer_ran e g b p h = h ∙ rw (e, b)

module _ (f : DcHighPassFilter) (xs : List Float) (label : Option VadContext) (out : List Float) where
  pub output_refused : (r : Refusal) → check_of f xs (length out) ≡ Err r → out ≡ output_after f xs label out
  unfolding output_after
  output_refused r e = rw e

  pub output_ran : check_of f xs (length out) ≡ Ok tt → (g : DcHighPassFilter) → g ≡ biased_of f xs label → (last : List Float) → last ≡ written_of (results_of g xs) (length xs) out → last ≡ output_after f xs label out
  unfolding output_after
  output_ran e g b last h = h ∙ rw (e, b)
