-- What an entry point answers and leaves, whether its state can be read or not, over plain lists. Assumes nothing.
use Rattle.std.specs.Prelude.{Option, Result, Ok, Err, is_ok}
use Rattle.std.specs.Result.{result_unwrap_or}
use mathlib.Core.Path.{◌≡◌, refl, sym, ap, ◌∙◌}
use mathlib.Core.Bool.{Bool, true, false, ◌&&◌, cond}
use mathlib.Core.List.{List, [], ◌∷◌}
use Prim.Native.Nat.{ℕ, ◌≤◌, ◌<◌, ◌^◌}
use native.Mathlib.Omega.{arith}
use lib.Dec.{leb}
use lib.ListN.{length, take, drop}
use lib.Ieee.{Float, of_bits, to_bits, is_nan}
use borrow.Author.Tests.{lt-ltb}
use Rattle.lists.proofs.Tests.{both, either}
use Rattle.refusals.specs.Refusals.{number_in, carries_in, first_of}
use Rattle.refusals.specs.declared.Refusal.{Refusal}
use Rattle.refusals.specs.declared.Refusal.TheVariants as why
use Rattle.float.specs.Numbers.{zero32}
use Rattle.dc_state.specs.Settings.{sound_of}
use Rattle.refusals.specs.Answers.{packed}
use Rattle.dc_state.specs.declared.PreprocessingConfig.{PreprocessingConfig}
use Rattle.dc_state.specs.declared.DcHighPassFilter.{DcHighPassFilter}
use Rattle.dc_highpass.specs.Filter.{fresh_of, nothing_open, check_of, process_of, output_after, reset_of, bias_read}
use Rattle.dc_highpass.specs.declared.VadContext.{VadContext}
use Rattle.dc_highpass.specs.declared.Answered.{Answered}
use Rattle.dc_highpass.proofs.Runs.{nothing_malformed}
use Rattle.dc_door.proofs.Places.{place_small}
use Rattle.dc_door.specs.FilterState.{filter_at, readable, written, word_of}
use Rattle.dc_door.specs.FilterDoor.{five_at, opened_of, process_answer, process_state, process_output, reset_answer, reset_state, bias_answer}
use Rattle.dc_door.specs.Inside.{read_of}

-- a state that is read has room
long_of : (ws : List ℕ) → readable ws ≡ true → leb 25 (length ws) ≡ true
unfolding readable
long_of ws h = (both (leb 25 (length ws)) _ h).0

and_true : (b : Bool) → b && true ≡ b
and_true true = refl
and_true false = refl

packed_none : (n : ℕ) → packed n 0 ≡ n
packed_none n = omega arith

-- the bits of 0
pub packed_zero : (n : ℕ) → n ≡ packed n (word_of zero32)
unfolding of_bits to_bits is_nan
packed_zero n = sym (packed_none n)

-- a reset carries nothing
no_place : (f : DcHighPassFilter) → carries_in (reset_of f).outcome ≡ 0
unfolding reset_of
no_place f = either (λ (q : Answered). carries_in q.outcome ≡ 0) (sound_of f) (record { outcome = Ok tt; filter = fresh_of f.config f.first.coeffs f.second.coeffs }) (record { outcome = Err why.FilterState; filter = f }) refl refl

-- ---- opening

five_drop : (xs : List Float) → five_at (drop 5 xs) 0 ≡ five_at xs 5
five_drop [] = refl
five_drop (a ∷ []) = refl
five_drop (a ∷ b ∷ []) = refl
five_drop (a ∷ b ∷ c ∷ []) = refl
five_drop (a ∷ b ∷ c ∷ d ∷ []) = refl
five_drop (a ∷ b ∷ c ∷ d ∷ e ∷ xs) = refl

-- the first five, and the next
pub first_five : (xs : List Float) → 5 ≤ length xs → take 5 xs ≡ five_at xs 0
first_five [] h = absurd (omega arith)
first_five (a ∷ []) h = absurd (omega arith)
first_five (a ∷ b ∷ []) h = absurd (omega arith)
first_five (a ∷ b ∷ c ∷ []) h = absurd (omega arith)
first_five (a ∷ b ∷ c ∷ d ∷ []) h = absurd (omega arith)
first_five (a ∷ b ∷ c ∷ d ∷ e ∷ xs) h = refl

pub next_five : (xs : List Float) → 5 ≤ length (drop 5 xs) → take 5 (drop 5 xs) ≡ five_at xs 5
next_five xs h = first_five (drop 5 xs) h ∙ five_drop xs

-- too few numbers
pub opened_few : (c : PreprocessingConfig) (xs : List Float) (f : DcHighPassFilter) → f ≡ nothing_open → length xs < 10 → record { outcome = Err why.FilterCoefficient; filter = f } ≡ opened_of c xs
unfolding opened_of
opened_few c xs f e h = rw (e, lt-ltb (length xs) 10 h)

-- ---- reading

module _ (ws : List ℕ) where
  read_good : readable ws ≡ true → filter_at ws ≡ read_of ws
  unfolding read_of
  read_good good = rw good

  read_bad : readable ws ≡ false → nothing_open ≡ read_of ws
  unfolding read_of
  read_bad bad = rw bad

  -- ---- reset, and the bias read

  unread_reset : reset_of nothing_open ≡ record { outcome = Err why.FilterState; filter = nothing_open }
  unfolding reset_of
  unread_reset = rw nothing_malformed

  unread_bias : bias_read nothing_open ≡ Err why.FilterState
  unfolding bias_read
  unread_bias = rw nothing_malformed

  module _ (o : Answered) (e : o ≡ reset_of (read_of ws)) where
    reset_by : (t : Bool) → readable ws ≡ t → o ≡ cond t (reset_of (filter_at ws)) (record { outcome = Err why.FilterState; filter = nothing_open })
    reset_by true h = e ∙ ap reset_of (sym (read_good h))
    reset_by false h = e ∙ ap reset_of (sym (read_bad h)) ∙ unread_reset

    pub reset_carries : carries_in o.outcome ≡ 0
    reset_carries = ap (λ (q : Answered). carries_in q.outcome) e ∙ no_place (read_of ws)

    module _ (a : ℕ) (q : a ≡ packed (number_in o.outcome) (carries_in o.outcome)) (new : List ℕ) (w : new ≡ cond (is_ok o.outcome && leb 25 (length ws)) (written o.filter ws) ws) where
      reset_kept_by : (t : Bool) → readable ws ≡ t → (a ≡ reset_answer ws) × (new ≡ reset_state ws)
      unfolding reset_answer reset_state
      reset_kept_by true h = let f = reset_by true h in (q ∙ rw (h, f, no_place (filter_at ws)) (packed_none (number_in (reset_of (filter_at ws)).outcome)), w ∙ rw (h, f, long_of ws h, and_true (is_ok (reset_of (filter_at ws)).outcome)))
      reset_kept_by false h = let f = reset_by false h in (q ∙ rw (h, f), w ∙ rw (h, f))

      pub reset_kept : (a ≡ reset_answer ws) × (new ≡ reset_state ws)
      reset_kept = reset_kept_by (readable ws) refl

  module _ (r : Result Float Refusal) (e : r ≡ bias_read (read_of ws)) (a : ℕ) (p : a ≡ packed (number_in r) (word_of (result_unwrap_or r zero32))) where
    bias_by : (t : Bool) → readable ws ≡ t → a ≡ bias_answer ws
    unfolding bias_answer of_bits to_bits is_nan
    bias_by true h = let f = e ∙ ap bias_read (sym (read_good h)) in p ∙ rw (h, f)
    bias_by false h = let f = e ∙ ap bias_read (sym (read_bad h)) ∙ unread_bias in p ∙ rw (h, f)

    pub bias_read_lem : a ≡ bias_answer ws
    bias_read_lem = bias_by (readable ws) refl

-- ---- a block

unread_block : (xs : List Float) (label : Option VadContext) (room : ℕ) → process_of nothing_open xs label room ≡ record { outcome = Err why.FilterState; filter = nothing_open }
unfolding process_of check_of first_of
unread_block xs label room = rw nothing_malformed

unread_output : (xs : List Float) (label : Option VadContext) (out : List Float) → output_after nothing_open xs label out ≡ out
unfolding output_after check_of first_of
unread_output xs label out = rw nothing_malformed

module _ (ws : List ℕ) (xs : List Float) (label : Option VadContext) where
  output_by : (out : List Float) (t : Bool) → readable ws ≡ t → output_after (read_of ws) xs label out ≡ process_output ws xs label out
  unfolding process_output
  output_by out true h = ap (λ (f : DcHighPassFilter). output_after f xs label out) (sym (read_good ws h)) ∙ rw h
  output_by out false h = ap (λ (f : DcHighPassFilter). output_after f xs label out) (sym (read_bad ws h)) ∙ unread_output xs label out ∙ rw h

  pub output_read : (out new : List Float) → new ≡ output_after (read_of ws) xs label out → new ≡ process_output ws xs label out
  output_read out new e = e ∙ output_by out (readable ws) refl

  module _ (room : ℕ) (p : Answered) (e : p ≡ process_of (read_of ws) xs label room) where
    block_by : (t : Bool) → readable ws ≡ t → p ≡ cond t (process_of (filter_at ws) xs label room) (record { outcome = Err why.FilterState; filter = nothing_open })
    block_by true h = e ∙ ap (λ (f : DcHighPassFilter). process_of f xs label room) (sym (read_good ws h))
    block_by false h = e ∙ ap (λ (f : DcHighPassFilter). process_of f xs label room) (sym (read_bad ws h)) ∙ unread_block xs label room

    pub place_fits : carries_in p.outcome < 2 ^ 55
    place_fits = let n = ap (λ (q : Answered). carries_in q.outcome) e in let small = place_small (read_of ws) xs label room in omega arith

    module _ (a : ℕ) (q : a ≡ packed (number_in p.outcome) (carries_in p.outcome)) (new : List ℕ) (w : new ≡ cond (is_ok p.outcome && leb 25 (length ws)) (written p.filter ws) ws) where
      process_by : (t : Bool) → readable ws ≡ t → (a ≡ process_answer ws xs label room) × (new ≡ process_state ws xs label room)
      unfolding process_answer process_state
      process_by true h = let f = block_by true h in (q ∙ rw (h, f), w ∙ rw (h, f, long_of ws h, and_true (is_ok (process_of (filter_at ws) xs label room).outcome)))
      process_by false h = let f = block_by false h in (q ∙ rw (h, f), w ∙ rw (h, f))

      pub process_kept : (a ≡ process_answer ws xs label room) × (new ≡ process_state ws xs label room)
      process_kept = process_by (readable ws) refl
