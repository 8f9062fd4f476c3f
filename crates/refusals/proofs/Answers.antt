-- An answer taken apart, as a caller takes it, and that two answers meeting the contract are equal. Assumes nothing.
use mathlib.Core.Path.{◌≡◌, refl, sym, ◌∙◌}
use Prim.Native.Nat.{ℕ, ◌/◌, ◌%◌, ◌<◌}
use native.Mathlib.Omega.{arith}
use Rattle.refusals.specs.Answers.{packed}

module _ (number carried : ℕ) where
  -- every refusal's number is below 256
  pub number_back : number < 256 → packed number carried % 256 ≡ number
  number_back h = omega arith

  pub carried_back : number < 256 → packed number carried / 256 ≡ carried
  carried_back h = omega arith

  pub answer_unique : (r q : ℕ) → r ≡ packed number carried → q ≡ packed number carried → r ≡ q
  answer_unique r q h k = h ∙ sym k

-- ---- computed: a block's third sample refused, and a position of 2^40 read

third_refused : packed 16 2 ≡ 528
third_refused = refl

position_read : packed 0 1_099_511_627_776 ≡ 281_474_976_710_656
position_read = refl
