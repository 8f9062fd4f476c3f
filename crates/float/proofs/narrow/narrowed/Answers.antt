use Rattle.std.specs.Prelude.{Some}
use Rattle.std.proofs.Common.{◌≡◌, ℕ, ◌+◌, ◌-◌, ◌*◌, ◌/◌, ◌%◌, ◌^◌, ◌<◌, ◌≤◌, sym, ap, ◌∙◌, subst, ap₂, arith}
use lib.Bits.{bit_and}
use lib.Ieee.{binary32, of_bits}
use Rattle.float.specs.Inside.{Narrowed}
use Rattle.float.proofs.Words.{unit_is, mask_is, unit_twice, no_nan}
use Rattle.float.proofs.Twice.{some, zeros, lows, low_le}
use Rattle.float.proofs.narrow.narrowed.Goals as goal

-- of a subnormal: the digits that are cut off, and the significand
abbrev S : ℕ → ℕ
S b = 926 - b % 0x8000_0000_0000_0000 / 0x10_0000_0000_0000

abbrev K : ℕ → ℕ
K b = b % 0x8000_0000_0000_0000 % 0x10_0000_0000_0000 + 0x10_0000_0000_0000

module _ (b : ℕ) (lo : 0x3600_0000_0000_0000 ≤ b % 0x8000_0000_0000_0000) (hi : b % 0x8000_0000_0000_0000 ≤ 0x3810_0000_0000_0000) where
  half_is : 1 * 2 ^ (S b - 1) % 18446744073709551616 ≡ 2 ^ (S b - 1)
  half_is = unit_is (S b - 1) (omega arith)

  low-is : (K b + 1 * 2 ^ (S b - 1) % 18446744073709551616) / 2 ^ S b ≡ (K b + 2 ^ (S b - 1)) / (2 * 2 ^ (S b - 1))
  low-is = ap₂ (λ (h u : ℕ). (K b + h) / u) half_is (sym (unit_twice (S b) (omega arith)))

  low_small : (K b + 1 * 2 ^ (S b - 1) % 18446744073709551616) / 2 ^ S b ≤ 16777216
  low_small = subst (λ (x : ℕ). x ≤ 16777216) (sym low-is) (low_le (K b) (S b - 1) (omega arith) (omega arith))

  settled : (bit_and (K b) (1 * 2 ^ S b % 18446744073709551616 - 1) ≡ 1 * 2 ^ (S b - 1) % 18446744073709551616 → ⊥)
      → Narrowed b (Some (of_bits binary32 (b / 0x8000_0000_0000_0000 * 0x8000_0000 + (K b + 1 * 2 ^ (S b - 1) % 18446744073709551616) / 2 ^ S b)))
  settled m =
      let off : K b % (2 * 2 ^ (S b - 1)) ≡ 2 ^ (S b - 1) → ⊥ = λ e. m (mask_is (K b) (S b) (omega arith) ∙ ap (λ (x : ℕ). K b % x) (sym (unit_twice (S b) (omega arith))) ∙ e ∙ sym half_is) in
      subst (λ (x : ℕ). Narrowed b (Some (of_bits binary32 (b / 0x8000_0000_0000_0000 * 0x8000_0000 + x)))) (sym low-is) (lows b (K b) (S b - 1) (omega arith) (omega arith) (omega arith) (omega arith) off)

pub float_from_bits-result : goal.float_from_bits-result
float_from_bits-result c = no_nan (c.args.bits / 0x8000_0000_0000_0000 * 0x8000_0000) (omega arith)

pub returns-then-size-eq0 : goal.returns-then-size-eq0
returns-then-size-eq0 c = let b = c.args.bits in let z : b % 0x8000_0000_0000_0000 ≡ 0 = omega arith in zeros b z

pub overflow_cast-result-then-size-le4039728865751334912 : goal.overflow_cast-result-then-size-le4039728865751334912
overflow_cast-result-then-size-le4039728865751334912 c = omega (arith, low_small c.args.bits (omega arith) (omega arith))

pub float_from_bits-result-then-size-le4039728865751334912 : goal.float_from_bits-result-then-size-le4039728865751334912
float_from_bits-result-then-size-le4039728865751334912 c =
    let b = c.args.bits in
    let l = low_small b (omega arith) (omega arith) in
    no_nan (b / 0x8000_0000_0000_0000 * 0x8000_0000 + (K b + 1 * 2 ^ (S b - 1) % 18446744073709551616) / 2 ^ S b) (omega (arith, l))

pub returns-then-size-le4039728865751334912 : goal.returns-then-size-le4039728865751334912
returns-then-size-le4039728865751334912 c = settled c.args.bits (omega arith) (omega arith) (λ e. c.if-q-s.false (omega (arith, e)))

pub float_from_bits-result-2 : goal.float_from_bits-result-2
float_from_bits-result-2 c =
    let b = c.args.bits in
    no_nan (b / 0x8000_0000_0000_0000 * 0x8000_0000 + ((b % 0x8000_0000_0000_0000 + 0x1000_0000) / 0x2000_0000 - 0x1_c000_0000)) (omega arith)

pub returns : goal.returns
returns c =
    let b = c.args.bits in
    let lo : 0x3810_0000_0000_0000 < b % 0x8000_0000_0000_0000 = omega arith in
    let hi : b % 0x8000_0000_0000_0000 < 0x47ef_ffff_e000_0000 = omega arith in
    let off : b % 0x8000_0000_0000_0000 % 0x2000_0000 ≡ 0x1000_0000 → ⊥ = λ e. c.if-size-eq268435456.false (omega arith) in
    some b lo hi off
