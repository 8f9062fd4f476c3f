use Rattle.std.proofs.Common.{◌≡◌, ℕ, ◌+◌, ◌-◌, ◌*◌, ◌/◌, ◌%◌, ◌^◌, ◌<◌, ◌≤◌, sym, ap, ◌∙◌, subst, zero-le, le_trans, le_of_eq, lt_of_lt_of_le, zero-mul, arith, pow_pos, pow_mono}
use lib.Ieee.Nearest.{closest}
use Rattle.float.proofs.Near.{closest_sum}
use Rattle.float.proofs.Sticky.{closest_down}
use Rattle.float.proofs.Words.{unit_is, unit_twice}
use Rattle.float.proofs.rounding.nearest_shift.Goals as goal

all-cut : (w s : ℕ) → w < 2 ^ 63 → 63 < s → closest w (2 ^ s) ≡ 0
all-cut w s h g = closest_down w (2 ^ s) 0 (pow_pos s) (le_trans (le_of_eq (zero-mul (2 ^ s))) zero-le) (subst (λ (x : ℕ). w * 2 < x * 2 + 2 ^ s) (sym (zero-mul (2 ^ s))) (lt_of_lt_of_le (omega arith) (le_trans (pow_mono g) (omega arith))))

-- the half as the machine has it
module _ (s : ℕ) (l : 1 ≤ s) (g : s ≤ 63) where
  half_is : 1 * 2 ^ (s - 1) % 18446744073709551616 ≡ 2 ^ (s - 1)
  half_is = unit_is (s - 1) (omega arith)

  half_pos : 1 ≤ 1 * 2 ^ (s - 1) % 18446744073709551616
  half_pos = subst (λ (x : ℕ). 1 ≤ x) (sym half_is) (pow_pos (s - 1))

  half_le : 1 * 2 ^ (s - 1) % 18446744073709551616 ≤ 4611686018427387904
  half_le = subst (λ (x : ℕ). x ≤ 4611686018427387904) (sym half_is) (pow_mono {i = s - 1} {j = 62} (omega arith))

  rounds : (w : ℕ) → (w + (1 * 2 ^ (s - 1) % 18446744073709551616 - 1) + w / 2 ^ s % 2) / 2 ^ s ≡ closest w (2 ^ s)
  rounds w =
      ap (λ (h : ℕ). (w + (h - 1) + w / 2 ^ s % 2) / 2 ^ s) half_is
      ∙ subst (λ (u : ℕ). (w + (2 ^ (s - 1) - 1) + w / u % 2) / u ≡ closest w u) (unit_twice s l) (closest_sum w (2 ^ (s - 1)) (pow_pos (s - 1)))

pub returns-then-s-gt63 : goal.returns-then-s-gt63
returns-then-s-gt63 c = sym (all-cut c.args.w c.args.s c.requires.1 c.if-s-gt63.true)

pub returns : goal.returns
returns c = rounds c.args.s c.requires.0 c.if-s-gt63.false c.args.w
