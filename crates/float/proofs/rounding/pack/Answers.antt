use Rattle.std.specs.Prelude.{None, Some}
use Rattle.std.proofs.Common.{◌≡◌, ℕ, ◌+◌, ◌<◌, ◌≤◌, Bool, true, false, cond, sym, ap, ◌∙◌, arith, le-ltb, lt-ltb}
use lib.Ieee.{binary32, of_bits}
use Rattle.float.specs.Inside.{pack_of}
use Rattle.float.proofs.Words.{no_nan}
use Rattle.float.proofs.rounding.pack.Goals as goal

over : (s : Bool) (b : ℕ) → 2139095040 ≤ b → None ≡ pack_of s b
unfolding pack_of
over s b h = sym (ap (λ (t : Bool). cond t (Some (of_bits binary32 (cond s 2147483648 0 + b))) None) (le-ltb b 2139095040 h))

within : (s : Bool) (b : ℕ) → b < 2139095040 → Some (of_bits binary32 (cond s 2147483648 0 + b)) ≡ pack_of s b
unfolding pack_of
within s b h = sym (ap (λ (t : Bool). cond t (Some (of_bits binary32 (cond s 2147483648 0 + b))) None) (lt-ltb b 2139095040 h))

minus : (s : Bool) (b : ℕ) → s ≡ true → b < 2139095040 → Some (of_bits binary32 (2147483648 + b)) ≡ pack_of s b
minus s b e h = ap (λ (t : Bool). Some (of_bits binary32 (cond t 2147483648 0 + b))) (sym e) ∙ within s b h

plus : (s : Bool) (b : ℕ) → s ≡ false → b < 2139095040 → Some (of_bits binary32 b) ≡ pack_of s b
plus s b e h = ap (λ (x : ℕ). Some (of_bits binary32 x)) (omega arith) ∙ ap (λ (t : Bool). Some (of_bits binary32 (cond t 2147483648 0 + b))) (sym e) ∙ within s b h

pub returns-then-bits-ge2139095040 : goal.returns-then-bits-ge2139095040
returns-then-bits-ge2139095040 c = over c.args.negative c.args.bits c.if-bits-ge2139095040.true

pub float_from_bits-result : goal.float_from_bits-result
float_from_bits-result c = no_nan (2147483648 + c.args.bits) (omega arith)

pub returns-then-negative : goal.returns-then-negative
returns-then-negative c = minus c.args.negative c.args.bits c.if-negative.true c.if-bits-ge2139095040.false

pub float_from_bits-result-2 : goal.float_from_bits-result-2
float_from_bits-result-2 c = no_nan c.args.bits (omega arith)

pub returns : goal.returns
returns c = plus c.args.negative c.args.bits c.if-negative.false c.if-bits-ge2139095040.false
