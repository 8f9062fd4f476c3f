use Rattle.std.proofs.Common.{◌≡◌, ℕ, ◌+◌, ◌<◌, Bool, cond, eqb, ℤ, pos, ◌+ℤ◌, ◌-ℤ◌, sym, ap, ◌∙◌, ap₂, arith, ne_eqb}
use lib.IntN.{sub_ℕ}
use lib.Signed.{mag}
use Rattle.float.proofs.Places.{held, back', wider, held_less, held_plus, mag_plus, sub_add, sub_sub, sub_same}
use Rattle.float.proofs.fused.product_exponent.Goals as goal

small14 : mag (pos 14) < 10000
small14 = omega arith

module _ (a b : ℤ) (h : mag a < 1000) (g : mag b < 1000) where
  sum-small : mag (a +ℤ b) < 10000
  sum-small = wider (mag (a +ℤ b)) 2001 (mag_plus a b 1000 1000 h g) tt

  args : held a +ℤ held b ≡ a +ℤ b
  args = ap₂ (λ (x y : ℤ). x +ℤ y) (back' a (wider (mag a) 1000 h tt)) (back' b (wider (mag b) 1000 g tt))

  sum : held (held a +ℤ held b) ≡ a +ℤ b
  sum = ap held args ∙ held_plus a b (wider (mag a) 1000 h tt) (wider (mag b) 1000 g tt)

  value : (p x y : ℕ) → (p ≡ 0 → ⊥) → a ≡ sub_ℕ x 150 → b ≡ sub_ℕ y 150 → held (held (held a +ℤ held b) -ℤ pos 14) ≡ sub_ℕ (cond (eqb p 0) 2 (x + y)) 314
  value p x y n u v =
      ap (λ (z : ℤ). held (z -ℤ pos 14)) sum ∙ held_less (a +ℤ b) (pos 14) sum-small small14
      ∙ ap (λ (z : ℤ). z -ℤ pos 14) (ap₂ (λ (x y : ℤ). x +ℤ y) u v ∙ sub_add x 150 y 150)
      ∙ sub_sub (x + y) (150 + 150) 14 0 ∙ sub_same (x + y + 0) (150 + 150 + 14) (x + y) 314 (omega arith)
      ∙ sym (ap (λ (b : Bool). sub_ℕ (cond b 2 (x + y)) 314) (ne_eqb p 0 n))

pub returns : goal.returns
returns c = λ x y u v. value c.args.a c.args.b c.requires.0 c.requires.1 c.args.p x y c.if-p-eq0.false u v
