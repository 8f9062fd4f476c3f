use Rattle.std.proofs.Common.{◌≡◌, ℕ, ◌+◌, ◌<◌, ℤ, pos, ◌-ℤ◌, ap, ◌∙◌, arith}
use lib.IntN.{sub_ℕ}
use lib.Signed.{mag}
use Rattle.float.proofs.Places.{held, back', wider, held_less, sub_sub, sub_same}
use Rattle.float.proofs.rounding.below.Goals as goal

module _ (d : ℤ) (h : mag d < 2000) where
  is : held d ≡ d
  is = back' d (wider (mag d) 2000 h tt)

  turned : held (pos 0 -ℤ held d) ≡ pos 0 -ℤ d
  turned = ap (λ (z : ℤ). held (pos 0 -ℤ z)) is ∙ held_less (pos 0) d (omega arith) (wider (mag d) 2000 h tt)

  place : (x y : ℕ) → d ≡ sub_ℕ x y → held (pos 0 -ℤ held d) ≡ sub_ℕ y x
  place x y p = turned ∙ ap (λ (z : ℤ). pos 0 -ℤ z) p ∙ sub_sub 0 0 x y ∙ sub_same (0 + y) (0 + x) y x (omega arith)

pub returns : goal.returns
returns c = (c.above.ensures.0, λ x y p. c.above.ensures.1 y x (place c.args.d c.requires x y p))
