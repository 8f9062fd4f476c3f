use Rattle.std.proofs.Common.{◌≡◌, ℕ, ◌+◌, ◌<◌, ℤ, ◌-ℤ◌, ap, ◌∙◌, ap₂, arith}
use lib.IntN.{sub_ℕ}
use lib.Signed.{mag}
use Rattle.float.proofs.Places.{held, wider, place_held, held_less, sub_sub, sub_same}
use Rattle.float.proofs.fused.gap.Goals as goal

module _ (a b : ℤ) (h : mag a < 1000) (g : mag b < 1000) where
  args : held a -ℤ held b ≡ a -ℤ b
  args = ap₂ (λ (x y : ℤ). x -ℤ y) (place_held a h) (place_held b g)

  value : held (held a -ℤ held b) ≡ a -ℤ b
  value = ap held args ∙ held_less a b (wider (mag a) 1000 h tt) (wider (mag b) 1000 g tt)

  place : (x y : ℕ) → a ≡ sub_ℕ x 314 → b ≡ sub_ℕ y 314 → held (held a -ℤ held b) ≡ sub_ℕ x y
  place x y p q = value ∙ ap₂ (λ (u v : ℤ). u -ℤ v) p q ∙ sub_sub x 314 y 314 ∙ sub_same (x + 314) (314 + y) x y (omega arith)

pub returns : goal.returns
returns c = λ x y p q. c.above.ensures.1 x y (place c.args.a c.args.b c.requires.0 c.requires.1 x y p q)
