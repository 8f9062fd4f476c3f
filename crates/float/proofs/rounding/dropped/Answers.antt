use Rattle.std.proofs.Common.{◌≡◌, ℕ, ◌+◌, ◌<◌, ℤ, pos, ◌+ℤ◌, ◌-ℤ◌, sym, ap, ◌∙◌, subst, ap₂, arith, w32, to_z}
use lib.IntN.{sub_ℕ}
use lib.Signed.{mag}
use Rattle.float.proofs.Places.{held, back', cast_in, wider, small, held_less, held_plus, mag_less, mag_plus, sub_add, sub_sub, sub_same, at_zero}
use Rattle.float.proofs.rounding.dropped.Goals as goal

small188 : mag (pos 188) < 10000
small188 = omega arith

at_most : 188 < 189
at_most = omega arith

module _ (e : ℤ) (u : ℕ) (h : mag e < 1000) (g : u < 64) where
  less-small : mag (e -ℤ pos u) < 1065
  less-small = mag_less e (pos u) 1000 64 h g

  args : held e -ℤ to_z w32 u ≡ e -ℤ pos u
  args = ap₂ (λ (x y : ℤ). x -ℤ y) (back' e (wider (mag e) 1000 h tt)) (cast_in u (small u 64 g tt))

  less : held (held e -ℤ to_z w32 u) ≡ e -ℤ pos u
  less = ap held args ∙ held_less e (pos u) (wider (mag e) 1000 h tt) (wider u 64 g tt)

  plus : held (held (held e -ℤ to_z w32 u) +ℤ pos 188) ≡ e -ℤ pos u +ℤ pos 188
  plus = ap (λ (z : ℤ). held (z +ℤ pos 188)) less ∙ held_plus (e -ℤ pos u) (pos 188) (wider (mag (e -ℤ pos u)) 1065 less-small tt) small188

  value : (mag (held (held (held e -ℤ to_z w32 u) +ℤ pos 188)) < 2000) × ((x : ℕ) → e ≡ sub_ℕ x 314 → held (held (held e -ℤ to_z w32 u) +ℤ pos 188) ≡ sub_ℕ x (126 + u))
  value = (
    subst (λ (z : ℤ). mag z < 2000) (sym plus) (omega (arith, (mag_plus (e -ℤ pos u) (pos 188) 1065 189 less-small at_most))),
    λ x p.
        plus
        ∙ ap (λ (z : ℤ). z +ℤ pos 188) (ap₂ (λ (y z : ℤ). y -ℤ z) p (at_zero u) ∙ sub_sub x 314 u 0)
        ∙ sub_add (x + 0) (314 + u) 188 0
        ∙ sub_same (x + 0 + 188) (314 + u + 0) x (126 + u) (omega arith),
  )

pub returns : goal.returns
returns c = value c.args.e c.args.up c.requires.0 c.requires.1
