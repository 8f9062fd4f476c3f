use Rattle.std.proofs.Common.{◌≡◌, ℕ, ◌-◌, ◌*◌, ◌%◌, ◌^◌, ◌<◌, ◌≤◌, Bool, true, false, ltb, ℤ, sym, ap, ◌∙◌, ap₂, le_of_lt, arith, ltb-false, ltb-true}
use lib.IntN.{sub_ℕ}
use lib.Signed.{mag, lt_z}
use lib.Ieee.{binary32, round}
use Rattle.float.specs.Inside.{jam_of, mag_of, neg_of}
use Rattle.float.specs.Finite.{rounded}
use Rattle.float.proofs.Places.{held, place_held, place_small, lt_places}
use Rattle.float.proofs.Fuse.{addend_high, product_high}
use Rattle.float.proofs.fused.aligned_sum.Goals as goal

-- nothing is shifted out
product-kept : (p : ℕ) → p < 281474976710656 → p * 16384 % 18446744073709551616 ≡ p * 16384
product-kept p h = omega arith

addend-kept : (c : ℕ) → c < 16777216 → c * 274877906944 % 18446744073709551616 ≡ c * 274877906944
addend-kept c h = omega arith

-- an exponent is copied with its term
again : (e : ℤ) → mag e < 1000 → held (held e) ≡ held e
again e h = place_held (held e) (place_small e h)

-- the exponents' test, as one of places
test : (d e : ℤ) (x y : ℕ) (b : Bool) → e ≡ sub_ℕ x 314 → d ≡ sub_ℕ y 314 → lt_z d e ≡ b → ltb y x ≡ b
test d e x y b p q t = sym (lt_places y x 314) ∙ sym (ap₂ (λ (u v : ℤ). lt_z u v) q p) ∙ t

pub returns-then-addend-product : goal.returns-then-addend-product
returns-then-addend-product c = λ x y p q u v.
    let s = c.args.product.negative in
    let t = c.args.addend.negative in
    let e : held c.args.product.exponent ≡ sub_ℕ x 314 = place_held c.args.product.exponent c.requires.2 ∙ p in
    let d : held c.args.addend.exponent ≡ sub_ℕ y 314 = place_held c.args.addend.exponent c.requires.3 ∙ q in
    let l : y ≤ x = le_of_lt (ltb-true y x (test (held (held c.args.addend.exponent)) (held (held c.args.product.exponent)) x y true (again c.args.product.exponent c.requires.2 ∙ e) (again c.args.addend.exponent c.requires.3 ∙ d) c.if-addend-product.true)) in
    c.jammed_sum.ensures x y e d
    ∙ ap₂ (λ (m n : ℕ). rounded (round binary32 (neg_of s m t (jam_of n (x - y))) (mag_of s m t (jam_of n (x - y)) * 2 ^ x) (2 ^ 314))) (product-kept c.args.product.size c.requires.0) (addend-kept c.args.addend.size c.requires.1)
    ∙ ap rounded (sym (product_high s t c.args.product.size c.args.addend.size x y l c.requires.1 u))

pub returns : goal.returns
returns c = λ x y p q u v.
    let s = c.args.product.negative in
    let t = c.args.addend.negative in
    let e : held c.args.product.exponent ≡ sub_ℕ x 314 = place_held c.args.product.exponent c.requires.2 ∙ p in
    let d : held c.args.addend.exponent ≡ sub_ℕ y 314 = place_held c.args.addend.exponent c.requires.3 ∙ q in
    let l : x ≤ y = ltb-false y x (test (held (held c.args.addend.exponent)) (held (held c.args.product.exponent)) x y false (again c.args.product.exponent c.requires.2 ∙ e) (again c.args.addend.exponent c.requires.3 ∙ d) c.if-addend-product.false) in
    c.jammed_sum-2.ensures y x d e
    ∙ ap₂ (λ (m n : ℕ). rounded (round binary32 (neg_of t m s (jam_of n (y - x))) (mag_of t m s (jam_of n (y - x)) * 2 ^ y) (2 ^ 314))) (addend-kept c.args.addend.size c.requires.1) (product-kept c.args.product.size c.requires.0)
    ∙ ap rounded (sym (addend_high s t c.args.product.size c.args.addend.size x y l c.requires.0 v))
