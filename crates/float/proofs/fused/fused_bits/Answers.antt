use Rattle.std.proofs.Common.{◌≡◌, ℕ, ◌+◌, ◌*◌, ◌^◌, ◌<◌, ◌≤◌, Bool, cond, not, T, eqb, leb, ◌⊎◌, ℤ, sym, ap, ◌∙◌, subst, ap₂, lt_of_lt_of_le, arith, lit<, lit≤}
use mathlib.Core.Bool.{beq}
use lib.IntN.{sub_ℕ}
use lib.Signed.{mag}
use lib.Ieee.{binary32, unlike, sum}
use Rattle.float.specs.Inside.{sign_of, fused_bits_of, M, Q}
use Rattle.float.specs.Finite.{rounded}
use Rattle.float.proofs.Places.{held, at_place, at_place_small}
use Rattle.float.proofs.Decode.{significand_lt, place_lt}
use Rattle.float.proofs.Fuse.{E, E-small, mul_small, product_placed, addend_placed, product_is, addend_is}
use Rattle.float.proofs.fused.fused_bits.Goals as goal

product_lt : (m n x y : ℕ) → m ≡ M x → n ≡ M y → m * n < 281474976710656
product_lt m n x y e f = subst (λ (k : ℕ). k < 281474976710656) (sym (ap₂ (λ (k l : ℕ). k * l) e f)) (mul_small (M x) (M y) (significand_lt x) (significand_lt y))

less : {x : ℕ} (k : ℕ) → x < k → T (leb k 1000) → x < 1000
less k h t = lt_of_lt_of_le h (lit≤ t)

exponent-held : (e : ℤ) (x : ℕ) → e ≡ sub_ℕ (Q x) 150 → held e ≡ sub_ℕ (Q x) 150
exponent-held e x p = at_place e (Q x) 150 (less 256 (place_lt x) tt) (lit< tt) p

exponent_small : (e : ℤ) (x : ℕ) → e ≡ sub_ℕ (Q x) 150 → mag (held e) < 1000
exponent_small e x p = at_place_small e (Q x) 150 (less 256 (place_lt x) tt) (lit< tt) p

placed-held : (e : ℤ) (i : ℕ) → i < 512 → e ≡ sub_ℕ i 314 → held e ≡ sub_ℕ i 314
placed-held e i h p = at_place e i 314 (less 512 h tt) (lit< tt) p

placed-small : (e : ℤ) (i : ℕ) → i < 512 → e ≡ sub_ℕ i 314 → mag (held e) < 1000
placed-small e i h p = at_place_small e i 314 (less 512 h tt) (lit< tt) p

addend_small : (z : ℕ) → Q z + 126 < 512
addend_small z = omega (arith, place_lt z)

product-place : (r : ℤ) (m n : ℕ) (a b : ℤ) (x y : ℕ) → m ≡ M x → n ≡ M y → a ≡ sub_ℕ (Q x) 150 → b ≡ sub_ℕ (Q y) 150
    → ((i j : ℕ) → held a ≡ sub_ℕ i 150 → held b ≡ sub_ℕ j 150 → r ≡ sub_ℕ (cond (eqb (m * n) 0) 2 (i + j)) 314) → r ≡ sub_ℕ (E x y) 314
product-place r m n a b x y e f p q k =
    k (Q x) (Q y) (exponent-held a x p) (exponent-held b y q) ∙ ap (λ (z : ℕ). sub_ℕ (cond (eqb z 0) 2 (Q x + Q y)) 314) (ap₂ (λ (u v : ℕ). u * v) e f)

whole : (x y z : ℕ) (s t u : Bool) (p c : ℕ) → s ≡ sign_of x → t ≡ sign_of y → u ≡ sign_of z → p ≡ M x * M y → c ≡ M z
    → rounded (sum binary32 (not (beq s t)) (p * 2 ^ 14 * 2 ^ E x y) u (c * 2 ^ 38 * 2 ^ (Q z + 126)) (2 ^ 314)) ≡ fused_bits_of x y z
unfolding fused_bits_of
whole x y z s t u p c e f g h k =
    ap₂ (λ (a b : Bool). rounded (sum binary32 (not (beq a b)) (p * 2 ^ 14 * 2 ^ E x y) u (c * 2 ^ 38 * 2 ^ (Q z + 126)) (2 ^ 314))) e f
    ∙ ap₂ (λ (a : Bool) (b : ℕ). rounded (sum binary32 (unlike (sign_of x) (sign_of y)) (b * 2 ^ 14 * 2 ^ E x y) a (c * 2 ^ 38 * 2 ^ (Q z + 126)) (2 ^ 314))) g h
    ∙ ap (λ (b : ℕ). rounded (sum binary32 (unlike (sign_of x) (sign_of y)) (M x * M y * 2 ^ 14 * 2 ^ E x y) (sign_of z) (b * 2 ^ 38 * 2 ^ (Q z + 126)) (2 ^ 314))) k
    ∙ ap₂ (λ (a b : ℕ). rounded (sum binary32 (unlike (sign_of x) (sign_of y)) a (sign_of z) b (2 ^ 314))) (product_is x y) (addend_is z)

pub aligned_sum-requires : goal.aligned_sum-requires
aligned_sum-requires c =
    let e = product-place c.product_exponent.result c.significand.result c.significand-2.result c.exponent.result c.exponent-2.result c.args.x c.args.y c.significand.ensures c.significand-2.ensures c.exponent.ensures c.exponent-2.ensures c.product_exponent.ensures in
    let d = c.addend_exponent.ensures (Q c.args.z) (exponent-held c.exponent-3.result c.args.z c.exponent-3.ensures) in (
      product_lt c.significand.result c.significand-2.result c.args.x c.args.y c.significand.ensures c.significand-2.ensures,
      subst (λ (m : ℕ). m < 16777216) (sym c.significand-3.ensures) (significand_lt c.args.z),
      placed-small c.product_exponent.result (E c.args.x c.args.y) (E-small c.args.x c.args.y) e,
      placed-small c.addend_exponent.result (Q c.args.z + 126) (addend_small c.args.z) d,
    )

pub returns : goal.returns
returns c =
    let x = c.args.x in
    let y = c.args.y in
    let z = c.args.z in
    let m = c.significand.result in
    let n = c.significand-2.result in
    let e = product-place c.product_exponent.result m n c.exponent.result c.exponent-2.result x y c.significand.ensures c.significand-2.ensures c.exponent.ensures c.exponent-2.ensures c.product_exponent.ensures in
    let d = c.addend_exponent.ensures (Q z) (exponent-held c.exponent-3.result z c.exponent-3.ensures) in
    let p : m * n ≡ M x * M y = ap₂ (λ (k l : ℕ). k * l) c.significand.ensures c.significand-2.ensures in
    let q : c.significand-3.result ≡ M z = c.significand-3.ensures in
    c.aligned_sum.ensures (E x y) (Q z + 126) (placed-held c.product_exponent.result (E x y) (E-small x y) e) (placed-held c.addend_exponent.result (Q z + 126) (addend_small z) d)
    (subst (λ (k : ℕ). (8388608 ≤ k) ⊎ (E x y ≤ 163)) (sym p) (product_placed x y))
    (subst (λ (k : ℕ). (8388608 ≤ k) ⊎ (Q z + 126 ≤ 163)) (sym q) (addend_placed z))
    ∙ whole x y z c.negative.result c.negative-2.result c.negative-3.result (m * n) c.significand-3.result c.negative.ensures c.negative-2.ensures c.negative-3.ensures p q
