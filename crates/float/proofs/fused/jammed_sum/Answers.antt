use Rattle.std.proofs.Common.{◌≡◌, ℕ, ◌*◌, ◌^◌, Bool, ap, ◌∙◌, ap₂}
use lib.IntN.{sub_ℕ}
use lib.Ieee.{binary32, round}
use Rattle.float.specs.Finite.{rounded}
use Rattle.float.specs.Inside.{jam_of, mag_of, neg_of}
use Rattle.float.proofs.Places.{held, place_held}
use Rattle.float.proofs.fused.jammed_sum.Goals as goal

pub returns : goal.returns
returns c = λ i j p q.
    let h = c.args.high in
    let l = c.args.low in
    let e : held h.exponent ≡ sub_ℕ i 314 = place_held h.exponent c.requires.1 ∙ p in
    let d : held l.exponent ≡ sub_ℕ j 314 = place_held l.exponent c.requires.2 ∙ q in
    c.rounded.ensures i (c.plus.ensures.exponent ∙ p)
    ∙ ap₂ (λ (s : Bool) (m : ℕ). rounded (round binary32 s (m * 2 ^ i) (2 ^ 314))) c.plus.ensures.negative c.plus.ensures.size
    ∙ ap (λ (y : ℕ). rounded (round binary32 (neg_of h.negative h.size l.negative y) (mag_of h.negative h.size l.negative y * 2 ^ i) (2 ^ 314)))
    (c.jam-size.ensures ∙ ap (jam_of l.size) (c.gap.ensures i j e d))
