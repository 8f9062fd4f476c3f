use Rattle.std.proofs.Common.{ℕ, ◌*◌, ◌^◌, ◌≤◌, false, refl, ap, ◌∙◌, arith}
use lib.Ieee.{binary32, round}
use Rattle.float.specs.Finite.{rounded, or_zero}
use Rattle.float.proofs.Counts.{count_is, count_jammed}
use Rattle.float.proofs.whole.nearest.Goals as goal

pub returns-then-n-lt9223372036854775808 : goal.returns-then-n-lt9223372036854775808
returns-then-n-lt9223372036854775808 c =
    c.or_zero.ensures
    ∙ ap or_zero (c.pack.ensures ∙ c.magnitude_bits.ensures false 314 refl)
    ∙ count_is c.args.n c.ranges.n.fits

pub returns : goal.returns
returns c =
    let n = c.args.n in
    let h : 9223372036854775808 ≤ n = omega arith in
    c.or_zero-2.ensures
    ∙ ap or_zero (c.pack-2.ensures ∙ c.magnitude_bits-2.ensures false 315 refl)
    ∙ ap (λ (w : ℕ). or_zero (rounded (round binary32 false (w * 2 ^ 315) (2 ^ 314)))) c.jam.ensures
    ∙ count_jammed n h c.ranges.n.fits
