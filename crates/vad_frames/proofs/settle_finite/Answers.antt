use mathlib.Core.Path.{◌≡◌, refl, sym, ap, ◌∙◌}
use mathlib.Core.List.{◌∷◌}
use Prim.Native.Nat.{◌+◌, ◌≤◌, ◌<◌}
use native.Mathlib.Omega.{arith}
use lib.Dec.{T}
use lib.ListN.{length, drop, set, get_or, length-set}
use lib.Seq.{sets}
use lib.Ieee.{Float, nan}
use lib.Ieee.Scale.{finite}
use Rattle.lists.proofs.Every.{every_at}
use Rattle.lists.proofs.Stores.{sets_cons, sets_over}
use Rattle.lists.proofs.Tests.{both}
use Rattle.vad_frames.specs.Emphasis.{emphasized}
use Rattle.vad_frames.proofs.Turns.{emphasized_step, emphasized_end, finite_neg, settled_is}
use Rattle.vad_frames.proofs.settle_finite.Goals as goal

pub loop-i-init : goal.loop-i-init
loop-i-init c = (refl, c.requires.1.1, λ h. refl, λ vs h. refl)

pub quick_sum-quick-requires : goal.quick_sum-quick-requires
quick_sum-quick-requires c =
    let xs = c.args.samples.now in
    let inside : c.loop-i.i < length xs = omega arith in
    (c.requires.1.0, finite_neg c.loop-i.prior c.loop-i.invariant.1, every_at (λ (x : Float). T (finite x)) c.loop-i.i nan xs c.requires.1.2 inside)

pub loop-i-preserved : goal.loop-i-preserved
loop-i-preserved c =
    let a = c.args.coeff in
    let xs = c.args.samples.now in
    let i = c.loop-i.i in
    let p = c.loop-i.prior in
    let vs = c.loop-i.values in
    let x = get_or xs i nan in
    let y = c.quick_sum-quick.result.sum in
    let inside : i < length xs = omega arith in
    let long : length (set vs i y) ≡ length vs = simp length-set in (
      long ∙ c.loop-i.invariant.0,
      every_at (λ (x : Float). T (finite x)) i nan xs c.requires.1.2 inside,
      λ h.
          let t = both c.loop-i.all c.quick_sum-quick.result.settled (sym c.both-all.ensures ∙ h) in
          let y_is = settled_is a p x y (c.quick_sum-quick.ensures.sum_value t.1) in
          sets_cons vs i y (emphasized a x (drop (i + 1) xs))
          ∙ ap (λ (v : Float). sets vs i (v ∷ emphasized a x (drop (i + 1) xs))) y_is
          ∙ ap (sets vs i) (sym (emphasized_step i xs inside a p))
          ∙ c.loop-i.invariant.2 t.0,
      λ ws h. sets_over vs i y ws (omega (arith, h, inside)) (omega (arith, h, c.requires.0, c.loop-i.invariant.0)) ∙ c.loop-i.invariant.3 ws h,
    )

pub returns : goal.returns
returns c =
    let over : length c.args.samples.now ≤ c.loop-i.i = omega arith in
    record { values_left = λ h. rw (emphasized_end c.args.coeff c.loop-i.prior c.loop-i.i c.args.samples.now over) at (c.loop-i.invariant.2 h); same_past = c.loop-i.invariant.3 }
