use mathlib.Core.Path.{◌≡◌, sym, ap, ◌∙◌}
use Prim.Native.Nat.{◌+◌, ◌≤◌, ◌<◌}
use native.Mathlib.Omega.{arith}
use lib.ListN.{length, drop, set, get_or, length-set}
use lib.Seq.{sets}
use lib.Ieee.{nan}
use Rattle.lists.proofs.Stores.{sets_cons}
use Rattle.vad_frames.specs.Emphasis.{emphasized_of, emphasized}
use Rattle.vad_frames.proofs.Turns.{emphasized_step, emphasized_end}
use Rattle.vad_frames.proofs.emphasize_each.Goals as goal

pub loop-i-preserved : goal.loop-i-preserved
loop-i-preserved c =
    let a = c.args.coeff in
    let xs = c.args.samples.now in
    let i = c.loop-i.i in
    let p = c.loop-i.last in
    let vs = c.loop-i.values in
    let x = get_or xs i nan in
    let inside : i < length xs = omega arith in
    let long : length (set vs i (emphasized_of a p x)) ≡ length vs = simp length-set in
    rw c.emphasize.ensures (
      long ∙ c.loop-i.invariant.0,
      sets_cons vs i (emphasized_of a p x) (emphasized a x (drop (i + 1) xs)) ∙ ap (sets vs i) (sym (emphasized_step i xs inside a p)) ∙ c.loop-i.invariant.1,
    )

pub returns : goal.returns
returns c =
    let xs = c.args.samples.now in
    let over : length xs ≤ c.loop-i.i = omega arith in
    rw (emphasized_end c.args.coeff c.loop-i.last c.loop-i.i xs over) at c.loop-i.invariant.1
