use mathlib.Core.Path.{◌≡◌, ap, ◌∙◌}
use Prim.Native.Nat.{◌-◌}
use native.Mathlib.Omega.{arith}
use lib.ListN.{length, take, drop, replicate, length-take, length-drop, length-replicate}
use Rattle.float.specs.Numbers.{zero32}
use Rattle.lists.proofs.Stores.{sets_mid}
use Rattle.vad_state.proofs.Fills.{cleared}
use Rattle.vad_state.proofs.arrays.clear.Goals as goal

pub returns : goal.returns
returns c =
    let to = c.args.to.now in
    let from = c.args.from in
    let rest = length to - from in
    let many = length-replicate rest zero32 in
    let whole : length (take rest (drop from to)) ≡ rest = omega (arith, length-take rest (drop from to), length-drop from to) in
    let zeros = c.fill.ensures.after (λ y same. same) ∙ ap (λ k. replicate k zero32) whole in
    sets_mid to (replicate rest zero32) _ from _ (omega arith) (omega arith) zeros ∙ cleared to from c.requires
