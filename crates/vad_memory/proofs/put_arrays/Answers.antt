use mathlib.Core.Path.{◌≡◌}
use Prim.Native.Nat.{◌≤◌}
use native.Mathlib.Omega.{arith}
use lib.ListN.{length}
use Rattle.vad_layout.specs.Layout.{singles_first}
use Rattle.ranges.specs.Sizes.{frame_most, warmup_most}
use Rattle.vad_memory.proofs.Put.{three_parts}
use borrow.Author.Rules.{rules}
use Rattle.vad_memory.proofs.put_arrays.Goals as goal

pub returns : goal.returns
returns c =
    let d = c.args.detector in
    let window : length d.window ≡ frame_most = search rules in
    let carry : length d.carry ≡ frame_most = search rules in
    let warmup : length d.warmup ≡ warmup_most = search rules in
    let room : singles_first ≤ length c.args.to.now = (let long = c.requires in omega arith) in
    three_parts c.args.to.now _ _ _ _ _ _ window carry warmup room c.copy_from_slice.ensures.after c.copy_from_slice-2.ensures.after c.copy_from_slice-3.ensures.after
