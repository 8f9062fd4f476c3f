use Prim.Native.Nat.{◌+◌, ◌-◌}
use native.Mathlib.Omega.{arith}
use mathlib.Core.Path.{◌≡◌}
use lib.ListN.{length, drop, length-take}
use Rattle.vad_call.specs.Calls.{values_most, energies_most}
use Rattle.vad_lent.proofs.Laws.{heard_put}
use borrow.Author.Rules.{rules}
use Rattle.vad_lent.proofs.put_heard.Goals as goal

pub overflow_add-total : goal.overflow_add-total
overflow_add-total c = let r = c.requires.carry_len_bound in search rules

pub offset_bounds-values-consumed : goal.offset_bounds-values-consumed
offset_bounds-values-consumed c = let r = c.requires.carry_len_bound in search rules

pub slice_bounds-put_arrays-end : goal.slice_bounds-put_arrays-end
slice_bounds-put_arrays-end c = let r = c.requires.carry_len_bound in search rules

pub slice_bounds-put_arrays-end-2 : goal.slice_bounds-put_arrays-end-2
slice_bounds-put_arrays-end-2 c = let r = c.requires.carry_len_bound in search rules

pub put_arrays-requires : goal.put_arrays-requires
put_arrays-requires c =
    let r = c.requires.carry_len_bound in
    let few = length-take (c.args.heard.consumed + c.args.heard.kept.stream.carry_len - c.args.heard.consumed) (drop c.args.heard.consumed c.args.values.now) in
    let held = length-take (c.args.heard.kept.desk.held - 0) c.args.energies.now in
    let values : length c.args.values.now ≡ values_most = search rules in
    let energies : length c.args.energies.now ≡ energies_most = search rules in
    (c.requires.singles_first_in_bounds.0, c.requires.singles_first_in_bounds.1, omega arith, omega arith)

pub returns : goal.returns
returns c =
    let s = c.args in
    heard_put s.frame_length s.heard s.values.now s.energies.now s.floats.now c.put_arrays.new.floats c.put_arrays.ensures
