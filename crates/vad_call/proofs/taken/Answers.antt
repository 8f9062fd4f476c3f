use Prim.Native.Nat.{◌+◌, ◌-◌}
use native.Mathlib.Omega.{arith}
use mathlib.Core.Path.{◌≡◌}
use lib.ListN.{length, drop, length-take}
use Rattle.vad_call.specs.Calls.{values_most, energies_most}
use Rattle.vad_call.proofs.Calls.{taken_lent}
use borrow.Author.Rules.{rules}
use Rattle.vad_call.proofs.taken.Goals as goal

pub overflow_add-end : goal.overflow_add-end
overflow_add-end c = let end = c.requires.carry_len_bound.0 in search rules

pub offset_bounds-values-consumed : goal.offset_bounds-values-consumed
offset_bounds-values-consumed c = let end = c.requires.carry_len_bound.0 in search rules

pub slice_bounds-joined-end : goal.slice_bounds-joined-end
slice_bounds-joined-end c =
    let end = c.requires.carry_len_bound.0 in
    search rules

pub slice_bounds-joined-end-2 : goal.slice_bounds-joined-end-2
slice_bounds-joined-end-2 c =
    let few = c.requires.carry_len_bound.2 in
    search rules

pub joined-requires : goal.joined-requires
joined-requires c =
    let h = c.args.heard in
    let short = c.requires.carry_len_bound.1 in
    let few = c.requires.carry_len_bound.2 in
    let carry = length-take (h.consumed + h.kept.stream.carry_len - h.consumed) (drop h.consumed c.args.values.now) in
    let held = length-take (h.kept.desk.held - 0) c.args.energies.now in
    let values : length c.args.values.now ≡ values_most = search rules in
    let energies : length c.args.energies.now ≡ energies_most = search rules in
    (c.requires.frame_length_bound, omega arith, omega arith)

pub returns : goal.returns
returns c = taken_lent c.args.heard c.args.values.now c.args.energies.now c.args.detector c.joined.result c.joined.ensures
