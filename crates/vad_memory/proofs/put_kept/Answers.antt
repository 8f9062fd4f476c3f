use mathlib.Core.Path.{refl, sym, ap, ◌∙◌}
use mathlib.Core.List.{◌++◌}
use native.Mathlib.Omega.{arith}
use lib.ListN.{length, drop}
use lib.Seq.{length-take-le}
use Rattle.vad_layout.specs.Layout.{numbers_most, singles_first}
use Rattle.vad_memory.specs.DetectorState.{singles_of, numbers_written}
use Rattle.vad_memory.proofs.Parts.{long_parts}
use Rattle.vad_memory.proofs.Put.{numbers_count, put_at}
use Rattle.vad_memory.proofs.put_kept.Goals as goal

pub slice_bounds-copy_from_slice-end : goal.slice_bounds-copy_from_slice-end
slice_bounds-copy_from_slice-end c = (long_parts _ _ c.requires).numbers

pub slice_bounds-copy_from_slice-end-2 : goal.slice_bounds-copy_from_slice-end-2
slice_bounds-copy_from_slice-end-2 c = sym (length-take-le numbers_most c.args.numbers.now (long_parts _ _ c.requires).numbers)

pub copy_from_slice-requires : goal.copy_from_slice-requires
copy_from_slice-requires c =
    length-take-le numbers_most c.args.numbers.now (long_parts _ _ c.requires).numbers ∙ sym (ap length c.numbers_of.ensures ∙ numbers_count c.args.kept c.args.tally)

pub slice_bounds-copy_from_slice-end-4 : goal.slice_bounds-copy_from_slice-end-4
slice_bounds-copy_from_slice-end-4 c = let long = (long_parts _ _ c.requires).floats in omega arith

pub returns-clause-numbers_left : goal.returns-clause-numbers_left
unfolding numbers_written
returns-clause-numbers_left c = ap (λ ns. ns ++ drop numbers_most c.args.numbers.now) (c.copy_from_slice.ensures.after ∙ c.numbers_of.ensures)

pub returns-clause-floats_left : goal.returns-clause-floats_left
unfolding singles_of
returns-clause-floats_left c =
    let long = (long_parts _ _ c.requires).floats in
    put_at c.args.floats.now _ _ singles_first (c.copy_from_slice-2.ensures.after ∙ c.singles_of.ensures) refl (omega arith)
