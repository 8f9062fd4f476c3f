use mathlib.Core.Path.{refl, ◌∙◌}
use lib.ListN.{length}
use Rattle.vad_state.proofs.Fills.{put_cleared}
use Rattle.vad_state.proofs.arrays.fill_slice.Goals as goal

pub returns : goal.returns
returns c =
    let put = c.put in
    c.clear.ensures ∙ put_cleared (length c.args.to.now) c.args.to.now c.args.numbers.now put.new.to refl c.requires put.ensures
