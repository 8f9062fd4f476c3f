use Rattle.vad_lent.proofs.Laws.{three_put}
use Rattle.vad_lent.proofs.put_arrays.Goals as goal

pub returns : goal.returns
returns c =
    let one = c.clear in
    let two = c.fill_slice in
    let three = c.fill_slice-2 in
    three_put c.args.frame_length c.args.floats.now c.args.carry.now c.args.held.now one.new.to two.new.to three.new.to c.requires.0 c.requires.1 c.requires.2 c.requires.3 one.ensures two.ensures three.ensures
