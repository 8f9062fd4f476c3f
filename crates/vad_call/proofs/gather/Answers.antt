use Rattle.vad_call.proofs.Calls.{gathered}
use Rattle.vad_call.proofs.gather.Goals as goal

pub returns : goal.returns
returns c =
    let put = c.put_first in
    let last = c.pre_emphasize in record { value = last.ensures.value; values_left = gathered c.args.carry.now c.args.samples.now c.args.carry_len c.args.coeff c.args.previous c.args.values.now put.new.to last.new.values c.requires.0 c.requires.1 put.ensures last.ensures.values_left }
