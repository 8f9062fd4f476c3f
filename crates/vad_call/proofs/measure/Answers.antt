use mathlib.Core.Path.{ap, ◌∙◌}
use native.Mathlib.Omega.{arith}
use Rattle.vad_frames.specs.declared.Framed.{Framed}
use Rattle.vad_call.proofs.Calls.{frames_asked, joined_few, joined_is, joined_put}
use borrow.Author.Rules.{rules}
use Rattle.vad_call.proofs.measure.Goals as goal

pub frame_values-framed-requires : goal.frame_values-framed-requires
frame_values-framed-requires c =
    let put = c.put_first in
    record { le_hop_length = (omega arith, c.requires.le_hop_length.1, c.requires.le_hop_length.2); values_in_bounds = frames_asked c.args.finish c.args.window.now c.args.frame_length c.args.hop_length c.requires.le_hop_length.0 c.requires.le_hop_length.2 c.args.warmup.now c.args.held c.requires.held_le_warmup_most.0 c.requires.held_le_warmup_most.1 c.args.values.now c.requires.held_le_warmup_most.2 put.new.to (put.auto.to ∙ c.requires.held_le_warmup_most.3) }

pub overflow_add-frames : goal.overflow_add-frames
overflow_add-frames c =
    let framed = c.frame_values-framed in
    let few = joined_few c.args.finish c.args.window.now c.args.frame_length c.args.hop_length c.requires.le_hop_length.0 c.requires.le_hop_length.2 c.args.warmup.now c.args.held c.requires.held_le_warmup_most.0 c.requires.held_le_warmup_most.1 c.args.values.now c.requires.held_le_warmup_most.2 framed.result framed.ensures.value in
    search rules

pub returns : goal.returns
returns c =
    let put = c.put_first in
    let framed = c.frame_values-framed in record { frames_value = joined_is c.args.finish c.args.window.now c.args.frame_length c.args.hop_length c.requires.le_hop_length.0 c.requires.le_hop_length.2 c.args.warmup.now c.args.held c.requires.held_le_warmup_most.0 c.requires.held_le_warmup_most.1 c.args.values.now c.requires.held_le_warmup_most.2 framed.result framed.ensures.value; consumed_value = ap (λ (f : Framed). f.consumed) framed.ensures.value; energies_left = joined_put c.args.finish c.args.window.now c.args.frame_length c.args.hop_length c.requires.le_hop_length.0 c.requires.le_hop_length.2 c.args.warmup.now c.args.held c.requires.held_le_warmup_most.0 c.requires.held_le_warmup_most.1 c.args.values.now c.requires.held_le_warmup_most.2 c.args.energies.now put.new.to framed.new.energies c.requires.held_le_warmup_most.3 put.ensures framed.ensures.energies_left }
