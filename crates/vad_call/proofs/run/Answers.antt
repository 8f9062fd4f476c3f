use mathlib.Core.Path.{refl, sym, ◌∙◌}
use Rattle.vad_state.proofs.Parts.{parts, frame_high}
use Rattle.vad_call.proofs.run.Goals as goal

pub hear-requires : goal.hear-requires
hear-requires c =
    record { arrays_value = c.requires.detector_value; values_len = (refl, refl); samples_len_bound = c.requires.samples_len_bound }

pub settled-requires : goal.settled-requires
settled-requires c =
    let h = c.hear in
    record { frame_length_bound = frame_high c.args.detector (parts c.args.detector c.requires.detector_value); carry_len_bound = h.ensures.carry_len_bound }

pub returns : goal.returns
returns c =
    let h = c.hear in
    record { value = c.settled.ensures ∙ sym h.ensures.rows_value; rows_left = h.ensures.rows_left }
