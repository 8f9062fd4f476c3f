use mathlib.Core.Path.{refl}
use Rattle.lists.proofs.Flags.{flag_byte}
use Rattle.vad_memory.specs.DetectorState.{tally_numbers, rule_numbers, stream_numbers, active_numbers, desk_numbers, numbers_of}
use Rattle.vad_memory.proofs.Put.{open_byte, shown_is}
use Rattle.vad_memory.proofs.numbers_of.Goals as goal

pub returns : goal.returns
unfolding numbers_of tally_numbers rule_numbers stream_numbers desk_numbers active_numbers
returns c =
    let k = c.args.kept in
    let a = k.desk.track.active_segment in
    rw (flag_byte k.rules.config.has_pre_emphasis, flag_byte k.desk.warming, c.is_some.ensures, open_byte a, c.unwrap_or-segment.ensures, shown_is a) refl
