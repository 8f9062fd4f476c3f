use mathlib.Core.Path.{refl}
use Rattle.vad_memory.specs.DetectorState.{singles_of}
use Rattle.vad_memory.proofs.Put.{shown_is}
use Rattle.vad_memory.proofs.singles_of.Goals as goal

pub returns : goal.returns
unfolding singles_of
returns c = rw (c.unwrap_or-segment.ensures, shown_is c.args.kept.desk.track.active_segment) refl
