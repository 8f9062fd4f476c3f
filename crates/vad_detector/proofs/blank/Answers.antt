use Rattle.vad_state.specs.Arrays.{filled_of}
use Rattle.vad_detector.proofs.blank.Goals as goal

pub returns : goal.returns
unfolding filled_of
returns c = simp (c.filled.ensures, c.fresh_track.ensures)
