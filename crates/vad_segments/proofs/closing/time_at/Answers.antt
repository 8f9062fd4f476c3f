use Rattle.vad_segments.specs.Closing.{time_at}
use Rattle.vad_segments.proofs.closing.time_at.Goals as goal

pub returns : goal.returns
unfolding time_at
returns c = c.time_of_sample.ensures
