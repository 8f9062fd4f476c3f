use mathlib.Core.Path.{refl}
use Rattle.vad_segments.specs.Setters.{fresh_track}
use Rattle.vad_segments.proofs.setters.fresh_track.Goals as goal

pub returns : goal.returns
unfolding fresh_track
returns c = refl
