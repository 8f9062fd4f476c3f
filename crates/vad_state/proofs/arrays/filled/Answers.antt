use mathlib.Core.Path.{◌∙◌}
use Rattle.vad_state.proofs.Fills.{put_filled}
use Rattle.vad_state.proofs.arrays.filled.Goals as goal

pub returns : goal.returns
returns g c = c.put.ensures ∙ put_filled _ c.args.numbers.now c.requires
