use mathlib.Core.Path.{ap, ap₂, ◌∙◌}
use lib.Ieee.{binary32, div}
use Rattle.float.specs.Finite.{or_zero}
use Rattle.float.specs.Root.{root_of}
use Rattle.vad_frames.specs.Energy.{mean_square_of, energy_of}
use Rattle.vad_frames.proofs.frame_energy.Goals as goal

pub returns : goal.returns
unfolding energy_of mean_square_of
returns c =
    c.or_zero.ensures ∙ ap or_zero (c.sqrt.ensures ∙ ap root_of (ap₂ (div binary32) c.sum_of_squares.ensures c.nearest.ensures))
