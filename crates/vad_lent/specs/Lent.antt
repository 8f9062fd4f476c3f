-- A state whose arrays stay in the floats that the host lends, in the places of vad_layout.
use Rattle.std.specs.Prelude.{List, ◌++◌, take, drop, Float}
use Rattle.vad_layout.specs.Layout.{carry_first, warmup_first, singles_first}
use Rattle.ranges.specs.Sizes.{frame_most, warmup_most}
use Rattle.vad_state.specs.State.{state_of}
use Rattle.vad_state.specs.declared.Kept.{Kept}
use Rattle.vad_state.specs.declared.VadDetector.{VadDetector}

unfoldable pub state_at : Kept → List Float → VadDetector
state_at k fs = state_of k (take frame_most fs) (take frame_most (drop carry_first fs)) (take warmup_most (drop warmup_first fs))

-- the floats with a state's arrays in their places
unfoldable pub arrays_in : VadDetector → List Float → List Float
arrays_in d fs = d.window ++ (d.carry ++ (d.warmup ++ drop singles_first fs))
