use Rattle.vad_state.specs.State.{window_of}
use Rattle.vad_call.specs.Calls.{joined_of}
use Rattle.vad_call.proofs.joined.Goals as goal

pub returns : goal.returns
unfolding joined_of window_of
returns c = rw (c.clear_past.ensures, c.fill.ensures, c.fill-2.ensures)
