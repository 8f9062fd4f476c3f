-- What detect and flush answer, with the state.
use Rattle.vad_call.specs.declared.Answered.{Answered}
use Rattle.vad_call.specs.declared.Tally.{Tally}

abbrev pub Detected : Type 0
Detected = Answered Tally
