-- What opening and reset answer, with the state.
use Rattle.std.specs.Prelude.{⊤}
use Rattle.vad_call.specs.declared.Answered.{Answered}

abbrev pub Opened : Type 0
Opened = Answered ⊤
