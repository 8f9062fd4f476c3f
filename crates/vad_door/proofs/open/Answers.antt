use mathlib.Core.Path.{◌≡◌, sym, ◌∙◌}
use mathlib.Core.Bool.{true}
use native.Mathlib.Omega.{arith}
use Rattle.vad_memory.specs.DetectorState.{long_enough}
use Rattle.vad_door.proofs.Door.{open_short, open_put}
use Rattle.vad_door.proofs.open.Goals.{Else-not-long_enough}
use Rattle.vad_door.proofs.open.Goals as goal

long : (k : Else-not-long_enough) → let s = k.args in long_enough s.numbers.now s.floats.now ≡ true
long k = sym k.long_enough.ensures ∙ k.if-not-long_enough.false

pub returns-then-not-long_enough : goal.returns-then-not-long_enough
returns-then-not-long_enough c =
    let s = c.args in
    let ends = open_short s.config s.window.now s.speech_floor_rise s.numbers.now s.floats.now (sym c.long_enough.ensures ∙ c.if-not-long_enough.true) _ (omega arith) in
    record { value = ends.0; numbers_left = ends.1.0; floats_left = ends.1.1 }

pub put_opened-requires : goal.put_opened-requires
put_opened-requires c = long (goal.at.put_opened-requires c).Else-not-long_enough

pub returns : goal.returns
returns c =
    let put = c.put_opened in
    let new = c.«open» in
    let s = c.args in
    let ends = open_put s.config s.window.now s.speech_floor_rise s.numbers.now s.floats.now (long (goal.at.returns c).Else-not-long_enough) new.result new.ensures put.result put.ensures.value put.new.numbers put.ensures.numbers_left put.new.floats put.ensures.floats_left in
    record { value = ends.0; numbers_left = ends.1.0; floats_left = ends.1.1 }
