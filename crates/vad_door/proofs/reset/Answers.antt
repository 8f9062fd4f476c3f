use mathlib.Core.Path.{◌≡◌, sym, ◌∙◌}
use mathlib.Core.Bool.{true}
use Rattle.vad_memory.specs.DetectorState.{readable}
use Rattle.vad_door.proofs.Door.{readable_long, reset_unread, reset_refused, reset_put}
use Rattle.vad_door.proofs.reset.Goals.{Else-not-is_readable}
use Rattle.vad_door.proofs.reset.Goals as goal

good : (k : Else-not-is_readable) → let s = k.args in readable s.numbers.now s.floats.now ≡ true
good k = sym k.is_readable.ensures ∙ k.if-not-is_readable.false

pub returns-then-not-is_readable : goal.returns-then-not-is_readable
returns-then-not-is_readable c =
    let s = c.args in
    let bad = sym c.is_readable.ensures ∙ c.if-not-is_readable.true in
    let ends = reset_unread s.numbers.now s.floats.now bad s.stream_start_time c.word.result c.word.ensures in
    record { value = ends.0; numbers_left = ends.1.0; floats_left = ends.1.1 }

pub emptied-opened-requires : goal.emptied-opened-requires
emptied-opened-requires c = good (goal.at.emptied-opened-requires c).Else-not-is_readable

pub returns-then-is_err : goal.returns-then-is_err
returns-then-is_err c =
    let new = c.emptied-opened in
    let s = c.args in
    let ends = reset_refused s.numbers.now s.floats.now (good (goal.at.returns-then-is_err c).Else-not-is_readable) s.stream_start_time new.result new.ensures _ c.number_in.ensures (sym c.is_err.ensures.value ∙ c.if-is_err.true) in
    record { value = ends.0; numbers_left = ends.1.0; floats_left = ends.1.1 }

pub put_opened-requires : goal.put_opened-requires
put_opened-requires c = readable_long _ _ (good (goal.at.put_opened-requires c).Else-not-is_readable)

pub returns : goal.returns
returns c =
    let put = c.put_opened in
    let new = c.emptied-opened in
    let s = c.args in
    let ends = reset_put s.numbers.now s.floats.now (good (goal.at.returns c).Else-not-is_readable) s.stream_start_time new.result new.ensures put.result put.ensures.value (sym c.is_err.ensures.value ∙ c.if-is_err.false) put.new.numbers put.ensures.numbers_left put.new.floats put.ensures.floats_left in
    record { value = ends.0; numbers_left = ends.1.0; floats_left = ends.1.1 }
