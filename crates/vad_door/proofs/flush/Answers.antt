use mathlib.Core.Bool.{true}
use mathlib.Core.List.{[]}
use Rattle.vad_door.proofs.Door.{flush_ends, heard_carries}
use Rattle.vad_door.proofs.flush.Goals as goal

pub word-requires : goal.word-requires
word-requires c = let s = c.args in heard_carries s.numbers.now s.floats.now true [] s.rows.now c.call.result c.call.ensures.value

pub returns : goal.returns
returns c =
    let done = c.call in
    let s = c.args in
    let ends = flush_ends s.numbers.now s.floats.now s.rows.now done.result done.new.numbers done.new.floats done.new.rows (done.ensures.value, (done.ensures.numbers_left, (done.ensures.floats_left, done.ensures.rows_left))) c.word.result c.word.ensures in
    record { value = ends.0; numbers_left = ends.1.0; floats_left = ends.1.1.0; rows_left = ends.1.1.1 }
