use mathlib.Core.Path.{◌∙◌, ap}
use Rattle.vad_call.specs.declared.Tally.{Tally}
use Rattle.vad_memory.specs.DetectorState.{numbers_written}
use borrow.Author.Rules.{rules}
use Rattle.vad_door.proofs.put_opened.Goals as goal

pub returns : goal.returns
returns c =
    let put = c.put_detector in
    let s = c.args in
    record { value = search rules; numbers_left = put.ensures.numbers_left ∙ ap (λ (t : Tally). numbers_written s.opened.detector.kept t s.numbers.now) c.nothing_counted.ensures; floats_left = put.ensures.floats_left }
