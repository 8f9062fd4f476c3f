use native.Mathlib.Omega.{arith}
use lib.ListN.{length}
use borrow.Author.Rules.{rules}
use Rattle.vad_frames.proofs.Laws.{frames_within}
use Rattle.vad_frames.proofs.Turns.{framed_flushed, framed_whole}
use Rattle.vad_frames.proofs.frame_signal.Goals as goal

pub returns-then-finish : goal.returns-then-finish
returns-then-finish c =
    let g = c.args in
    record { value = framed_flushed g.finish g.window.now g.hop_length g.values.now c.measure-frames.result c.measure-frames.ensures.value c.if-finish.true; energies_left = c.measure-frames.ensures.energies_left }

pub returns-else-finish : goal.returns-else-finish
returns-else-finish c =
    let g = c.args in
    record { value = framed_whole g.finish g.window.now g.hop_length g.values.now c.measure-frames.result c.measure-frames.ensures.value c.if-finish.false c.min-consumed.result c.min-consumed.ensures; energies_left = c.measure-frames.ensures.energies_left }

pub overflow_mul-frames : goal.overflow_mul-frames
overflow_mul-frames c =
    let g = c.args in
    let w = rw (← c.measure-frames.ensures.value) at (frames_within g.finish (length g.window.now) g.hop_length (omega arith) g.values.now) in
    search rules
