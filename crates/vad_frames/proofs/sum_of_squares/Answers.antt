use mathlib.Core.Path.{sym, ◌∙◌}
use Prim.Native.Nat.{◌<◌}
use native.Mathlib.Omega.{arith}
use lib.ListN.{length}
use Rattle.vad_frames.specs.Energy.{square_of}
use Rattle.vad_frames.proofs.Turns.{squares_step, squares_end}
use Rattle.vad_frames.proofs.sum_of_squares.Goals as goal

pub loop-i-preserved : goal.loop-i-preserved
unfolding square_of
loop-i-preserved c =
    let xs = c.args.frame.now in
    let ws = c.args.window.now in
    let i = c.loop-i.i in
    let inside : i < length xs = omega arith in
    let beside : i < length ws = omega arith in
    squares_step c.loop-i.total i xs ws inside beside ∙ c.loop-i.invariant

pub returns : goal.returns
returns c =
    sym (squares_end c.loop-i.total c.loop-i.i c.args.frame.now c.args.window.now (omega arith)) ∙ c.loop-i.invariant
