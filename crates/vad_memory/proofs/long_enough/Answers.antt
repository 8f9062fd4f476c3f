use mathlib.Core.Path.{refl}
use Prim.Native.Nat.{◌≤◌, ◌<◌}
use native.Mathlib.Omega.{arith}
use lib.ListN.{length}
use borrow.Author.Tests.{le-leb, lt-leb}
use Rattle.vad_layout.specs.Layout.{numbers_most}
use Rattle.vad_memory.specs.DetectorState.{long_enough}
use Rattle.vad_memory.proofs.long_enough.Goals as goal

pub returns-then-numbers-ge-NUMBERS : goal.returns-then-numbers-ge-NUMBERS
unfolding long_enough
returns-then-numbers-ge-NUMBERS c =
    let ns = c.args.numbers.now in
    let long : numbers_most ≤ length ns = (let t = c.if-numbers-ge-NUMBERS.true in omega arith) in
    rw (le-leb numbers_most (length ns) long) refl

pub returns-else-numbers-ge-NUMBERS : goal.returns-else-numbers-ge-NUMBERS
unfolding long_enough
returns-else-numbers-ge-NUMBERS c =
    let ns = c.args.numbers.now in
    let short : length ns < numbers_most = (let t = c.if-numbers-ge-NUMBERS.false in omega arith) in
    rw (lt-leb numbers_most (length ns) short) refl
