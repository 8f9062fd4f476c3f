use mathlib.Core.Path.{◌∙◌}
use native.Mathlib.Omega.{arith}
use Rattle.vad_segments.proofs.Calls.{timed_dropped, timed_row}
use Rattle.vad_segments.proofs.closing.timed.Goals as goal

pub returns-then-time_at : goal.returns-then-time_at
returns-then-time_at c =
    let s = c.args in
    let a = c.time_at in
    let b = c.time_at-2 in
    c.dropped.ensures ∙ timed_dropped s.config s.limit s.prev_end s.start s.end s.segment a.result b.result a.ensures b.ensures (omega arith)

pub returns : goal.returns
returns c =
    let s = c.args in
    let a = c.time_at in
    let b = c.time_at-2 in
    timed_row s.config s.limit s.prev_end s.start s.end s.segment a.result b.result a.ensures b.ensures (omega arith) c.row_of.result c.row_of.ensures
