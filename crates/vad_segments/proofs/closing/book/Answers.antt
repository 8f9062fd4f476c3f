use native.Mathlib.Omega.{arith}
use Rattle.vad_row.proofs.Laws.{report_le}
use Rattle.vad_segments.specs.Closing.{booked_of}
use Rattle.vad_segments.proofs.closing.book.Goals as goal

pub overflow_add-result : goal.overflow_add-result
overflow_add-result c = let one = report_le c.args.finalized.report in omega (arith, c.rows_in.ensures)

pub returns : goal.returns
unfolding booked_of
returns c = simp (c.talk_in.ensures, c.rows_in.ensures)
