use mathlib.Core.Path.{ap, ◌∙◌}
use native.Mathlib.Omega.{arith}
use lib.ListN.{length}
use lib.Seq.{sets}
use Rattle.vad_row.proofs.Laws.{fields_length}
use Rattle.vad_row.proofs.put_row.Goals as goal

pub put_numbers-requires : goal.put_numbers-requires
put_numbers-requires c = let w = ap length c.numbers_of.ensures in omega arith

pub returns : goal.returns
returns c =
    let s = c.args in
    let numbers = c.numbers_of in
    let put = c.put_numbers in
    record { value = omega (arith, fields_length s.row); rows_left = put.ensures ∙ ap (sets s.rows.now s.at) numbers.ensures }
