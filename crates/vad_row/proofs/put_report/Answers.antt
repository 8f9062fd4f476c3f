use mathlib.Core.Path.{refl, sym}
use native.Mathlib.Nat.{add-zero}
use Rattle.vad_row.proofs.Laws.{flat_none, flat_row}
use Rattle.vad_row.proofs.put_report.Goals as goal

pub put_row-requires : goal.put_row-requires
put_row-requires c = rw (c.in-Some.is, flat_row c.in-Some.row) at c.requires

pub returns-in-None : goal.returns-in-None
returns-in-None c = rw (c.in-None.is, flat_none) record { value = sym (add-zero _); rows_left = refl }

pub returns-in-Some : goal.returns-in-Some
returns-in-Some c = rw (c.in-Some.is, flat_row c.in-Some.row) c.put_row.ensures
