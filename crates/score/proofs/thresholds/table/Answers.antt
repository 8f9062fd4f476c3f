use Rattle.score.proofs.Entries.{table, part0, part1, part2, part3, part4, part5, part6, part7, part8, rule}
use Rattle.score.proofs.thresholds.table.Goals as goal

pub returns-clause-entries : goal.returns-clause-entries
unfolding table part0 part1 part2 part3 part4 part5 part6 part7 part8
returns-clause-entries c = rule
