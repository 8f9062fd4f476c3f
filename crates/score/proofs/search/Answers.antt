use Rattle.std.proofs.Common.{leb, ◌∙◌, rules}
use Rattle.std.proofs.lemmas.List.Sorted.{IsPartitionPoint-from_clause}
use Rattle.score.proofs.Laws.{thresholds_parted, parted_score}
use Rattle.score.proofs.search.Goals as goal

pub returns : goal.returns
returns c =
    let t = c.table in
    let xs = t.result.now in
    let b = c.args.bits in
    let p = c.partition_point in
    c.saturating_sub.ensures
    ∙ parted_score xs b p.result t.ensures.entries c.requires t.ensures.len p.ensures.bound
    (IsPartitionPoint-from_clause (λ y. leb y b) xs p.result p.ensures.partitioned (thresholds_parted xs b t.ensures.len t.ensures.entries) (λ a r f k. search rules))
