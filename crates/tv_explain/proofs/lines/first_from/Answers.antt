use Rattle.std.proofs.Common.{rules, nat_lt}
use Rattle.std.proofs.lemmas.Bool.{ltb-false, ltb-true}
use Rattle.std.proofs.lemmas.List.Sorted.{IsPartitionPoint-from_clause, IsPartitionedBy-ltb}
use Rattle.tv_explain.proofs.lines.first_from.Goals as goal

pub returns-clause-parted : goal.returns-clause-parted
returns-clause-parted g c =
    let number = g.L.Line.number in
    let line = c.args.line in
    let parted = IsPartitionPoint-from_clause (λ item. nat_lt (number item) line) c.args.items.now c.partition_point.result c.partition_point.ensures.partitioned
    (IsPartitionedBy-ltb number c.args.items.now line c.requires) (λ a r f' called. search rules) in
    ((λ k d from below. ltb-true _ _ (parted.0 k d from below)), (λ k d from below. ltb-false _ _ (parted.1 k d from below)))
