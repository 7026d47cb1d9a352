use Rattle.std.proofs.Common.{leb, leb-true, leb-false, arith, rules}
use Rattle.std.proofs.lemmas.List.Sorted.{IsPartitionPoint-from_clause}
use Rattle.design.proofs.Ordered.{parted}
use Rattle.design.proofs.cells.passed_by.Goals as goal

pub returns-clause-passed : goal.returns-clause-passed
returns-clause-passed c =
    let point = IsPartitionPoint-from_clause (λ s. leb s.time c.args.time) _ _ c.partition_point.ensures.partitioned (parted _ c.args.time c.requires) (λ a r q k. search rules) in
    λ k d h l. leb-true _ _ (point.0 k d (omega arith) l)

pub returns-clause-later : goal.returns-clause-later
returns-clause-later c =
    let point = IsPartitionPoint-from_clause (λ s. leb s.time c.args.time) _ _ c.partition_point.ensures.partitioned (parted _ c.args.time c.requires) (λ a r q k. search rules) in
    λ k d h l. leb-false _ _ (point.1 k d h l)
