use Rattle.std.proofs.Common.{rules, of_calls, nat_le}
use Rattle.std.proofs.lemmas.List.Sorted.{IsPartitionPoint-from_clause, IsPartitionedBy-leb}
use Rattle.rv_program.proofs.locals.count_up_to.Goals as goal

pub returns-clause-parted : goal.returns-clause-parted
returns-clause-parted c =
    let parted = IsPartitionedBy-leb (λ l. l) _ c.args.line c.requires in
    IsPartitionPoint-from_clause (λ l. nat_le l c.args.line) _ _ c.partition_point.ensures.partitioned parted (λ a r q k. search (rules, of_calls))
