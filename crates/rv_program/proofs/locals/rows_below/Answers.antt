use Rattle.std.proofs.Common.{rules, of_calls, nat_lt}
use Rattle.std.proofs.lemmas.List.Sorted.{IsPartitionPoint-from_clause, IsPartitionedBy-ltb}
use Rattle.rv_program.proofs.LocalRows.{from-order}
use Rattle.rv_program.proofs.locals.rows_below.Goals as goal

pub returns-clause-parted : goal.returns-clause-parted
returns-clause-parted c =
    let rows = c.args.rows.now in
    let parted = IsPartitionedBy-ltb (λ r. r.number) rows c.args.number (from-order 0 rows c.requires) in
    IsPartitionPoint-from_clause (λ r. nat_lt r.number c.args.number) rows _ c.partition_point.ensures.partitioned parted (λ a r q k. search (rules, of_calls))
