use Rattle.std.proofs.Common.{rules, of_calls, nat_lt, take, ap, sym, subst, ◌∙◌}
use Rattle.std.specs.List.Sorted.{IsNonDecreasing}
use Rattle.std.proofs.lemmas.List.Sorted.{IsPartitionPoint-from_clause, IsPartitionedBy-ltb, IsNonDecreasingBy-take}
use Rattle.rv_program.specs.internal.Locals.{lines_below}
use Rattle.rv_program.specs.lemmas.LocalLines.{below-parted}
use Rattle.rv_program.proofs.locals.keep_below.Goals as goal

pub returns-clause-lines : goal.returns-clause-lines
returns-clause-lines c =
    let row = c.as_slice.result.now in
    let parted = IsPartitionedBy-ltb (λ l. l) row c.args.line (subst IsNonDecreasing (sym c.as_slice.ensures) c.requires) in
    let is = IsPartitionPoint-from_clause (λ l. nat_lt l c.args.line) row _ c.partition_point-count.ensures.partitioned parted (λ a r q k. search (rules, of_calls)) in
    c.truncate.ensures ∙ ap (take c.partition_point-count.result) (sym c.as_slice.ensures) ∙ below-parted c.args.line row c.partition_point-count.result is ∙ ap (lines_below c.args.line) c.as_slice.ensures

pub returns-clause-rising : goal.returns-clause-rising
returns-clause-rising c = subst IsNonDecreasing (sym c.truncate.ensures) (IsNonDecreasingBy-take (λ l. l) c.partition_point-count.result c.args.row.now c.requires)
