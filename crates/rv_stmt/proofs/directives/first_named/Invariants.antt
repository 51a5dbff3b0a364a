use Rattle.std.proofs.Common.{◌≡◌, map, length}
use Rattle.rv_ops.specs.Names.{first_named}
use Rattle.rv_stmt.specs.Directives.{named_directive}
use Rattle.rv_stmt.proofs.directives.first_named.Given as goal

abbrev pub invariant-loop-rows : goal.invariant-loop-rows
invariant-loop-rows l =
    first_named (map (λ row. named_directive row.0.now row.1 row.2) l.rows) l.name
    ≡ first_named (map (λ row. named_directive row.0.now row.1 row.2) l.initial.rows) l.name

abbrev pub decreases-loop-rows : goal.decreases-loop-rows
decreases-loop-rows l = length l.rows
