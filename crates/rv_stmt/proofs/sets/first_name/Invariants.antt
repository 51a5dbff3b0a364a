use Rattle.std.proofs.Common.{◌≡◌, length, map}
use Rattle.rv_ops.specs.Names.{first_name}
use Rattle.rv_stmt.proofs.sets.first_name.Given as goal

abbrev pub invariant-loop-rows : goal.invariant-loop-rows
invariant-loop-rows l =
    first_name (map (λ row. (row.0, row.1.now)) l.rows) l.number ≡ first_name (map (λ row. (row.0, row.1.now)) l.initial.rows) l.number

abbrev pub decreases-loop-rows : goal.decreases-loop-rows
decreases-loop-rows l = length l.rows
