use Rattle.std.proofs.Common.{◌≡◌, map, length}
use Rattle.rv_stmt.specs.Sections.{first_beginning}
use Rattle.rv_stmt.proofs.section.first_beginning.Given as goal

abbrev pub invariant-loop-rows : goal.invariant-loop-rows
invariant-loop-rows l =
    first_beginning (map (λ row. (row.0.now, row.1)) l.rows) l.name
    ≡ first_beginning (map (λ row. (row.0.now, row.1)) l.initial.rows) l.name

abbrev pub decreases-loop-rows : goal.decreases-loop-rows
decreases-loop-rows l = length l.rows
