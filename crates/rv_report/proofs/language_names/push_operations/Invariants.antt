use Rattle.std.proofs.Common.{◌≡◌, ◌++◌, length, map}
use Rattle.rv_report.proofs.language_names.push_operations.Given as goal

-- what is done so far and what is left are the whole
abbrev pub invariant-rows : goal.invariant-rows
invariant-rows l = map (λ t. t.now) l.names.items ++ map (λ row. row.1.now) l.rows ≡ map (λ t. t.now) l.fn.names.items ++ map (λ row. row.1.now) l.fn.rows

abbrev pub decreases-rows : goal.decreases-rows
decreases-rows l = length l.rows
