use Rattle.std.proofs.Common.{◌≡◌, ◌++◌, length, map}
use Rattle.rv_report.proofs.csr_messages.names_of_rows.Given as goal

-- what is done so far and what is left are the whole
abbrev pub invariant-rows : goal.invariant-rows
invariant-rows l = map (λ t. t.now) l.names.items ++ map (λ row. row.1.now) l.rows ≡ map (λ row. row.1.now) l.fn.rows

abbrev pub decreases-rows : goal.decreases-rows
decreases-rows l = length l.rows
