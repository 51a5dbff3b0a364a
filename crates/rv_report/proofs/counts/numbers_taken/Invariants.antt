use Rattle.std.proofs.Common.{◌≡◌, ◌++◌, length, map}
use Rattle.rv_report.specs.Counts.{numbers_taken}
use Rattle.rv_report.proofs.counts.numbers_taken.Given as goal

-- what is done so far and what is left are the whole
abbrev pub invariant-rows : goal.invariant-rows
invariant-rows l = map (λ t. t.now) l.numbers.items ++ numbers_taken l.name (map (λ row. (row.0, row.1.now)) l.rows) ≡ numbers_taken l.name (map (λ row. (row.0, row.1.now)) l.fn.rows)

abbrev pub decreases-rows : goal.decreases-rows
decreases-rows l = length l.rows
