use Rattle.std.proofs.Common.{◌≡◌, length, map}
use Rattle.rv_report.specs.Advice.{advice_in}
use Rattle.rv_report.proofs.advice.advice_in.Given as goal

-- what is left decides
abbrev pub invariant-rows : goal.invariant-rows
invariant-rows l = advice_in (map (λ row. (map (λ n. n.now) row.0.now, row.1.now)) l.rows) l.name ≡ advice_in (map (λ row. (map (λ n. n.now) row.0.now, row.1.now)) l.fn.rows) l.name

abbrev pub decreases-rows : goal.decreases-rows
decreases-rows l = length l.rows
