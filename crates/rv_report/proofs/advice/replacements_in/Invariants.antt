use Rattle.std.proofs.Common.{◌≡◌, length, map}
use Rattle.rv_report.specs.Advice.{replacements_in}
use Rattle.rv_report.proofs.advice.replacements_in.Given as goal

-- what is left decides
abbrev pub invariant-rows : goal.invariant-rows
invariant-rows l = replacements_in (map (λ row. (map (λ n. n.now) row.0.now, map (λ n. n.now) row.2.now)) l.rows) l.name ≡ replacements_in (map (λ row. (map (λ n. n.now) row.0.now, map (λ n. n.now) row.2.now)) l.fn.rows) l.name

abbrev pub decreases-rows : goal.decreases-rows
decreases-rows l = length l.rows
