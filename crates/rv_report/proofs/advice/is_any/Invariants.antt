use Rattle.std.proofs.Common.{◌≡◌, length, map}
use Rattle.rv_report.specs.Advice.{is_any}
use Rattle.rv_report.proofs.advice.is_any.Given as goal

-- what is left decides
abbrev pub invariant-names : goal.invariant-names
invariant-names l = is_any (map (λ n. n.now) l.names) l.name ≡ is_any (map (λ n. n.now) l.fn.names) l.name

abbrev pub decreases-names : goal.decreases-names
decreases-names l = length l.names
