use Rattle.std.proofs.Common.{length, ap, arith}
use Rattle.rv_changes.proofs.syncing.put_lines.Goals as goal

pub returns-clause-count : goal.returns-clause-count
returns-clause-count c = λ done. omega (arith, c.in_ok-delete_lines.ensures.count, c.lines.invariant.count, ap length c.in_default.ensures.end)
