use Rattle.std.proofs.Common.{◌≡◌, length}
use Rattle.rv_report.specs.Operands.{value_at}
use Rattle.rv_report.proofs.operands.value_at.Given as goal

-- what is done so far and what is left are the whole
abbrev pub invariant-operands : goal.invariant-operands
invariant-operands l = value_at l.span l.operands l.entries ≡ value_at l.span l.fn.operands l.fn.entries

abbrev pub decreases-operands : goal.decreases-operands
decreases-operands l = length l.operands
