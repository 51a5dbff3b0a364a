use Rattle.std.proofs.Common.{◌≡◌, length}
use Rattle.rv_report.specs.Operands.{operand_at}
use Rattle.rv_report.proofs.operands.operand_at.Given as goal

-- what is done so far and what is left are the whole
abbrev pub invariant-operands : goal.invariant-operands
invariant-operands l = operand_at l.span l.operands ≡ operand_at l.span l.fn.operands

abbrev pub decreases-operands : goal.decreases-operands
decreases-operands l = length l.operands
