use Rattle.std.proofs.Common.{◌≡◌, length}
use Rattle.rv_report.specs.OperandMessages.{has_parenthesis}
use Rattle.rv_report.proofs.operand_messages.has_parenthesis.Given as goal

-- what is left decides
abbrev pub invariant-bytes : goal.invariant-bytes
invariant-bytes l = has_parenthesis l.text ≡ has_parenthesis l.fn.text

abbrev pub decreases-bytes : goal.decreases-bytes
decreases-bytes l = length l.text
