use Rattle.std.proofs.Common.{◌≡◌, ◌++◌, length}
use Rattle.rv_report.specs.OperandMessages.{separation}
use Rattle.rv_report.proofs.operand_messages.push_separation.Given as goal

-- what is left decides, and nothing is written before
abbrev pub invariant-tokens : goal.invariant-tokens
invariant-tokens l = l.out ++ separation l.line l.tokens ≡ l.fn.out ++ separation l.line l.fn.tokens

abbrev pub decreases-tokens : goal.decreases-tokens
decreases-tokens l = length l.tokens
