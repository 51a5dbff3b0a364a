use Rattle.std.proofs.Common.{◌≡◌, length}
use Rattle.rv_report.specs.OperandMessages.{base_in}
use Rattle.rv_report.proofs.parentheses.base_in.Given as goal

-- what is left decides
abbrev pub invariant-tokens : goal.invariant-tokens
invariant-tokens l = base_in l.line l.tokens ≡ base_in l.line l.fn.tokens

abbrev pub decreases-tokens : goal.decreases-tokens
decreases-tokens l = length l.tokens
