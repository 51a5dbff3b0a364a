use Rattle.std.proofs.Common.{◌≡◌, length}
use Rattle.rv_report.specs.OperandMessages.{has_word}
use Rattle.rv_report.proofs.parentheses.has_word.Given as goal

-- what is left decides
abbrev pub invariant-tokens : goal.invariant-tokens
invariant-tokens l = has_word l.word l.line l.tokens ≡ has_word l.word l.line l.fn.tokens

abbrev pub decreases-tokens : goal.decreases-tokens
decreases-tokens l = length l.tokens
