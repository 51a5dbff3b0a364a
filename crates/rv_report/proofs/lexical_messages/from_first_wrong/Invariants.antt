use Rattle.std.proofs.Common.{◌≡◌, length}
use Rattle.rv_report.specs.LexicalMessages.{from_first_wrong}
use Rattle.rv_report.proofs.lexical_messages.from_first_wrong.Given as goal

-- what is left decides
abbrev pub invariant-digits : goal.invariant-digits
invariant-digits l = from_first_wrong l.base l.digits ≡ from_first_wrong l.base l.fn.digits

abbrev pub decreases-digits : goal.decreases-digits
decreases-digits l = length l.digits
