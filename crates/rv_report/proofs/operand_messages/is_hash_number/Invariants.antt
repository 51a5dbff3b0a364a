use Rattle.std.proofs.Common.{◌≡◌, length}
use Rattle.rv_report.specs.OperandMessages.{is_hash_number}
use Rattle.rv_report.proofs.operand_messages.is_hash_number.Given as goal

-- what is left decides
abbrev pub invariant-bytes : goal.invariant-bytes
invariant-bytes l = is_hash_number l.rest ≡ is_hash_number l.fn.rest

abbrev pub decreases-bytes : goal.decreases-bytes
decreases-bytes l = length l.rest
