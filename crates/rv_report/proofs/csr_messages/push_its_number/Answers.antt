use Rattle.std.proofs.Common.{append_assoc}
use Rattle.rv_report.specs.Csrs.{its_number}
use Rattle.rv_report.proofs.csr_messages.push_its_number.Goals as goal

pub returns : goal.returns
unfolding its_number
returns c = simp append_assoc at (rw (c.in_ok-push_byte.ensures, c.in_ok-push.ensures, c.upper_digit.ensures) at c.push_upper_hex.ensures)
