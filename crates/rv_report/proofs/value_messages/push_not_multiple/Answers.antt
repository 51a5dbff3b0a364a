use Rattle.std.proofs.Common.{append_assoc}
use Rattle.rv_report.specs.Messages.{not_multiple}
use Rattle.rv_report.proofs.value_messages.push_not_multiple.Goals as goal

pub returns : goal.returns
unfolding not_multiple
returns c = simp append_assoc at (rw (c.in_ok-push.ensures, c.in_ok-push_amount.ensures) at c.push_number.ensures)
