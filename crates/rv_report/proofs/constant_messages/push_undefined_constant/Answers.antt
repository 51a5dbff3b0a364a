use Rattle.std.proofs.Common.{append_assoc}
use Rattle.rv_report.specs.Messages.{undefined_constant}
use Rattle.rv_report.proofs.constant_messages.push_undefined_constant.Goals as goal

pub returns : goal.returns
unfolding undefined_constant
returns c = simp append_assoc at (rw (c.in_ok-push.ensures) at c.push_undefined_name.ensures)
