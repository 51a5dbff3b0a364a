use Rattle.std.proofs.Common.{append_assoc}
use Rattle.rv_report.specs.Messages.{undefined_but_for_colon}
use Rattle.rv_report.proofs.name_messages.push_undefined_but_for_colon.Goals as goal

pub returns : goal.returns
unfolding undefined_but_for_colon
returns c = simp append_assoc at (rw (c.in_ok-push_number.ensures, c.in_ok-push_about.ensures) at c.push.ensures)
