use Rattle.std.proofs.Common.{append_assoc}
use Rattle.rv_report.specs.Messages.{faulty_equ_of}
use Rattle.rv_report.proofs.name_messages.push_faulty_equ_of.Goals as goal

pub returns : goal.returns
unfolding faulty_equ_of
returns g c = simp append_assoc at (rw (c.definition.ensures, c.in_ok-push_about.ensures) at c.push_line_of_equ.ensures)
