use Rattle.std.proofs.Common.{append_assoc}
use Rattle.rv_report.specs.Messages.{undefined_near}
use Rattle.rv_report.proofs.name_messages.push_undefined_near.Goals as goal

pub returns : goal.returns
unfolding undefined_near
returns c =
    let sum = rw (c.in_ok-push.ensures, c.in_ok-push_quoted_from.ensures, c.place_shown-place.ensures) at c.push_question.ensures in
    simp append_assoc at sum
