use Rattle.std.proofs.Common.{append_assoc}
use Rattle.rv_report.specs.Reports.{odd_note_at}
use Rattle.rv_report.proofs.notes.push_odd_note_at.Goals as goal

pub returns : goal.returns
unfolding odd_note_at
returns c =
    let before = rw c.in_ok-push_place.ensures at c.in_ok-push.ensures in
    let amount = rw before at c.in_ok-push_amount.ensures in
    let sum = rw amount at c.push-2.ensures in
    simp append_assoc at sum
