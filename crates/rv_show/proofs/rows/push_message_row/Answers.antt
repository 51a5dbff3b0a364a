use Rattle.std.proofs.Common.{append_assoc}
use Rattle.rv_show.specs.Rows.{message_row}
use Rattle.rv_show.proofs.rows.push_message_row.Goals as goal

pub returns : goal.returns
unfolding message_row
returns c =
    let first = rw (c.in_ok-push-2.ensures, c.in_ok-push_column.ensures, c.in_ok-push.ensures) at c.in_ok-push_gravity.ensures in
    let message = rw (c.in_ok-push-4.ensures, c.in_ok-push-3.ensures, first, c.in_ok-push_place.ensures) at c.in_ok-push-5.ensures in
    let sum = rw (c.in_ok-push-6.ensures, message) at c.push-7.ensures in
    simp append_assoc at sum
