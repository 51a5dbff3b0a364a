use Rattle.std.proofs.Common.{append_assoc, w64}
use Rattle.std.proofs.lemmas.Int.{to_z-of_z}
use Rattle.rv_report.specs.Messages.{beyond_reach}
use Rattle.rv_report.proofs.value_messages.push_beyond_reach.Goals as goal

pub returns : goal.returns
unfolding beyond_reach
returns c =
    let sum = rw (c.in_ok-push-3.ensures, c.in_ok-push-2.ensures, c.side.ensures, c.in_ok-push_number.ensures, c.unsigned_abs.ensures.value, c.in_ok-push.ensures) at c.push_limits.ensures in
    simp append_assoc at (rw (to_z-of_z w64 c.args.distance c.ranges.distance) at sum)
