use Rattle.std.proofs.Common.{append_assoc}
use Rattle.rv_report.specs.UnknownNames.{missing_point}
use Rattle.rv_report.proofs.unknown_names.push_missing_point.Goals as goal

pub returns : goal.returns
unfolding missing_point
returns c = simp append_assoc at (rw (c.in_ok-push_excerpt.ensures, c.in_ok-push.ensures) at c.push-2.ensures)
