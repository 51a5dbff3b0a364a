use Rattle.std.proofs.Common.{◌≡◌, length}
use Rattle.std.specs.Prelude.{nat_lt}
use Rattle.std.specs.List.{list_any}
use Rattle.rv_doc.specs.Positions.{lines_of}
use Rattle.rv_doc.proofs.lines.may_have_longer_line.Given as goal

abbrev pub invariant-starts : goal.invariant-starts
invariant-starts l = list_any (λ line. nat_lt l.most (length line)) (lines_of l.rest) ≡ list_any (λ line. nat_lt l.most (length line)) (lines_of l.text)

abbrev pub decreases-starts : goal.decreases-starts
decreases-starts l = length l.rest
