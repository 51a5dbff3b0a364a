use Rattle.std.proofs.Common.{◌≡◌, drop}
use Rattle.rv_doc.proofs.lines_left.Lines.behind.Given as goal

abbrev pub invariant-lines : goal.invariant-lines
invariant-lines l = drop l.left l.self ≡ drop l.count l.initial.self

abbrev pub decreases-lines : goal.decreases-lines
decreases-lines l = l.left
