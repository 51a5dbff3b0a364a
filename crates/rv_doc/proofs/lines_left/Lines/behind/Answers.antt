use Rattle.std.proofs.Common.{drop, sym, ◌∙◌, ap}
use Rattle.std.proofs.Math.Seq.{drop-nil}
use Rattle.rv_doc.proofs.lines_left.Lines.behind.Goals as goal

pub returns-in_default : goal.returns-in_default
returns-in_default c = c.in_default.ensures.ended ∙ sym (ap (λ l. drop c.lines.left l) c.in_default.ensures.end ∙ drop-nil c.lines.left) ∙ c.lines.invariant
