use Rattle.std.proofs.Common.{sym, ◌∙◌, refl}
use Rattle.rv_doc.proofs.reading.range_of.Goals as goal

pub returns-in_err-end : goal.returns-in_err-end
returns-in_err-end c =
    let start = sym c.position_at.ensures ∙ c.in_ok-start.was in
    let end = sym c.position_at-2.ensures ∙ c.in_err-end.was in
    rw (start, end) c.from_residual-in_err-end.ensures

pub returns : goal.returns
returns c =
    let start = sym c.position_at.ensures ∙ c.in_ok-start.was in
    let end = sym c.position_at-2.ensures ∙ c.in_ok-end.was in
    rw (start, end) refl
