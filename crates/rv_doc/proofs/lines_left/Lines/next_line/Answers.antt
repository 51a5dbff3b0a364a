use Rattle.std.proofs.Common.{◌≡◌, drop, refl, sym, ◌∙◌}
use Rattle.rv_doc.specs.Positions.{lines_of}
use Rattle.rv_doc.proofs.Starts.{lines_only, lines_split, unbroken_first, unbroken_only}
use Rattle.rv_doc.proofs.lines_left.Lines.next_line.Goals as goal

pub returns-in_default-clause-line : goal.returns-in_default-clause-line
returns-in_default-clause-line c =
    let rest = c.in_ok-rest.rest.now in
    let left : c.args.self.now ≡ lines_of rest = rw c.in_ok-rest.was at (sym c.self.view_is) in
    left ∙ lines_only rest c.in_default.ensures

pub returns-in_default-clause-unbroken : goal.returns-in_default-clause-unbroken
returns-in_default-clause-unbroken c = unbroken_only c.in_ok-rest.rest.now c.in_default.ensures

pub returns-clause-line : goal.returns-clause-line
returns-clause-line c =
    let rest = c.in_ok-rest.rest.now in
    let at = c.in-Some.at in
    let left : c.args.self.now ≡ lines_of rest = rw c.in_ok-rest.was at (sym c.self.view_is) in
    let later : c.split_at-2.result.1.now ≡ drop 1 (drop at rest) = rw (c.split_at-2.ensures.back, c.split_at.ensures.back) refl in
    rw (c.split_at.ensures.front, later) (left ∙ lines_split rest at c.in-Some.ensures)

pub returns-clause-unbroken : goal.returns-clause-unbroken
returns-clause-unbroken c = rw c.split_at.ensures.front (unbroken_first c.in_ok-rest.rest.now c.in-Some.at c.in-Some.ensures)
