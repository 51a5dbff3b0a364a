use Rattle.std.proofs.Common.{◌≡◌, ◌<◌, length, drop, arith, sym, refl, ◌∙◌}
use Rattle.std.proofs.lemmas.Bool.Decides.{nat_tests}
use Rattle.rv_files.proofs.Cuts.{first_line, last_line, unbroken_before, unbroken_none}
use Rattle.rv_files.proofs.lines.Lines.next_line.Goals as goal

pub returns-in_default-clause-line : goal.returns-in_default-clause-line
returns-in_default-clause-line c =
    let some : 0 < length c.self.inside.rest.now = grind (arith, nat_tests, c.is_empty.ensures, c.if-is_empty.false) in
    sym c.self.view_is ∙ last_line c.self.inside.rest.now c.in_default.ensures some

pub returns-in_default-clause-unbroken : goal.returns-in_default-clause-unbroken
returns-in_default-clause-unbroken c = unbroken_none c.self.inside.rest.now c.in_default.ensures

pub returns-clause-line : goal.returns-clause-line
returns-clause-line c =
    let bytes = c.self.inside.rest.now in
    let at = c.in-Some.at in
    let rest : c.split_at-2.result.1.now ≡ drop 1 (drop at bytes) = rw (c.split_at-2.ensures.back, c.split_at.ensures.back) refl in
    rw (c.split_at.ensures.front, rest) (sym c.self.view_is ∙ first_line bytes at c.in-Some.ensures)

pub returns-clause-unbroken : goal.returns-clause-unbroken
returns-clause-unbroken c = rw c.split_at.ensures.front (unbroken_before c.self.inside.rest.now c.in-Some.at c.in-Some.ensures)
