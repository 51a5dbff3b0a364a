use Rattle.std.proofs.Common.{ap, sym, ◌∙◌, subst}
use Rattle.std.specs.List.Sorted.{IsNonDecreasing}
use Rattle.rv_program.specs.internal.Locals.{AreFrom, lines_with}
use Rattle.rv_program.proofs.LocalRows.{lines-at, row-of}
use Rattle.rv_program.proofs.locals.Locals.row_near.Goals as goal

pub returns-then-is_row_of-clause-lines : goal.returns-then-is_row_of-clause-lines
returns-then-is_row_of-clause-lines c =
    let rows = c.as_slice-rows.result.now in
    let sorted = subst (AreFrom 0) (sym c.as_slice-rows.ensures.value) c.self.invariant.sorted in
    let of = row-of rows c.args.place c.args.number (sym c.is_row_of.ensures ∙ c.if-is_row_of.true) in
    c.as_slice.ensures ∙ sym (lines-at 0 rows c.args.place c.args.number c.index-rows-place.result sorted of)
    ∙ ap (λ rs. lines_with rs c.args.number) (c.as_slice-rows.ensures.value ∙ c.self.view_is)

pub returns-then-is_row_of-clause-rising : goal.returns-then-is_row_of-clause-rising
returns-then-is_row_of-clause-rising c =
    let rows = c.as_slice-rows.result.now in
    let sorted = subst (AreFrom 0) (sym c.as_slice-rows.ensures.value) c.self.invariant.sorted in
    let of = row-of rows c.args.place c.args.number (sym c.is_row_of.ensures ∙ c.if-is_row_of.true) in
    let is = c.as_slice.ensures ∙ sym (lines-at 0 rows c.args.place c.args.number c.index-rows-place.result sorted of)
    ∙ ap (λ rs. lines_with rs c.args.number) c.as_slice-rows.ensures.value in
    subst IsNonDecreasing (sym is) (c.self.invariant.rising c.args.number)
