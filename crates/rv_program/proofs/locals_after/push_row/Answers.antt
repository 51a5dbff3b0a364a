use Rattle.std.proofs.Common.{◌+◌, ◌==◌, length, arith, ap, sym, ◌∙◌, subst}
use Rattle.rv_program.specs.declared.local_row.LocalRow.{LocalRow}
use Rattle.rv_program.specs.internal.Locals.{AreWithin, lines_with}
use Rattle.rv_program.proofs.LocalRows.{none-pushed, push-lines, push-within, within-more}
use Rattle.rv_program.proofs.locals_after.push_row.Goals as goal

pub returns-in_ok-push-clause-sorted : goal.returns-in_ok-push-clause-sorted
returns-in_ok-push-clause-sorted c =
    let row : LocalRow = record { number = c.args.number; lines = c.args.lines } in
    subst (AreWithin 0 (c.args.number + 1)) (sym c.in_ok-push.ensures.items) (push-within 0 c.args.rows.now.items row c.requires)

pub returns-in_ok-push-clause-lines : goal.returns-in_ok-push-clause-lines
returns-in_ok-push-clause-lines c n =
    let row : LocalRow = record { number = c.args.number; lines = c.args.lines } in
    ap (λ rs. lines_with rs n) c.in_ok-push.ensures.items ∙ push-lines 0 c.args.rows.now.items row c.requires n

pub returns-else-not-is_empty-clause-sorted : goal.returns-else-not-is_empty-clause-sorted
returns-else-not-is_empty-clause-sorted c = within-more 0 c.args.number (c.args.number + 1) c.args.rows.now.items (omega arith) c.requires

pub returns-else-not-is_empty-clause-lines : goal.returns-else-not-is_empty-clause-lines
returns-else-not-is_empty-clause-lines c n =
    none-pushed c.args.number c.args.rows.now.items c.args.lines
    (ap (λ ls. length ls == 0) (sym c.as_slice.ensures) ∙ sym c.is_empty.ensures ∙ c.if-not-is_empty.false) c.requires n
