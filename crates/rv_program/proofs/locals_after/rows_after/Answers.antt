use Rattle.std.proofs.Common.{◌+◌, ◌++◌, sym, ◌∙◌, subst}
use Rattle.rv_program.specs.Edits.{edit_of}
use Rattle.rv_program.specs.internal.Locals.{AreFrom, lines_with}
use Rattle.rv_program.specs.internal.MovedLocals.{row_after}
use Rattle.rv_program.proofs.LocalRows.{behind-from, first-from, within-from, within-more}
use Rattle.rv_program.proofs.MovedLocals.{merged}
use Rattle.rv_program.proofs.locals_after.rows_after.Goals as goal

pub push_row-requires : goal.push_row-requires
push_row-requires c =
    let inv = c.numbers.invariant in
    let split = first-from inv.next c.in-Some.number c.numbers.rows.now c.numbers.put_in.now (sym c.first_number.ensures ∙ c.in-Some.is) inv.rows inv.put_in in
    within-more 0 inv.next c.in-Some.number c.numbers.after.items split.0 inv.made

pub numbers-preserved : goal.numbers-preserved
numbers-preserved c =
    let inv = c.numbers.invariant in
    let edit = edit_of c.args.edit.now in
    let number = c.in-Some.number in
    let put = c.numbers.put_in.now in
    let rows = c.numbers.rows.now in
    let first = sym c.first_number.ensures ∙ c.in-Some.is in
    let split = first-from inv.next number rows put first inv.rows inv.put_in in
    record {
      next = number + 1;
      made = c.in_ok-push_row.ensures.sorted;
      put_in = subst (AreFrom (number + 1)) (sym c.split_row.ensures.behind) (behind-from number put split.1.1);
      rows = subst (AreFrom (number + 1)) (sym c.split_row-in-Some.ensures.behind) (behind-from number rows split.1.0);
      lines = λ n.
          (λ i. lines_with c.push_row.new.rows.items n ++ row_after edit (lines_with (c.split_row.ensures.behind i) n) (lines_with (c.split_row-in-Some.ensures.behind i) n))
          ∙ merged edit inv.next number c.numbers.after.items c.push_row.new.rows.items put rows c.args.put_in.now c.args.rows.now c.in_ok-row_after.field-0 first inv.made inv.put_in inv.rows inv.lines c.in_ok-push_row.ensures.lines
          (c.in_ok-row_after.ensures ∙ (λ i. row_after edit (c.split_row.ensures.lines i) (c.split_row-in-Some.ensures.lines i))) n;
    }

pub returns-clause-sorted : goal.returns-clause-sorted
returns-clause-sorted c = within-from 0 c.numbers.invariant.next c.numbers.after.items c.numbers.invariant.made
