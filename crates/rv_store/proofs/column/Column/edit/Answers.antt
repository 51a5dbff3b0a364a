use Rattle.std.proofs.Common.{◌-◌, length, remove, insert, set, arith, ap, subst, ◌∙◌}
use Rattle.std.proofs.lemmas.Grind.{common_steps}
use Rattle.rv_program.specs.internal.EditedRows.{HasPlace}
use Rattle.rv_program.specs.Edits.{edit_of_read}
use Rattle.rv_store.proofs.Columns.{removed-inserted, inserted-removed, set-back}
use Rattle.rv_store.proofs.column.Column.edit.Goals as goal

pub returns-in_ok-insert-in-Insert-clause-back : goal.returns-in_ok-insert-in-Insert-clause-back
returns-in_ok-insert-in-Insert-clause-back c =
    let lines = c.begin.new.self.items in
    let same = ap (λ v. v.items) c.begin.ensures.lines in
    let place = subst (λ e. HasPlace c.args.self.now.items (edit_of_read e)) c.in-Insert.is c.requires.place in
    ap (λ ls. remove ls (c.in-Insert.k - 1)) c.in_ok-insert-in-Insert.ensures.ok
    ∙ removed-inserted lines (c.in-Insert.k - 1) c.in-Insert.line (omega (arith, place.0, place.1, ap length same))
    ∙ same

pub returns-in-Delete-clause-back : goal.returns-in-Delete-clause-back
returns-in-Delete-clause-back c =
    let lines = c.args.self.now.items in
    let place = subst (λ e. HasPlace lines (edit_of_read e)) c.in-Delete.is c.requires.place in
    ap (λ ls. insert ls (c.in-Delete.k - 1) c.remove.result) c.remove.ensures.lines
    ∙ inserted-removed lines (c.in-Delete.k - 1) c.remove.result (omega (arith, place.0, place.1)) c.remove.ensures.line

pub returns-in-Replace-clause-back : goal.returns-in-Replace-clause-back
returns-in-Replace-clause-back c =
    ap (λ ls. set ls (c.in-Replace.k - 1) c.replace-former.result) c.replace-former.ensures.lines
    ∙ set-back c.args.self.now.items (c.in-Replace.k - 1) c.in-Replace.line c.replace-former.result c.replace-former.ensures.former

pub returns-in_ok-insert-in-Insert-clause-back_place : goal.returns-in_ok-insert-in-Insert-clause-back_place
returns-in_ok-insert-in-Insert-clause-back_place c = grind (arith, common_steps)

pub returns-in-Delete-clause-back_place : goal.returns-in-Delete-clause-back_place
returns-in-Delete-clause-back_place c = grind (arith, common_steps)
