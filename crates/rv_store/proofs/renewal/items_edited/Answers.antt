use Rattle.std.proofs.Common.{◌≡◌, length, arith, ap, sym, subst, ◌∙◌}
use Rattle.std.proofs.lemmas.List.{length-map}
use Rattle.rv_program.specs.Changes.{differs_in_place}
use Rattle.rv_program.specs.Edits.{edit_of, line_before_edit}
use Rattle.rv_program.specs.Program.{program_of}
use Rattle.rv_program.specs.lemmas.Lists.{all-first}
use Rattle.rv_store.specs.internal.Renewed.{AreItemsLeft}
use Rattle.rv_store.proofs.StillShapes.{still-unmoved}
use Rattle.rv_store.proofs.renewal.items_edited.Goals as goal

pub items_passed-requires-clause-left : goal.items_passed-requires-clause-left
items_passed-requires-clause-left g c =
    let before = c.before-before.ensures in
    let n = length c.rows-rows.result.symbols.text.lines.now in
    let due = c.in_ok-due.ensures.due in
    let count : length c.args.items.now.items ≡ n = sym (length-map c.args.items.now.items (λ i. i.line)) ∙ ap length c.requires.lines ∙ sym (ap length (c.rows-rows.ensures.lines ∙ c.in_column-column.ensures ∙ c.as_slice-lines.ensures)) in
    subst (λ r. AreItemsLeft r c.args.items.now.items c.deref.result.now n) (sym c.revision.ensures) (record {
      few = omega (arith, count);
      next = omega (arith, count);
      new = λ more. absurd (omega (arith, more, count));
      former = rw (before.base, before.lines, before.edit) c.requires.former;
      told = record {
        test = due.test;
        tells = rw (sym count) at due.tells;
        those = c.deref.ensures.value ∙ rw (sym count) at due.those;
      };
    })

pub due_lines-requires-clause-still : goal.due_lines-requires-clause-still
due_lines-requires-clause-still g c = λ still line stood first last stands.
    let before = c.before-before.ensures in
    let rows = c.rows-rows.ensures in
    let lines = rows.lines ∙ c.in_column-column.ensures ∙ c.as_slice-lines.ensures in
    (λ i. differs_in_place (before.base i) (program_of (before.lines i)) (program_of (lines i)) line stood)
    ∙ still-unmoved c.args.base c.args.old_lines.now c.args.old.now.lines.items (edit_of c.args.edit.now) c.args.old.now.shapes.items c.args.survey.now.shapes.items
    c.requires.old.shapes c.requires.survey.shapes line stood c.requires.allowed (c.requires.still still) first (ap (λ e. line_before_edit e line) (sym before.edit) ∙ stands)

pub in_tree-searched-requires : goal.in_tree-searched-requires
in_tree-searched-requires g c = all-first (c.requires.lines ∙ sym c.as_slice-lines.ensures)
