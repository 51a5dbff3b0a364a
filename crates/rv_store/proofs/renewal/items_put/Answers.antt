use Rattle.std.proofs.Common.{◌≡◌, length, sym, subst, ap, ◌∙◌}
use Rattle.rv_program.specs.Text.{lines_after}
use Rattle.rv_program.specs.internal.Lines.{lines_of}
use Rattle.rv_program.specs.internal.Revisions.{EditedText}
use Rattle.rv_store.specs.internal.Renewed.{edited_by, AreItemsLeft}
use Rattle.rv_store.proofs.StillTexts.{items-left}
use Rattle.rv_store.proofs.renewal.items_put.Goals as goal

pub items_passed-requires-clause-left : goal.items_passed-requires-clause-left
items_passed-requires-clause-left g c =
    let put = c.requires.put in
    let r : EditedText = edited_by c.args.base (lines_of c.args.items.now.items) c.args.edit.now in
    let count : length c.rows-rows.result.symbols.text.lines.now ≡ length (lines_after r.lines r.edit) = ap length (c.rows-rows.ensures.lines ∙ c.in_column-lines.ensures ∙ c.as_slice.ensures ∙ put.whole) in
    subst (λ ls. AreItemsLeft (record { base = c.args.base; lines = ls; edit = r.edit }) c.args.items.now.items c.args.due.now (length c.rows-rows.result.symbols.text.lines.now)) (sym c.in_items-old.ensures)
    (subst (λ n. AreItemsLeft r c.args.items.now.items c.args.due.now n) (sym count) (items-left r put.still.still put.edited put.still.highs c.args.items.now.items c.args.due.now put.are put.still.those))
