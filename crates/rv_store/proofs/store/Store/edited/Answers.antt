use Rattle.std.proofs.Common.{◌≡◌, ◌+◌, ◌-◌, ◌≤◌, ◌<◌, None, length, ap, sym, subst, ◌∙◌, map}
use Rattle.std.proofs.lemmas.List.{length-map}
use Rattle.rv_program.specs.Edits.{edit_of_read}
use Rattle.rv_program.specs.internal.EditedRows.{edited_row}
use Rattle.rv_program.specs.internal.Items.{AreItems}
use Rattle.rv_program.specs.Text.{Insert, Delete, Replace, refusal_of, lines_after}
use Rattle.rv_program.specs.lemmas.EarlierLines.{insert_within, delete_within, replace_within}
use Rattle.rv_program.specs.lemmas.Lists.{map_remove}
use Rattle.rv_store.proofs.EditRefusals.{has_room}
use Rattle.rv_store.proofs.FormerItems.{lines-put, former-edited}
use Rattle.rv_store.proofs.TreeMemory.{place-by-memory, insert-by-memory}
use Rattle.rv_store.proofs.store.Store.edited.Goals as goal

pub returns-in_ok-inserted-in-Insert-clause-items : goal.returns-in_ok-inserted-in-Insert-clause-items
returns-in_ok-inserted-in-Insert-clause-items c =
    let lines = c.args.self.now.lines in
    let items = c.self.inside.items.items in
    ap (map (λ i. i.line)) c.in_ok-inserted-in-Insert.ensures.items
    ∙ lines-put lines (Insert c.in-Insert.k c.in-Insert.line) items c.entered-item.result (ap (λ t. t.lines) c.self.view_is) (c.entered-item.ensures ∙ c.in_ok-share-in-Insert.ensures)
    ∙ ap (λ e. lines_after lines (edit_of_read e)) (sym c.in-Insert.is)

pub returns-in_ok-inserted-in-Insert-clause-former : goal.returns-in_ok-inserted-in-Insert-clause-former
returns-in_ok-inserted-in-Insert-clause-former c =
    let old = c.args.self.now in
    let items = c.self.inside.items.items in
    let are : AreItems old.base old.lines items = rw (← c.self.view_is) c.self.invariant.assembled in
    former-edited old.base old.lines (edit_of_read c.args.edit.now) items c.in_ok-inserted-in-Insert.field-0.items are c.requires.allowed (returns-in_ok-inserted-in-Insert-clause-items c)
    (λ other. (c.entered-item.result, c.in_ok-inserted-in-Insert.ensures.items ∙ ap (λ e. edited_row items (edit_of_read e) c.entered-item.result) (sym c.in-Insert.is)))

pub returns-in_ok-deleted-in-Delete-clause-items : goal.returns-in_ok-deleted-in-Delete-clause-items
returns-in_ok-deleted-in-Delete-clause-items c =
    let lines = c.args.self.now.lines in
    let items = c.self.inside.items.items in
    ap (map (λ i. i.line)) c.in_ok-deleted-in-Delete.ensures.items
    ∙ map_remove (λ i. i.line) items (c.in-Delete.k - 1)
    ∙ ap (λ t. lines_after t.lines (Delete c.in-Delete.k)) c.self.view_is
    ∙ ap (λ e. lines_after lines (edit_of_read e)) (sym c.in-Delete.is)

pub returns-in_ok-deleted-in-Delete-clause-former : goal.returns-in_ok-deleted-in-Delete-clause-former
returns-in_ok-deleted-in-Delete-clause-former c =
    let old = c.args.self.now in
    let items = c.self.inside.items.items in
    let are : AreItems old.base old.lines items = rw (← c.self.view_is) c.self.invariant.assembled in
    former-edited old.base old.lines (edit_of_read c.args.edit.now) items c.in_ok-deleted-in-Delete.field-0.items are c.requires.allowed (returns-in_ok-deleted-in-Delete-clause-items c)
    (λ other. (other, c.in_ok-deleted-in-Delete.ensures.items ∙ ap (λ e. edited_row items (edit_of_read e) other) (sym c.in-Delete.is)))

pub returns-in_ok-replaced-in-Replace-clause-items : goal.returns-in_ok-replaced-in-Replace-clause-items
returns-in_ok-replaced-in-Replace-clause-items c =
    let lines = c.args.self.now.lines in
    let items = c.self.inside.items.items in
    ap (map (λ i. i.line)) c.in_ok-replaced-in-Replace.ensures.items
    ∙ lines-put lines (Replace c.in-Replace.k c.in-Replace.line) items c.entered-item-in-Replace.result (ap (λ t. t.lines) c.self.view_is) (c.entered-item-in-Replace.ensures ∙ c.in_ok-share-in-Replace.ensures)
    ∙ ap (λ e. lines_after lines (edit_of_read e)) (sym c.in-Replace.is)

pub returns-in_ok-replaced-in-Replace-clause-former : goal.returns-in_ok-replaced-in-Replace-clause-former
returns-in_ok-replaced-in-Replace-clause-former c =
    let old = c.args.self.now in
    let items = c.self.inside.items.items in
    let are : AreItems old.base old.lines items = rw (← c.self.view_is) c.self.invariant.assembled in
    former-edited old.base old.lines (edit_of_read c.args.edit.now) items c.in_ok-replaced-in-Replace.field-0.items are c.requires.allowed (returns-in_ok-replaced-in-Replace-clause-items c)
    (λ other. (c.entered-item-in-Replace.result, c.in_ok-replaced-in-Replace.ensures.items ∙ ap (λ e. edited_row items (edit_of_read e) c.entered-item-in-Replace.result) (sym c.in-Replace.is)))

-- Only memory may be wanting

pub returns-in_err-inserted-in-Insert-clause-memory : goal.returns-in_err-inserted-in-Insert-clause-memory
returns-in_err-inserted-in-Insert-clause-memory c =
    let lines = c.args.self.now.lines in
    let items = c.self.inside.items.items in
    let k = c.in-Insert.k in
    let count : length lines ≡ length items = ap (λ t. length t.lines) (sym c.self.view_is) ∙ length-map items (λ i. i.line) in
    let allowed = subst (λ e. refusal_of lines (edit_of_read e) ≡ None) c.in-Insert.is c.requires.allowed in
    let within = insert_within lines k c.in-Insert.line allowed in
    let residual = c.from_residual-in_err-inserted-in-Insert in
    insert-by-memory residual.result c.in_err-inserted-in-Insert.field-0.0 k (length items) residual.ensures.1 c.in_err-inserted-in-Insert.ensures.refused
    within.0 (subst (λ n. k ≤ n + 1) count within.1) (subst (λ n. n < 16384) count (has_room lines k c.in-Insert.line allowed))

pub returns-in_err-deleted-in-Delete-clause-memory : goal.returns-in_err-deleted-in-Delete-clause-memory
returns-in_err-deleted-in-Delete-clause-memory c =
    let lines = c.args.self.now.lines in
    let items = c.self.inside.items.items in
    let k = c.in-Delete.k in
    let count : length lines ≡ length items = ap (λ t. length t.lines) (sym c.self.view_is) ∙ length-map items (λ i. i.line) in
    let within = delete_within lines k (subst (λ e. refusal_of lines (edit_of_read e) ≡ None) c.in-Delete.is c.requires.allowed) in
    let residual = c.from_residual-in_err-deleted-in-Delete in
    place-by-memory residual.result c.in_err-deleted-in-Delete.field-0.0 k (length items) residual.ensures.1 c.in_err-deleted-in-Delete.ensures.refused within.0 (subst (λ n. k ≤ n) count within.1)

pub returns-in_err-replaced-in-Replace-clause-memory : goal.returns-in_err-replaced-in-Replace-clause-memory
returns-in_err-replaced-in-Replace-clause-memory c =
    let lines = c.args.self.now.lines in
    let items = c.self.inside.items.items in
    let k = c.in-Replace.k in
    let count : length lines ≡ length items = ap (λ t. length t.lines) (sym c.self.view_is) ∙ length-map items (λ i. i.line) in
    let within = replace_within lines k c.in-Replace.line (subst (λ e. refusal_of lines (edit_of_read e) ≡ None) c.in-Replace.is c.requires.allowed) in
    let residual = c.from_residual-in_err-replaced-in-Replace in
    place-by-memory residual.result c.in_err-replaced-in-Replace.field-0.0 k (length items) residual.ensures.1 c.in_err-replaced-in-Replace.ensures.refused within.0 (subst (λ n. k ≤ n) count within.1)
