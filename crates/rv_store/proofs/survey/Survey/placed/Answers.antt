use Rattle.std.proofs.Common.{◌≡◌, ◌-◌, length, get_or, arith, ap, sym, ◌∙◌}
use Rattle.rv_program.specs.Edits.{edit_of, place_of_edit}
use Rattle.rv_program.specs.Program.{for_lines}
use Rattle.rv_program.specs.lemmas.Programs.{length-for_lines}
use Rattle.rv_program.specs.internal.EditedRows.{edited_row}
use Rattle.rv_store.specs.internal.Ends.{ends_of, place_by_shapes}
use Rattle.rv_store.specs.internal.Unmoved.{place_put_in}
use Rattle.rv_store.proofs.StillShapes.{has-as_many}
use Rattle.rv_store.proofs.Unmoved.{place-within, ends-stay, places-stay}
use Rattle.rv_store.proofs.survey.Survey.placed.Goals as goal

pub place_put_in-place-requires-clause-within : goal.place_put_in-place-requires-clause-within
place_put_in-place-requires-clause-within c =
    let ms = c.args.self.now.shapes.items in
    let unmoved = c.requires.still c.if-not-sized.false in
    let within = place-within c.args.base ms (edit_of c.args.edit.now) unmoved.shape unmoved.none c.requires.place in
    let count = ap length (c.deref-2.ensures.value ∙ c.requires.places) ∙ length-for_lines (place_by_shapes c.args.base ms) (length ms) in
    omega (arith, within.1, count)

pub edited_row-requires : goal.edited_row-requires
edited_row-requires c =
    let ms = c.args.self.now.shapes.items in
    has-as_many c.deref-3.result.now ms (edit_of c.args.edit.now) (ap length (c.deref-3.ensures.value ∙ c.requires.places) ∙ length-for_lines (place_by_shapes c.args.base ms) (length ms)) c.requires.place

pub returns-clause-ends : goal.returns-clause-ends
returns-clause-ends c =
    let ms = c.args.self.now.shapes.items in
    let unmoved = c.requires.still c.if-not-sized.false in
    c.requires.ends ∙ ends-stay c.args.base ms (edit_of c.args.edit.now) unmoved.shape unmoved.none c.requires.place ∙ ap ends_of (sym unmoved.shapes)

pub returns-clause-places : goal.returns-clause-places
returns-clause-places c =
    let ms = c.args.self.now.shapes.items in
    let edit = edit_of c.args.edit.now in
    let unmoved = c.requires.still c.if-not-sized.false in
    let place = c.place_put_in-place.result in
    let there : place ≡ place_put_in edit (get_or (for_lines (place_by_shapes c.args.base ms) (length ms)) (place_of_edit edit - 1) place) =
    c.place_put_in-place.ensures ∙ ap (λ row. place_put_in edit (get_or row (place_of_edit edit - 1) place)) (c.deref-2.ensures.value ∙ c.requires.places) in
    c.in_ok-edited_row.ensures
    ∙ ap (λ row. edited_row row edit place) (c.deref-3.ensures.value ∙ c.requires.places)
    ∙ places-stay c.args.base ms edit unmoved.shape unmoved.none c.requires.place place there
    ∙ ap (λ after. for_lines (place_by_shapes c.args.base after) (length after)) (sym unmoved.shapes)
