use Rattle.std.proofs.Common.{◌-◌, ◌<◌, length, arith, ap, sym, subst, ◌∙◌}
use Rattle.rv_program.specs.Edits.{edit_of}
use Rattle.rv_program.specs.internal.Before.{lines_before}
use Rattle.std.proofs.lemmas.List.{get_or_default}
use Rattle.rv_layout.specs.declared.measured.Measured.TheVariants.{Nothing}
use Rattle.rv_program.specs.internal.EditedRows.{HasPlace}
use Rattle.rv_store.specs.internal.Alike.{room_of}
use Rattle.rv_store.specs.internal.Unmoved.{MovesNone}
use Rattle.rv_store.proofs.FormerShapes.{shape_count, place}
use Rattle.rv_store.proofs.shapes.moves_none.Goals as goal

pub bounds-before-k : goal.bounds-before-k
bounds-before-k c =
    let before = c.args.before.now in
    let has = subst (λ e. HasPlace (lines_before before) (edit_of e)) c.in-Delete.is (place before c.requires) in
    omega (arith, has.0, has.1, shape_count before c.requires)

pub bounds-before-k-in-Replace : goal.bounds-before-k-in-Replace
bounds-before-k-in-Replace c =
    let before = c.args.before.now in
    let has = subst (λ e. HasPlace (lines_before before) (edit_of e)) c.in-Replace.is (place before c.requires) in
    omega (arith, has.0, has.1, shape_count before c.requires)

pub returns-then-k-before : goal.returns-then-k-before
returns-then-k-before c = λ equal.
    subst (λ e. MovesNone c.args.before.now.shapes.now (edit_of e) c.args.shape.now) (sym c.in-Insert.is) (omega (arith, c.if-k-before.true), c.take_same_room.ensures equal)

pub returns-in-Replace : goal.returns-in-Replace
returns-in-Replace c = λ equal.
    let before = c.args.before.now in
    let ms = before.shapes.now in
    let has = subst (λ e. HasPlace (lines_before before) (edit_of e)) c.in-Replace.is (place before c.requires) in
    let within : c.in-Replace.k - 1 < length ms = omega (arith, has.0, has.1, shape_count before c.requires) in
    subst (λ e. MovesNone ms (edit_of e) c.args.shape.now) (sym c.in-Replace.is)
    (ap room_of (get_or_default ms (c.in-Replace.k - 1) Nothing c.index-before-k-in-Replace.result within) ∙ c.take_same_room-in-Replace.ensures equal)
