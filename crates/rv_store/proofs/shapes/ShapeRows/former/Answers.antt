use Rattle.rv_program.specs.internal.Before.{lines_before, edit_on}
use Rattle.rv_store.proofs.StillShapes.{shapes-place}
use Rattle.rv_store.proofs.shapes.ShapeRows.former.Goals as goal

pub edited_row-requires : goal.edited_row-requires
edited_row-requires c =
    let before = c.args.before.now in
    shapes-place (lines_before before) (edit_on before) before.shapes.now c.requires.before.allowed c.requires.before.shapes

pub returns-clause-still : goal.returns-clause-still
returns-clause-still c = λ still. record { shape = c.args.shape; none = c.moves_none-still.ensures still; shapes = c.in_ok-shapes.ensures }
