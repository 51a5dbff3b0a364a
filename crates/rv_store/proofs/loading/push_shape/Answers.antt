use Rattle.std.proofs.Common.{◌≡◌, ◌+◌, suc, ◌∷◌, [], ◌++◌, length, arith, ap, sym, subst, ◌∙◌}
use Rattle.rv_layout.specs.Places.{AreLimited}
use Rattle.rv_layout.specs.Shapes.{size_operands}
use Rattle.rv_program.specs.Layout.{shape_at}
use Rattle.rv_program.specs.Program.{program_of, for_lines}
use Rattle.rv_program.specs.internal.Rows.{AreConstants}
use Rattle.rv_program.specs.lemmas.KeptShapes.{shape-on, body-on}
use Rattle.rv_program.specs.lemmas.Programs.{length-for_lines}
use Rattle.rv_store.proofs.ShapeRows.{limited-push}
use Rattle.rv_store.proofs.loading.push_shape.Goals as goal

pub push_reserved-requires : goal.push_reserved-requires
push_reserved-requires g c =
    let count = ap length c.requires.before.shapes ∙ length-for_lines (shape_at (program_of c.args.lines.now)) c.args.i in
    omega (arith, count, c.requires.within, c.requires.room)

pub returns-clause-after : goal.returns-clause-after
returns-clause-after g c =
    let lines = c.args.lines.now in
    let program = program_of lines in
    let i = c.args.i in
    let before = c.requires.before in
    let row = c.as_slice.result.now in
    let constants : AreConstants program i c.args.names.now row = rw c.as_slice.ensures.value before.constants in
    let is = c.shape_of_line-shape.ensures.shape ∙ shape-on lines i c.index-lines-i.result c.args.names.now row c.requires.within c.index-lines-i.is constants in
    let next : i + 1 ≡ suc i = omega arith in
    record {
      shapes = c.push_reserved.ensures.items
          ∙ ap (λ ms. ms ++ c.shape_of_line-shape.result ∷ []) before.shapes
          ∙ ap (λ m. for_lines (shape_at program) i ++ m ∷ []) (is ∙ ap (shape_at program) next)
          ∙ ap (for_lines (shape_at program)) (sym next);
      limited = subst AreLimited (sym c.push_reserved.ensures.items) (limited-push c.args.rows.now.shapes.items c.shape_of_line-shape.result before.limited c.shape_of_line-shape.ensures.limited);
      constants = c.settle_constant.ensures.after;
    }

pub returns-clause-operands : goal.returns-clause-operands
returns-clause-operands g c =
    let body = ap size_operands (body-on c.args.lines.now c.args.i c.index-lines-i.result c.requires.within c.index-lines-i.is) in
    omega (arith, c.shape_of_line-shape.ensures.most, c.settle_constant.ensures.operands, body)
