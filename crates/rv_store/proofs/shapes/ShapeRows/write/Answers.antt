use Rattle.std.proofs.Common.{◌≡◌, get_or, sym, subst, ◌∙◌}
use Rattle.std.proofs.lemmas.Bool.{and_parts}
use Rattle.rv_program.specs.Sameness.{same_shape}
use Rattle.rv_program.specs.lemmas.SamenessLaws.{same_shape-Decides}
use Rattle.rv_store.proofs.Columns.{set-same}
use Rattle.rv_store.proofs.shapes.ShapeRows.write.Goals as goal

pub returns-clause-still : goal.returns-clause-still
returns-clause-still c = λ is.
    let ms = c.args.self.now.shapes.items in
    let i = c.args.i in
    let shape = c.args.shape in
    let there = c.index.result.now in
    let parts = and_parts c.args.self.now.still c.eq.result is in
    let compared : c.eq.result ≡ same_shape there shape = c.eq.ensures in
    let same : there ≡ shape = (same_shape-Decides there shape).0 (sym compared ∙ parts.1) in
    (parts.0, set-same ms i shape (subst (λ m. m ≡ get_or ms i m) same c.index.ensures))
