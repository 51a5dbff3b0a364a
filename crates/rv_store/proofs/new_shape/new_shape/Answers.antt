use Rattle.std.proofs.Common.{ap, ◌∙◌}
use Rattle.rv_stmt.specs.Statement.{statement_of}
use Rattle.rv_layout.specs.Shapes.{shape_of}
use Rattle.rv_program.specs.internal.LineConstants.{constant_on}
use Rattle.rv_program.specs.Program.{program_of}
use Rattle.rv_program.specs.lemmas.ConstantLaws.{constants-on_line}
use Rattle.rv_store.proofs.new_shape.new_shape.Goals as goal

pub returns-clause-shape : goal.returns-clause-shape
returns-clause-shape g c =
    let body = (statement_of c.args.line.now).body in
    let survey = c.args.survey.now in
    c.shape_of_line.ensures.shape
    ∙ (λ i. shape_of (constant_on c.args.names.now (c.deref.ensures.value i) (c.deref-2.ensures.value i) c.args.k) body)
    ∙ ap (λ f. shape_of f body) (constants-on_line (program_of survey.lines.items) c.args.names.now survey.definitions.items survey.constants.items c.args.k c.requires.definitions c.requires.constants)
