use Rattle.std.proofs.Common.{ap, sym, ◌∙◌}
use Rattle.rv_stmt.specs.Statement.{statement_of}
use Rattle.rv_program.specs.lemmas.DefinitionRows.{nothing-defined}
use Rattle.rv_program.proofs.first_definition.place_on.Goals as goal

pub returns-then-not-may_define : goal.returns-then-not-may_define
returns-then-not-may_define c =
    sym (ap (λ f. f c.args.name.now) (nothing-defined c.args.number (statement_of c.args.line.now) (sym c.may_define.ensures ∙ c.if-not-may_define.true)))
