use Rattle.std.proofs.Common.{ap, sym, ◌∙◌}
use Rattle.rv_stmt.specs.Statement.{statement_of}
use Rattle.rv_list.specs.declared.view.DefinitionPlace.TheVariants.{Nowhere}
use Rattle.rv_program.specs.internal.Defining.{also_on}
use Rattle.rv_program.specs.Definitions.{place_among_labels, place_in_body, place_in_statement}
use Rattle.rv_program.specs.internal.Rows.{in_row}
use Rattle.rv_program.specs.lemmas.DefinitionLaws.{within-labels}
use Rattle.rv_program.specs.lemmas.DefinitionRows.{nothing-defined, also_on-nothing, also_on-joined}
use Rattle.rv_program.proofs.definitions.define_line.Goals as goal

pub returns-then-not-may_define-clause-row : goal.returns-then-not-may_define-clause-row
returns-then-not-may_define-clause-row c =
    let number = c.args.number in
    let before = in_row c.args.names.now c.args.row.now.items Nowhere in
    sym (ap (also_on number before) (nothing-defined number (statement_of c.args.line.now) (sym c.may_define.ensures ∙ c.if-not-may_define.true)) ∙ also_on-nothing number before)

pub returns-clause-row : goal.returns-clause-row
returns-clause-row c =
    let line = c.args.number in
    let stmt = c.stmt-stmt.result.now in
    let before = in_row c.args.names.now c.args.row.now.items Nowhere in
    c.define_equ.ensures.row
    ∙ ap (λ f. also_on line f (place_in_body line stmt.body)) (c.define_labels.ensures.row ∙ ap (λ ls. also_on line before (place_among_labels line 0 ls)) c.as_slice.ensures)
    ∙ also_on-joined line before (place_among_labels line 0 stmt.labels) (place_in_body line stmt.body) (within-labels line 0 stmt.labels)
    ∙ ap (λ s. also_on line before (place_in_statement line s)) c.stmt-stmt.ensures
