use Rattle.std.proofs.Common.{ap, sym, if◌then◌else◌, ◌∙◌}
use Rattle.rv_stmt.specs.LentLabels.{name_lent}
use Rattle.rv_list.specs.declared.view.DefinitionPlace.TheVariants.{Nowhere, Label as ByLabel}
use Rattle.rv_program.specs.internal.Defining.{also_on}
use Rattle.rv_program.specs.Definitions.{defines_symbol}
use Rattle.rv_program.specs.internal.Rows.{in_row}
use Rattle.rv_program.proofs.definitions.define_label.Goals as goal

pub returns-in-Symbol-clause-row : goal.returns-in-Symbol-clause-row
returns-in-Symbol-clause-row c =
    let line = c.args.line in
    let index = c.args.index in
    let before = in_row c.args.names.now c.args.row.now.items Nowhere in
    c.define.ensures.row ∙ ap (λ label. also_on line before (λ name. if defines_symbol (name_lent label) name then ByLabel line index else Nowhere)) (sym c.in-Symbol.is)
