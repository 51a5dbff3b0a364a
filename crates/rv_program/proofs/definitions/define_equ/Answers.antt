use Rattle.std.proofs.Common.{ap, sym, ◌∙◌}
use Rattle.rv_list.specs.declared.view.DefinitionPlace.TheVariants.{Nowhere, Equ}
use Rattle.rv_program.specs.internal.Defining.{only, also_on}
use Rattle.rv_program.specs.Definitions.{place_in_body}
use Rattle.rv_program.specs.internal.Rows.{in_row}
use Rattle.rv_program.proofs.definitions.define_equ.Goals as goal

pub returns-in-Equ-clause-row : goal.returns-in-Equ-clause-row
returns-in-Equ-clause-row c =
    let line = c.args.line in
    let before = in_row c.args.names.now c.args.row.now.items Nowhere in
    c.define.ensures.row
    ∙ ap (λ symbol. also_on line before (only symbol (Equ line))) c.bytes.ensures
    ∙ ap (λ body. also_on line before (place_in_body line body)) (sym c.in-Equ.is)
