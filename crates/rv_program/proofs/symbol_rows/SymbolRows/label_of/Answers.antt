use Rattle.std.proofs.Common.{length, Ok, Err, pos, arith, ap, sym, ◌∙◌}
use Rattle.rv_expr.specs.declared.faults.ValueFault.TheVariants.{LaterEqu}
use Rattle.rv_program.specs.References.{by_definition}
use Rattle.rv_program.specs.internal.Rows.{number_of, entry_at}
use Rattle.rv_program.specs.internal.TextRows.{address_in}
use Rattle.rv_program.specs.lemmas.LineNameLaws.{symbol_by-rows}
use Rattle.rv_program.proofs.symbol_rows.SymbolRows.label_of.Goals as goal

pub returns-in-Label-clause-value : goal.returns-in-Label-clause-value
returns-in-Label-clause-value c =
    let rows = c.args.self.now in
    let text = rows.text in
    let last = length text.lines.now in
    λ name numbered.
    let value = entry_at rows.equ_values.now (Err LaterEqu) (number_of text.names.now name) in
    sym (symbol_by-rows text rows.equ_values.now last last name c.requires.rows.text c.requires.rows.equ_values (omega arith))
    ∙ ap (λ place. by_definition (address_in text.places.now) last place value) (sym (c.definition_of.ensures name numbered) ∙ c.in-Label.is)
    ∙ ap (λ address. Ok (pos address)) (sym c.address_in.ensures)
