use Rattle.std.proofs.Common.{length, Err, arith, ap, sym, ◌∙◌}
use Rattle.rv_expr.specs.declared.faults.ValueFault.TheVariants.{LaterEqu}
use Rattle.rv_program.specs.References.{by_definition}
use Rattle.rv_program.specs.internal.Rows.{entry_at}
use Rattle.rv_program.specs.internal.TextRows.{address_in}
use Rattle.rv_program.specs.lemmas.LineNameLaws.{symbol_by-rows}
use Rattle.rv_program.proofs.symbol_rows.SymbolRows.value_of.Goals as goal

pub returns : goal.returns
returns c =
    let rows = c.args.self.now in
    let text = rows.text in
    let last = length text.lines.now in
    λ name numbered.
    c.by_definition.ensures
    ∙ ap (λ n. by_definition (address_in text.places.now) n c.definition_of.result c.entry_at-value.result) c.len-last.ensures
    ∙ ap (λ place. by_definition (address_in text.places.now) last place c.entry_at-value.result) (c.definition_of.ensures name numbered)
    ∙ ap (by_definition (address_in text.places.now) last _) (c.entry_at-value.ensures ∙ ap (entry_at rows.equ_values.now (Err LaterEqu)) (sym numbered))
    ∙ symbol_by-rows text rows.equ_values.now last last name c.requires.rows.text c.requires.rows.equ_values (omega arith)
