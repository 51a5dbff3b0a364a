use Rattle.std.proofs.Common.{◌≡◌, true, length, ap, sym, ◌∙◌, refl, Err}
use Rattle.std.proofs.lemmas.Bool.{eq-eqb, ne_eqb}
use Rattle.rv_expr.specs.declared.faults.ValueFault.TheVariants.{LaterEqu}
use Rattle.rv_list.specs.declared.view.DefinitionPlace.TheVariants.{Nowhere, Equ}
use Rattle.rv_program.specs.Definitions.{definition_of, is_equ_on}
use Rattle.rv_program.specs.internal.Rows.{entry_at}
use Rattle.rv_program.specs.internal.TextRows.{program_in}
use Rattle.rv_program.specs.lemmas.EquLaws.{equ_value-in_row}
use Rattle.rv_program.proofs.ValueLaws.{symbol_of_definition, no_symbol_elsewhere, no_equ_on}
use Rattle.rv_program.proofs.line_values.symbol_value.Goals as goal

pub returns : goal.returns
returns c = λ d numbered equ.
    let rows = c.args.rows.now in
    let text = rows.text in
    let program = program_in text in
    let here : definition_of program d.symbol ≡ Equ c.args.line =
    sym (ap (λ f. f d.symbol) c.requires.rows.text.defined.each) ∙ ap (entry_at text.definitions.now Nowhere) numbered ∙ sym c.entry_at-place.ensures ∙ c.in-Equ.is ∙ ap Equ c.if-equ-line.false in
    let defines : is_equ_on c.args.line (definition_of program d.symbol) ≡ true = ap (is_equ_on c.args.line) here ∙ eq-eqb c.args.line c.args.line refl in
    symbol_of_definition text.base program c.args.line d c.entry_at-value.result here
    (c.entry_at-value.ensures ∙ ap (entry_at rows.equ_values.now (Err LaterEqu)) (sym numbered)
    ∙ equ_value-in_row text.base program (length text.lines.now) text.names.now rows.equ_values.now c.args.line d c.requires.first c.requires.last equ defines c.requires.rows.equ_values)

pub returns-in_default : goal.returns-in_default
returns-in_default c = λ d numbered equ.
    let text = c.args.rows.now.text in
    let program = program_in text in
    let here : definition_of program d.symbol ≡ c.entry_at-place.result =
    sym (ap (λ f. f d.symbol) c.requires.rows.text.defined.each) ∙ ap (entry_at text.definitions.now Nowhere) numbered ∙ sym c.entry_at-place.ensures in
    no_symbol_elsewhere text.base program c.args.line d c.entry_at-place.result here (no_equ_on c.args.line c.entry_at-place.result c.in_default.not-Equ)

pub returns-then-equ-line : goal.returns-then-equ-line
returns-then-equ-line c = λ d numbered equ.
    let text = c.args.rows.now.text in
    let program = program_in text in
    let here : definition_of program d.symbol ≡ Equ c.in-Equ.equ =
    sym (ap (λ f. f d.symbol) c.requires.rows.text.defined.each) ∙ ap (entry_at text.definitions.now Nowhere) numbered ∙ sym c.entry_at-place.ensures ∙ c.in-Equ.is in
    no_symbol_elsewhere text.base program c.args.line d (Equ c.in-Equ.equ) here (ne_eqb c.in-Equ.equ c.args.line c.if-equ-line.true)
