use Rattle.std.proofs.Common.{arith, ap, sym, ◌∙◌}
use Rattle.std.proofs.lemmas.Bool.{eqb-true}
use Rattle.rv_list.specs.declared.view.DefinitionPlace.TheVariants.{Label as ByLabel}
use Rattle.rv_program.specs.Definitions.{equ_line}
use Rattle.rv_program.specs.internal.Rows.{number_of}
use Rattle.rv_program.specs.internal.TextRows.{program_in}
use Rattle.rv_program.specs.lemmas.Programs.{length-program}
use Rattle.rv_program.proofs.DifferingNames.{equ-within, same-line}
use Rattle.rv_program.proofs.FormerEqus.{label-address, same-by, same-by_equ}
use Rattle.rv_program.proofs.equ_values_after.is_defined_as_before.Goals as goal

pub line_before-requires : goal.line_before-requires
line_before-requires c =
    let text = c.args.text.now in
    let (name, numbered) = c.requires.numbered in
    let within = equ-within (program_in text) name c.in-Equ-Equ.line (ap equ_line (sym (c.definition_in.ensures name numbered) ∙ c.in-Equ-Equ.is-0)) in
    let count = length-program text.lines.now in
    omega (arith, within, count, c.requires.after.few)

pub returns-in-Label-Label : goal.returns-in-Label-Label
returns-in-Label-Label c =
    λ same name numbered.
    let before = c.args.before.now in
    let text = c.args.text.now in
    let line = c.in-Label-Label.line in
    let stood = c.in-Label-Label.stood in
    let numbered' = ap (λ names. number_of names name) (sym c.requires.after.names) ∙ numbered in
    let here = sym (c.definition_in.ensures name numbered) ∙ c.in-Label-Label.is-0 in
    let there = sym (c.definition_in-2.ensures name numbered') ∙ c.in-Label-Label.is-1 in
    let address = label-address text name line c.in-Label-Label.field-1-0 c.address_in.result c.requires.rows here c.address_in.ensures in
    let address' = label-address before.symbols.text name stood c.in-Label-Label.field-1-1 c.address_in-in-Label-Label.result c.requires.before.symbols.text there c.address_in-in-Label-Label.ensures in
    same-by before text name (ByLabel line c.in-Label-Label.field-1-0) (ByLabel stood c.in-Label-Label.field-1-1) here there (sym address ∙ eqb-true _ _ same ∙ address')

pub returns-in-Equ-Equ : goal.returns-in-Equ-Equ
returns-in-Equ-Equ c =
    λ same name numbered.
    let before = c.args.before.now in
    let text = c.args.text.now in
    let line = c.in-Equ-Equ.line in
    let stood = c.in-Equ-Equ.stood in
    let numbered' = ap (λ names. number_of names name) (sym c.requires.after.names) ∙ numbered in
    same-by_equ before text name line stood (sym (c.definition_in.ensures name numbered) ∙ c.in-Equ-Equ.is-0)
    (sym (c.definition_in-2.ensures name numbered') ∙ c.in-Equ-Equ.is-1)
    (sym c.line_before.ensures ∙ same-line c.line_before.result stood (sym c.eq.ensures ∙ same))
