use Rattle.std.proofs.Common.{◌≡◌, Some, sym, ◌∙◌}
use Rattle.rv_program.specs.internal.Before.{edit_on}
use Rattle.rv_program.specs.Edits.{line_before_edit}
use Rattle.rv_program.proofs.DueLines.{reencoded-by_symbol}
use Rattle.rv_program.proofs.LinePairLaws.{body-before, stood-before}
use Rattle.rv_program.proofs.due.is_equ_due.Goals as goal

pub differs_in_symbol-requires-clause-equ_before : goal.differs_in_symbol-requires-clause-equ_before
differs_in_symbol-requires-clause-equ_before c =
    let before = c.args.before.now in
    let stands : line_before_edit (edit_on before) c.args.line ≡ Some c.in-Some.stood = sym c.line_before.ensures ∙ c.in-Some.is in
    sym (body-before before c.args.after.now.text c.args.line c.in-Some.stood c.requires.before c.requires.after c.requires.first c.requires.last stands) ∙ c.requires.equ

pub returns-in-Some : goal.returns-in-Some
returns-in-Some c =
    let before = c.args.before.now in
    let after = c.args.after.now.text in
    let stands : line_before_edit (edit_on before) c.args.line ≡ Some c.in-Some.stood = sym c.line_before.ensures ∙ c.in-Some.is in
    let there = sym (body-before before after c.args.line c.in-Some.stood c.requires.before c.requires.after c.requires.first c.requires.last stands) ∙ c.requires.equ in
    c.differs_in_symbol.ensures
    ∙ reencoded-by_symbol before after c.args.line c.in-Some.stood c.args.definition.now c.requires.after stands c.requires.equ there

pub differs_in_symbol-requires-clause-last_stood : goal.differs_in_symbol-requires-clause-last_stood
differs_in_symbol-requires-clause-last_stood c =
    (stood-before c.args.before.now c.args.after.now.text c.args.line c.in-Some.stood c.requires.before c.requires.after c.requires.first c.requires.last (sym c.line_before.ensures ∙ c.in-Some.is)).last

pub differs_in_symbol-requires-clause-first_stood : goal.differs_in_symbol-requires-clause-first_stood
differs_in_symbol-requires-clause-first_stood c =
    (stood-before c.args.before.now c.args.after.now.text c.args.line c.in-Some.stood c.requires.before c.requires.after c.requires.first c.requires.last (sym c.line_before.ensures ∙ c.in-Some.is)).first
