use Rattle.std.proofs.Common.{◌≡◌, Some, sym, ◌∙◌}
use Rattle.std.proofs.lemmas.Bool.{not-true}
use Rattle.rv_program.specs.internal.Before.{edit_on}
use Rattle.rv_program.specs.Edits.{line_before_edit}
use Rattle.rv_program.proofs.CarriedLines.{carried-not_due}
use Rattle.rv_program.proofs.LinePairLaws.{stood-before}
use Rattle.rv_program.proofs.due.is_carried.Goals as goal

pub moved_together-requires-clause-last_stood : goal.moved_together-requires-clause-last_stood
moved_together-requires-clause-last_stood c =
    let before = c.args.before.now in
    let stands : line_before_edit (edit_on before) c.args.line ≡ Some c.in-Some.stood = sym c.line_before.ensures ∙ c.in-Some.is in
    (stood-before before c.args.after.now.text c.args.line c.in-Some.stood c.requires.before c.requires.after c.requires.first c.requires.last stands).last

pub returns-in-Some : goal.returns-in-Some
returns-in-Some c = λ together.
    let before = c.args.before.now in
    let after = c.args.after.now.text in
    let stands : line_before_edit (edit_on before) c.args.line ≡ Some c.in-Some.stood = sym c.line_before.ensures ∙ c.in-Some.is in
    carried-not_due before after c.args.line c.in-Some.stood c.requires.before c.requires.after c.requires.first c.requires.last stands
    c.args.differing.now c.requires.differing c.args.brief c.requires.brief (c.moved_together.ensures together) c.if-brief.true (not-true c.args.brief.uncompared c.if-not-brief.true)
