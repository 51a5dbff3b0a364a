use Rattle.std.proofs.Common.{◌≡◌, Some, sym, ◌∙◌}
use Rattle.rv_program.specs.internal.Before.{edit_on}
use Rattle.rv_program.specs.Edits.{line_before_edit}
use Rattle.rv_program.proofs.DueLines.{reencoded-by_low}
use Rattle.rv_program.proofs.LinePairLaws.{body-before}
use Rattle.rv_program.proofs.due.is_low_due.Goals as goal

pub returns : goal.returns
returns c =
    let before = c.args.before.now in
    let after = c.args.after.now.text in
    let stood = c.in-Some._stood in
    let stands : line_before_edit (edit_on before) c.args.line ≡ Some stood = sym c.line_before.ensures ∙ c.in-Some.is in
    let same = body-before before after c.args.line stood c.requires.before c.requires.after c.requires.first c.requires.last stands in
    c.differs_in_low.ensures c.args.name.now (sym c.number-number.ensures.number)
    ∙ reencoded-by_low before after c.args.line stood c.args.name.now c.requires.after stands c.requires.low (sym same)
