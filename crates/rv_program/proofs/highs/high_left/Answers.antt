use Rattle.std.proofs.Common.{◌≡◌, Some, sym, ◌∙◌}
use Rattle.rv_program.specs.internal.Before.{base_before, lines_before, edit_on}
use Rattle.rv_program.specs.Edits.{line_before_edit}
use Rattle.rv_program.proofs.HighLaws.{high_of_line}
use Rattle.rv_program.proofs.LinePairLaws.{stood-before}
use Rattle.rv_program.proofs.highs.high_left.Goals as goal

pub returns-clause-high : goal.returns-clause-high
returns-clause-high c =
    let before = c.args.before.now in
    let line = c.args.line in
    let stood = c.in_ok-stood.stood in
    let stands : line_before_edit (edit_on before) line ≡ Some stood = sym c.line_before.ensures ∙ c.in_ok-stood.was in
    let there = stood-before before c.args.after.now.text line stood c.requires.before c.requires.after c.requires.first c.requires.last stands in
    let same = c.has_same_high.ensures.same c.if-not-has_same_high.false in
    c.high_in.ensures
    ∙ high_of_line (base_before before) (lines_before before) before.highs.now stood c.requires.before.highs there.first there.last same.bytes
    ∙ sym same.high
