use Rattle.std.proofs.Common.{◌≡◌, ◌≤◌, ◌==◌, false, length, not, Some, arith, ap, sym, ◌∙◌}
use Rattle.rv_program.specs.internal.Before.{base_before, lines_before, edit_on}
use Rattle.rv_program.specs.Edits.{line_before_edit}
use Rattle.rv_program.specs.Layout.{size_at}
use Rattle.rv_program.specs.Pairs.{is_high_alone, upper_by, high_at}
use Rattle.rv_program.specs.Sameness.{same_entry}
use Rattle.rv_program.specs.internal.TextRows.{program_in}
use Rattle.std.proofs.lemmas.Bool.Decides.{same_from_decides}
use Rattle.rv_program.proofs.DueLines.{reencoded-by_high, high-bytes}
use Rattle.rv_program.proofs.HighLaws.{high_of_line}
use Rattle.rv_program.proofs.LinePairLaws.{stood-before, body-before}
use Rattle.rv_program.specs.lemmas.Programs.{length-program}
use Rattle.rv_program.specs.lemmas.SamenessLaws.{same_entry-Decides}
use Rattle.rv_program.proofs.due.is_high_due.Goals as goal

pub returns : goal.returns
returns c =
    let before = c.args.before.now in
    let after = c.args.after.now.text in
    let line = c.args.line in
    let stood = c.in-Some.stood in
    let old = program_in before.symbols.text in
    let new = program_in after in
    let stands : line_before_edit (edit_on before) line ≡ Some stood = sym c.line_before.ensures ∙ c.in-Some.is in
    let there = stood-before before after line stood c.requires.before c.requires.after c.requires.first c.requires.last stands in
    let same = body-before before after line stood c.requires.before c.requires.after c.requires.first c.requires.last stands in
    let last : line ≤ length new = omega (arith, c.requires.last, length-program after.lines.now) in
    let last' : stood ≤ length old = omega (arith, there.last, length-program before.symbols.text.lines.now) in
    let bytes : (size_at new line == 0) ≡ false = high-bytes new line c.requires.first last c.requires.high in
    let bytes' : (size_at old stood == 0) ≡ false = high-bytes old stood there.first last' (ap is_high_alone (sym same) ∙ c.requires.high) in
    let x : c.upper_by-upper.result ≡ upper_by (high_at after.base new line) =
    c.upper_by-upper.ensures ∙ ap upper_by (c.high_in.ensures ∙ high_of_line after.base after.lines.now c.args.highs.now line c.requires.highs c.requires.first c.requires.last bytes) in
    let y : c.upper_by.result ≡ upper_by (high_at (base_before before) old stood) =
    c.upper_by.ensures ∙ ap upper_by (c.high_in-2.ensures ∙ high_of_line (base_before before) (lines_before before) before.highs.now stood c.requires.before.highs there.first there.last bytes') in
    ap not (same_from_decides c.is_same_entry.result (same_entry c.upper_by-upper.result c.upper_by.result) c.is_same_entry.ensures (same_entry-Decides c.upper_by-upper.result c.upper_by.result) ∙ (λ i. same_entry (x i) (y i)))
    ∙ reencoded-by_high before after line stood c.requires.after stands c.requires.high (sym same)
