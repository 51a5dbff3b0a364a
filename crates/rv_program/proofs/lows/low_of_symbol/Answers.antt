use Rattle.std.proofs.Common.{◌≡◌, ℕ, Ok, Result, arith, ap, sym, ◌∙◌}
use Rattle.rv_expr.specs.declared.faults.ValueFault.{ValueFault}
use Rattle.rv_expr.specs.declared.tree.LabelReference.TheVariants as reference
use Rattle.rv_stmt.specs.Readings.{and_then}
use Rattle.rv_program.specs.Definitions.{definition_of}
use Rattle.rv_program.specs.Pairs.{low_by, paired_high_of}
use Rattle.rv_program.specs.References.{line_of_place}
use Rattle.rv_program.specs.internal.TextRows.{program_in}
use Rattle.rv_program.specs.lemmas.LineNameLaws.{label_line-within, paired-is}
use Rattle.rv_program.proofs.lows.low_of_symbol.Goals as goal

pub returns : goal.returns
returns c = λ name numbered.
    let text = c.args.rows.now.text in
    let program = program_in text in
    let line = c.in_ok-line.line in
    let found : ◌≡◌ {A = Result ℕ ValueFault} (line_of_place (definition_of program name)) (Ok line) =
    ap line_of_place (sym (c.definition_of.ensures name numbered)) ∙ sym c.line_of_place.ensures ∙ c.in_ok-line.was in
    let there = label_line-within program 0 (reference.Symbol name) line (omega arith) found in
    c.low_of.ensures
    ∙ ap low_by (c.high_in.ensures ∙ paired-is text.base program c.args.highs.now line c.requires.highs there.0 there.1 ∙ ap (λ l. and_then l (paired_high_of text.base program)) (sym found))
