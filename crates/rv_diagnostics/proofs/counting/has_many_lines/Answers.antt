use Rattle.std.proofs.Common.{◌≡◌, ◌≤◌, length, arith, sym}
use Rattle.rv_doc.specs.Positions.{lines_of}
use Rattle.rv_diagnostics.proofs.Publications.{few_lines}
use Rattle.rv_diagnostics.proofs.counting.has_many_lines.Goals as goal

pub returns-then-line_count-le-MAX_LINES : goal.returns-then-line_count-le-MAX_LINES
returns-then-line_count-le-MAX_LINES c =
    let lines = lines_of c.args.document.now in
    let few : length lines ≤ 16384 = omega (arith, c.line_count.ensures.value, c.if-line_count-le-MAX_LINES.true) in
    sym (few_lines lines 16384 few)
