use Rattle.std.proofs.Common.{◌<◌, length, ap, ◌∙◌, arith}
use Rattle.rv_program.specs.Text.{Text}
use Rattle.rv_changes.specs.Assembled.{assembled_line}
use Rattle.rv_changes.proofs.Kept.{appended_more}
use Rattle.rv_changes.proofs.limits.append_lines.Goals as goal

pub lines-preserved : goal.lines-preserved
lines-preserved c =
    let old = c.lines.store.lines in
    let line = c.in-Some.line.now in
    let lines = ap (λ (t : Text). t.lines) c.in_ok-insert_line.ensures in
    let some : length old < 16384 = omega (arith, c.len.ensures.value, c.lines-test.true) in
    record {
      base = ap (λ (t : Text). t.base) c.in_ok-insert_line.ensures ∙ c.lines.invariant.base;
      lines = appended_more assembled_line old _ _ 16384 line c.next_line.new.self c.lines.lines lines c.len-in-lines.ensures.value some c.in-Some.ensures.line ∙ c.lines.invariant.lines;
    }
