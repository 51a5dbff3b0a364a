use Rattle.std.proofs.Common.{◌++◌, ◌-◌, ◌∷◌, [], length, map, take, ap, ◌∙◌, arith, length-append}
use Rattle.rv_program.specs.Text.{Text}
use Rattle.rv_changes.specs.Assembled.{assembled_line}
use Rattle.rv_changes.proofs.Loaded.{appended_first}
use Rattle.rv_changes.proofs.loading.append_first.Goals as goal

pub lines-preserved : goal.lines-preserved
lines-preserved c =
    let line = c.in-Some.line.now in
    let lines = ap (λ (t : Text). t.lines) c.in_ok-append.ensures in
    let count = ap length lines ∙ length-append c.lines.draft.lines (assembled_line line ∷ []) in
    record {
      base = ap (λ (t : Text). t.base) c.in_ok-append.ensures ∙ c.lines.invariant.base;
      whole =
          ap (λ l. l ++ map assembled_line (take (c.lines.left - 1) c.next_line.new.self)) lines
          ∙ appended_first assembled_line c.lines.draft.lines line c.next_line.new.self c.lines.lines c.lines.left (omega (arith, c.lines-test.true)) c.in-Some.ensures.line
          ∙ c.lines.invariant.whole;
      room = omega (arith, count, c.lines.invariant.room, c.lines-test.true);
    }
