use Rattle.std.proofs.Common.{◌≡◌, ◌-◌, ◌<◌, suc, [], length, ap, sym, ◌∙◌, arith}
use Rattle.std.proofs.lemmas.List.Edits.{length-remove}
use Rattle.rv_program.specs.Text.{Text}
use Rattle.rv_doc.specs.Edits.{spliced}
use Rattle.rv_changes.proofs.Pieces.{spliced_removed}
use Rattle.rv_changes.proofs.syncing.delete_lines.Goals as goal

pub lines-preserved : goal.lines-preserved
lines-preserved c =
    let old = c.lines.store.lines in
    let first = c.args.first in
    let left = c.lines.left in
    let lines = ap (λ (t : Text). t.lines) c.in_ok-delete_line.ensures in
    let within : first < length old = omega (arith, c.lines.invariant.within, c.lines-test.true) in
    let more : left ≡ suc (left - 1) = omega (arith, c.lines-test.true) in
    record {
      base = ap (λ (t : Text). t.base) c.in_ok-delete_line.ensures ∙ c.lines.invariant.base;
      lines =
          ap (λ l. spliced l first (left - 1) []) lines
          ∙ spliced_removed old first (left - 1) within
          ∙ ap (λ n. spliced old first n []) (sym more)
          ∙ c.lines.invariant.lines;
      within = omega (arith, ap length lines, length-remove old first within, c.lines.invariant.within, c.lines-test.true);
    }
