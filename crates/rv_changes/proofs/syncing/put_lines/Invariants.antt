use Rattle.std.proofs.Common.{◌≡◌, ◌+◌, ◌≤◌, length, map}
use Rattle.rv_program.specs.declared.limits.TheConstants.{MAX_LINES}
use Rattle.rv_doc.specs.Edits.{spliced}
use Rattle.rv_changes.specs.Assembled.{assembled_line}
use Rattle.rv_changes.proofs.syncing.put_lines.Given as goal

-- with the lines that are left in the place of those that are left, the text is the whole one
abbrev pub invariant-lines : goal.invariant-lines
invariant-lines l = record {
  base : l.store.base ≡ l.fn.store.base;
  lines : spliced l.store.lines l.at l.left (map assembled_line l.lines) ≡ spliced l.fn.store.lines l.first l.count (map assembled_line l.initial.lines);
  within : l.at + l.left ≤ length l.store.lines;
  room : length l.store.lines + length l.lines ≤ MAX_LINES + l.left;
  count : length l.store.lines + length l.lines + l.count ≡ length l.fn.store.lines + length l.initial.lines + l.left;
}

abbrev pub decreases-lines : goal.decreases-lines
decreases-lines l = length l.lines
