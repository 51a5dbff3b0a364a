use Rattle.std.proofs.Common.{◌≡◌, ◌+◌, ◌≤◌, [], length}
use Rattle.rv_doc.specs.Edits.{spliced}
use Rattle.rv_changes.proofs.syncing.delete_lines.Given as goal

abbrev pub invariant-lines : goal.invariant-lines
invariant-lines l = record {
  base : l.store.base ≡ l.fn.store.base;
  lines : spliced l.store.lines l.first l.left [] ≡ spliced l.fn.store.lines l.first l.count [];
  within : l.first + l.left ≤ length l.store.lines;
}

abbrev pub decreases-lines : goal.decreases-lines
decreases-lines l = l.left
