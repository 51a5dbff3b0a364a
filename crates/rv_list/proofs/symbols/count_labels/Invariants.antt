use Rattle.std.proofs.Common.{◌≡◌, ℕ, ◌+◌, ◌≤◌, length}
use Rattle.rv_list.specs.Symbols.{labels_symbols}
use Rattle.rv_list.proofs.symbols.count_labels.Given as goal

-- the symbols so far, and those of the labels that are left
abbrev pub invariant-labels : goal.invariant-labels
invariant-labels g l = record {
  whole : (address : ℕ) → l.count + length (labels_symbols (g.V.View.shown l.view) l.line address l.index l.labels) ≡ length (labels_symbols (g.V.View.shown l.view) l.line address 0 l.fn.labels);
  few : l.count ≤ l.index;
  passed : l.index + length l.labels ≡ length l.fn.labels;
}

abbrev pub decreases-labels : goal.decreases-labels
decreases-labels g l = length l.labels
