use Rattle.std.proofs.Common.{◌≡◌, ◌+◌, ◌++◌, length}
use Rattle.rv_files.specs.Symbols.{symbols_of_labels}
use Rattle.rv_files.proofs.text_symbols.push_labels.Given as goal

-- the symbols so far, and those of the labels that are left
abbrev pub invariant-labels : goal.invariant-labels
invariant-labels g l = record {
  whole : l.symbols.items ++ symbols_of_labels (g.V.View.shown l.view) l.line l.place l.index l.labels ≡ l.fn.symbols.items ++ symbols_of_labels (g.V.View.shown l.view) l.line l.place 0 l.fn.labels;
  count : l.index + length l.labels ≡ length l.fn.labels;
}

abbrev pub decreases-labels : goal.decreases-labels
decreases-labels g l = length l.labels
