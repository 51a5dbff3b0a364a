use Rattle.std.proofs.Common.{◌≡◌, ◌+◌, ◌++◌, length}
use Rattle.rv_language.specs.DocumentSymbols.{labels_symbols}
use Rattle.rv_language.proofs.document_symbols.put_labels.Given as goal

-- what is written so far, and what the labels that are left give
abbrev pub invariant-labels : goal.invariant-labels
invariant-labels g l = record {
  said : l.m ++ labels_symbols l.context.encoding (g.V.View.shown l.view) l.number l.text l.index l.labels
      ≡ l.fn.m ++ labels_symbols l.context.encoding (g.V.View.shown l.view) l.number l.text 0 l.fn.labels;
  passed : l.index + length l.labels ≡ length l.fn.labels;
}

abbrev pub decreases-labels : goal.decreases-labels
decreases-labels g l = length l.labels
