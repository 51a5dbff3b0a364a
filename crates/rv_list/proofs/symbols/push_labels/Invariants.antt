use Rattle.std.proofs.Common.{◌≡◌, ◌+◌, length}
use Rattle.std.specs.List.{concat}
use Rattle.rv_list.specs.Symbols.{labels_symbols}
use Rattle.rv_text.specs.Halfway.{Halfway}
use Rattle.rv_list.proofs.symbols.push_labels.Given as goal

-- the rows so far are gathered
abbrev pub invariant-labels : goal.invariant-labels
invariant-labels g l = record {
  half : Halfway (g.W.Sink.taken l.fn.sink) l.fn.block (g.W.Sink.taken l.sink) l.block (concat (labels_symbols (g.V.View.shown l.view) l.line l.address 0 l.fn.labels)) (concat (labels_symbols (g.V.View.shown l.view) l.line l.address l.index l.labels));
  failures : g.W.Sink.failures l.sink ≡ g.W.Sink.failures l.fn.sink;
  passed : l.index + length l.labels ≡ length l.fn.labels;
}

abbrev pub decreases-labels : goal.decreases-labels
decreases-labels g l = length l.labels
