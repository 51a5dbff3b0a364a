use Rattle.std.proofs.Common.{◌≡◌, ◌+◌}
use Rattle.rv_list.specs.Joined.{joined}
use Rattle.rv_files.specs.Symbols.{symbols_on}
use Rattle.rv_files.proofs.text_symbols.first_symbols.Given as goal

-- the symbols of the lines so far
abbrev pub invariant-loop-k : goal.invariant-loop-k
invariant-loop-k g l = record {
  whole : l.symbols.items ≡ joined (λ k. symbols_on (g.V.View.shown l.view) (k + 1) ((g.V.View.shown l.view).line (k + 1))) l.k;
  text : g.V.Lines.LineSource.shown l.lines ≡ g.V.View.shown l.view;
  passed : g.V.Lines.LineSource.passed l.lines ≡ l.k;
}
