use Rattle.std.proofs.Common.{◌≡◌, ◌+◌, ◌++◌}
use Rattle.rv_list.specs.Joined.{joined}
use Rattle.rv_language.specs.DocumentSymbols.{line_symbols}
use Rattle.rv_language.proofs.document_symbols.put_document_symbols.Given as goal

-- the symbols of the lines so far are written
abbrev pub invariant-loop-k : goal.invariant-loop-k
invariant-loop-k g l = record {
  said : l.m ≡ l.fn.m ++ joined (λ k. line_symbols l.context.encoding (g.V.View.shown l.view) (k + 1) ((g.V.View.shown l.view).line (k + 1))) l.k;
  text : g.V.Lines.LineSource.shown l.lines ≡ g.V.View.shown l.view;
  passed : g.V.Lines.LineSource.passed l.lines ≡ l.k;
}
