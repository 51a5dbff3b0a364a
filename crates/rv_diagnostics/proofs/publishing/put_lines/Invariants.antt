use Rattle.std.proofs.Common.{◌≡◌, ◌+◌, ◌++◌, length, map}
use Rattle.rv_list.specs.Joined.{joined}
use Rattle.rv_report.specs.Lines.{words_of}
use Rattle.rv_diagnostics.specs.Published.{line_diagnostics, shown_in}
use Rattle.rv_doc.specs.Windows.{passed}
use Rattle.rv_diagnostics.proofs.publishing.put_lines.Given as goal

-- the diagnostics of the lines so far are written, those of them that the window shows
abbrev pub invariant-loop-k : goal.invariant-loop-k
invariant-loop-k g l = record {
  said : l.m ≡ l.fn.m ++ shown_in l.fn.window (joined (λ k. line_diagnostics l.context.encoding l.context.uri.now (g.T.Told.environments l.told) (g.T.View.shown l.told) (words_of l.words) (k + 1) ((g.T.View.shown l.told).line (k + 1))) l.k);
  left : l.window ≡ passed l.fn.window (length (joined (λ k. line_diagnostics l.context.encoding l.context.uri.now (g.T.Told.environments l.told) (g.T.View.shown l.told) (words_of l.words) (k + 1) ((g.T.View.shown l.told).line (k + 1))) l.k));
  text : g.T.Lines.LineSource.shown l.lines ≡ g.T.View.shown l.told;
  passed : g.T.Lines.LineSource.passed l.lines ≡ l.k;
}
