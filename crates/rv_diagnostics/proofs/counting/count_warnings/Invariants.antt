use Rattle.std.proofs.Common.{◌≡◌, ◌+◌, ◌≤◌, length, min}
use Rattle.rv_list.specs.Joined.{joined}
use Rattle.rv_diagnostics.specs.Published.{warnings_about}
use Rattle.rv_diagnostics.proofs.counting.count_warnings.Given as goal

-- the warnings about the lines so far are counted
abbrev pub invariant-loop-k : goal.invariant-loop-k
invariant-loop-k g l = record {
  all : l.counted.all ≡ length (joined (λ k. warnings_about (g.V.View.shown l.view) (k + 1) ((g.V.View.shown l.view).line (k + 1))) l.k);
  before : l.counted.before ≡ length (joined (λ k. warnings_about (g.V.View.shown l.view) (k + 1) ((g.V.View.shown l.view).line (k + 1))) (min l.at l.k));
  within : l.counted.before ≤ l.counted.all;
  few : l.counted.all ≤ l.k;
  text : g.V.Lines.LineSource.shown l.lines ≡ g.V.View.shown l.view;
  passed : g.V.Lines.LineSource.passed l.lines ≡ l.k;
}
