use Rattle.std.proofs.Common.{◌≡◌, ◌+◌, ◌≤◌, length}
use Rattle.rv_list.specs.Joined.{joined}
use Rattle.rv_files.specs.TextReports.{warnings_about}
use Rattle.rv_files.proofs.counting.warning_count.Given as goal

-- the warnings about the lines so far are counted
abbrev pub invariant-loop : goal.invariant-loop
invariant-loop g l = record {
  count : l.count ≡ length (joined (λ k. warnings_about (g.V.View.shown l.view) ((g.V.View.shown l.view).line (k + 1))) l.counter);
  few : l.count ≤ l.counter;
  text : g.V.Lines.LineSource.shown l.lines ≡ g.V.View.shown l.view;
  passed : g.V.Lines.LineSource.passed l.lines ≡ l.counter;
}
