use Rattle.std.proofs.Common.{◌≡◌}
use Rattle.rv_language.proofs.places.lines_to.Given as goal

-- so many lines are passed
abbrev pub invariant-loop-k : goal.invariant-loop-k
invariant-loop-k g l = record {
  text : g.V.Lines.LineSource.shown l.lines ≡ g.V.View.shown l.view;
  passed : g.V.Lines.LineSource.passed l.lines ≡ l.k;
}
