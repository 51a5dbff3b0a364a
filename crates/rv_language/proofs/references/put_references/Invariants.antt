use Rattle.std.proofs.Common.{◌≡◌, ◌+◌, ◌++◌}
use Rattle.rv_list.specs.Joined.{joined}
use Rattle.rv_language.specs.References.{asked_of, line_places}
use Rattle.rv_language.proofs.references.put_references.Given as goal

-- the places in the lines so far are written
abbrev pub invariant-loop-k : goal.invariant-loop-k
invariant-loop-k g l = record {
  said : l.m ≡ l.fn.m ++ joined (λ k. line_places l.context.encoding l.context.uri.now (g.V.View.shown l.view) (asked_of l.wanted) (k + 1) ((g.V.View.shown l.view).line (k + 1))) l.k;
  text : g.V.Lines.LineSource.shown l.lines ≡ g.V.View.shown l.view;
  passed : g.V.Lines.LineSource.passed l.lines ≡ l.k;
}
