use Rattle.std.proofs.Common.{◌≡◌, ◌-◌}
use Rattle.std.specs.Prelude.{max, min}
use Rattle.rv_language.specs.Meanings.{first_after, has_local, last_up_to, local_behind}
use Rattle.rv_language.proofs.meaning.local_around.Given as goal

-- the lines so far are passed: none of them is after the place and has the label
abbrev pub invariant-loop-k : goal.invariant-loop-k
invariant-loop-k g l = record {
  before : l.around.before ≡ last_up_to (has_local (g.V.View.shown l.view) l.number) (min l.at l.k);
  behind : first_after (has_local (g.V.View.shown l.view) l.number) (max l.at l.k) ((g.V.View.shown l.view).count - max l.at l.k) ≡ local_behind (g.V.View.shown l.view) l.number l.at;
  none : l.around.behind ≡ 4294967295;
  text : g.V.Lines.LineSource.shown l.lines ≡ g.V.View.shown l.view;
  passed : g.V.Lines.LineSource.passed l.lines ≡ l.k;
}
