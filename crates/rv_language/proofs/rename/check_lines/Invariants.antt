use Rattle.std.proofs.Common.{◌≡◌, ◌+◌}
use Rattle.std.specs.Prelude.{None}
use Rattle.rv_language.specs.Renames.{change_of, first_refusal, line_refusal}
use Rattle.rv_language.proofs.rename.check_lines.Given as goal

-- the lines so far can get the new name
abbrev pub invariant-loop-k : goal.invariant-loop-k
invariant-loop-k g l = record {
  none : first_refusal (λ k. line_refusal (change_of l.renaming) (k + 1) ((g.V.View.shown l.view).line (k + 1))) l.k ≡ None;
  text : g.V.Lines.LineSource.shown l.lines ≡ g.V.View.shown l.view;
  passed : g.V.Lines.LineSource.passed l.lines ≡ l.k;
}
