use Rattle.std.proofs.Common.{◌≡◌, ◌+◌, ◌≤◌, length}
use Rattle.rv_list.specs.Joined.{joined}
use Rattle.rv_files.specs.Words.{unknown_word}
use Rattle.rv_files.proofs.unknown_words.first_unknown_words.Given as goal

-- the words of the lines so far, no more than are wanted
abbrev pub invariant-loop-k : goal.invariant-loop-k
invariant-loop-k g l = record {
  whole : l.words.items ≡ joined (λ k. unknown_word (k + 1) ((g.V.View.shown l.view).line (k + 1))) l.k;
  few : length l.words.items ≤ l.most;
  text : g.V.Lines.LineSource.shown l.lines ≡ g.V.View.shown l.view;
  passed : g.V.Lines.LineSource.passed l.lines ≡ l.k;
}
