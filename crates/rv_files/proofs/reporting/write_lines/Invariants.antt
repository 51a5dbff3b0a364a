use Rattle.std.proofs.Common.{◌≡◌, ◌+◌, ◌-◌, length, map, take}
use Rattle.std.specs.List.{concat}
use Rattle.rv_text.specs.Streams.{after}
use Rattle.rv_list.specs.Joined.{joined}
use Rattle.rv_show.specs.Origins.{source_of}
use Rattle.rv_report.specs.Lines.{words_of}
use Rattle.rv_store.specs.Shown.{shown_of}
use Rattle.rv_files.specs.TextReports.{line_reports}
use Rattle.rv_files.proofs.reporting.write_lines.Given as goal

-- the first reports of the lines so far are written
abbrev pub invariant-loop-k : goal.invariant-loop-k
invariant-loop-k g l = record {
  taken : g.W.Sink.taken l.sink ≡ after (g.W.Sink.taken l.fn.sink) (concat (take l.most (joined (λ k. line_reports l.page.style (source_of l.page) l.fn.store (words_of l.words) (k + 1) ((shown_of l.fn.store).line (k + 1))) l.k)));
  left : l.left ≡ l.most - length (joined (λ k. line_reports l.page.style (source_of l.page) l.fn.store (words_of l.words) (k + 1) ((shown_of l.fn.store).line (k + 1))) l.k);
  failures : g.W.Sink.failures l.sink ≡ g.W.Sink.failures l.fn.sink;
  text : shown_of l.lines.text ≡ shown_of l.fn.store;
  passed : l.lines.count ≡ l.k;
}
