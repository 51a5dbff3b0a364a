use Rattle.std.proofs.Common.{◌≡◌, ◌+◌, length, map}
use Rattle.std.specs.List.{concat}
use Rattle.rv_text.specs.Blocks.{Waits}
use Rattle.rv_list.specs.Faults.{fault_row, faults_of}
use Rattle.rv_list.specs.Joined.{joined}
use Rattle.rv_list.proofs.faults.push_fault_rows.Given as goal

-- the rows of the lines so far are gathered
abbrev pub invariant-loop-k : goal.invariant-loop-k
invariant-loop-k g l = record {
  waits : Waits (g.W.Sink.taken l.fn.sink) l.fn.block (concat (joined (λ k. map (fault_row (k + 1)) (faults_of (g.V.View.shown l.view) (k + 1) ((g.V.View.shown l.view).line (k + 1)))) l.k)) (g.W.Sink.taken l.sink) l.block;
  failures : g.W.Sink.failures l.sink ≡ g.W.Sink.failures l.fn.sink;
  text : g.L.LineSource.shown l.lines ≡ g.V.View.shown l.view;
  left : l.left + length (joined (λ k. map (fault_row (k + 1)) (faults_of (g.V.View.shown l.view) (k + 1) ((g.V.View.shown l.view).line (k + 1)))) l.k) ≡ l.count;
  passed : g.L.LineSource.passed l.lines ≡ l.k;
}
