use Rattle.std.proofs.Common.{◌≡◌, ◌+◌, ◌*◌, ◌≤◌, length, map}
use Rattle.rv_list.specs.Faults.{fault_row, faults_of}
use Rattle.rv_list.specs.Joined.{joined}
use Rattle.rv_files.specs.OddAddresses.{reported_faults}
use Rattle.rv_files.proofs.odd_addresses.fault_counts.Given as goal

-- those of the lines so far are counted
abbrev pub invariant-loop-k : goal.invariant-loop-k
invariant-loop-k g l = record {
  faults : l.faults ≡ length (joined (λ k. map (fault_row (k + 1)) (faults_of (g.V.View.shown l.view) (k + 1) ((g.V.View.shown l.view).line (k + 1)))) l.k);
  few : l.faults ≤ 1004 * l.k;
  reported : l.reported ≡ length (joined (λ k. reported_faults (g.V.View.shown l.view) (k + 1) ((g.V.View.shown l.view).line (k + 1))) l.k);
  few_reported : l.reported ≤ 1004 * l.k;
  text : g.V.Lines.LineSource.shown l.lines ≡ g.V.View.shown l.view;
  passed : g.V.Lines.LineSource.passed l.lines ≡ l.k;
}
