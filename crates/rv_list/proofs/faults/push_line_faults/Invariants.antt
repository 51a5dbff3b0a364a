use Rattle.std.proofs.Common.{◌≡◌, length, map}
use Rattle.std.specs.List.{concat}
use Rattle.rv_list.specs.Faults.{fault_row, found}
use Rattle.rv_text.specs.Halfway.{Halfway}
use Rattle.rv_list.proofs.faults.push_line_faults.Given as goal

-- the rows so far are gathered
abbrev pub invariant-faults : goal.invariant-faults
invariant-faults g l = record {
  half : Halfway (g.W.Sink.taken l.fn.sink) l.fn.block (g.W.Sink.taken l.sink) l.block (concat (map (fault_row l.line) (found l.fn.faults))) (concat (map (fault_row l.line) (found l.faults)));
  failures : g.W.Sink.failures l.sink ≡ g.W.Sink.failures l.fn.sink;
}

abbrev pub decreases-faults : goal.decreases-faults
decreases-faults g l = length l.faults
