use Rattle.std.proofs.Common.{◌≡◌, ◌+◌, ◌≤◌, ◌++◌, length, map, Some}
use Rattle.rv_list.specs.Faults.{label_faults}
use Rattle.rv_list.proofs.faults.push_label_faults.Given as goal

-- the faults so far, and those of the labels that are left
abbrev pub invariant-labels : goal.invariant-labels
invariant-labels g l = record {
  whole : l.faults.items ++ map Some (label_faults (g.V.View.shown l.view) l.line l.index l.labels) ≡ l.fn.faults.items ++ map Some (label_faults (g.V.View.shown l.view) l.line 0 l.fn.labels);
  few : length l.faults.items ≤ length l.fn.faults.items + l.index;
  count : l.index + length l.labels ≡ length l.fn.labels;
}

abbrev pub decreases-labels : goal.decreases-labels
decreases-labels g l = length l.labels
