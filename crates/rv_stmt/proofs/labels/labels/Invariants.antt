use Rattle.std.proofs.Common.{◌≡◌, ◌≤◌, ◌++◌, ◌-◌, length, drop}
use Rattle.rv_stmt.specs.Labels.{labels_and_body}
use Rattle.rv_stmt.proofs.labels.labels.Given as goal

-- the labels so far and those of what is left are those of the line
abbrev pub invariant-loop-label : goal.invariant-loop-label
invariant-loop-label l = record {
  within : l.place ≤ length l.line;
  labels : l.labels ++ (labels_and_body (drop l.place l.line)).labels ≡ (labels_and_body l.line).labels;
  body : (labels_and_body (drop l.place l.line)).body ≡ (labels_and_body l.line).body;
}

abbrev pub decreases-loop-label : goal.decreases-loop-label
decreases-loop-label l = length l.line - l.place
