use Rattle.std.proofs.Common.{◌≡◌, ◌+◌, ◌++◌, length}
use Rattle.rv_language.specs.LineNames.{label_names}
use Rattle.rv_language.proofs.names.push_labels.Given as goal

-- the names so far, and those that the labels that are left give
abbrev pub invariant-labels : goal.invariant-labels
invariant-labels l = record {
  added : l.names.items ++ label_names l.index l.labels ≡ l.fn.names.items ++ label_names 0 l.fn.labels;
  passed : l.index + length l.labels ≡ length l.fn.labels;
}

abbrev pub decreases-labels : goal.decreases-labels
decreases-labels l = length l.labels
