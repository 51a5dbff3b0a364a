use Rattle.std.proofs.Common.{ℕ, List, length}
use Rattle.rv_program.specs.internal.Defining.{AreLabelsNumbered}
use Rattle.rv_program.specs.internal.Rows.{Grows}
use Rattle.rv_program.proofs.definitions.number_labels.Given as goal

-- once the labels that are left have numbers, all of them do
abbrev pub invariant-labels : goal.invariant-labels
invariant-labels l = record {
  names : Grows l.initial.names l.names;
  numbered : (more : List (List ℕ)) → Grows l.names more → AreLabelsNumbered more l.labels → AreLabelsNumbered more l.initial.labels;
}

abbrev pub decreases-labels : goal.decreases-labels
decreases-labels l = length l.labels
