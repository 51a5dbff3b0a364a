use Rattle.std.proofs.Common.{◌≡◌, length}
use Rattle.rv_store.specs.internal.Alike.{same_labels}
use Rattle.rv_store.proofs.alike.are_same_labels.Given as goal

abbrev pub invariant-loop-label : goal.invariant-loop-label
invariant-loop-label l = same_labels l.labels l.others ≡ same_labels l.initial.labels l.initial.others

abbrev pub decreases-loop-label : goal.decreases-loop-label
decreases-loop-label l = length l.labels
