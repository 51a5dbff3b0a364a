use Rattle.std.proofs.Common.{◌≡◌, length}
use Rattle.rv_program.specs.internal.Locals.{has_local_labels}
use Rattle.rv_program.proofs.locals.has_local_labels.Given as goal

abbrev pub invariant-loop-label : goal.invariant-loop-label
invariant-loop-label l = has_local_labels l.labels ≡ has_local_labels l.initial.labels

abbrev pub decreases-loop-label : goal.decreases-loop-label
decreases-loop-label l = length l.labels
