use Rattle.std.proofs.Common.{◌≡◌, [], length}
use Rattle.rv_stmt.specs.DirectiveBodies.{with_operands}
use Rattle.rv_stmt.proofs.directive_bodies.operands.Given as goal

-- what is read so far, and then what is left
abbrev pub invariant-loop-runs : goal.invariant-loop-runs
invariant-loop-runs l =
    with_operands l.role l.runs l.operands ≡ with_operands l.initial.role l.initial.runs []

abbrev pub decreases-loop-runs : goal.decreases-loop-runs
decreases-loop-runs l = length l.runs
