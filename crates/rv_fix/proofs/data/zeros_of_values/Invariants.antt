use Rattle.std.proofs.Common.{◌≡◌, ◌++◌, length}
use Rattle.std.specs.Prelude.{replicate}
use Rattle.rv_stmt.specs.Data.{values_size}
use Rattle.rv_fix.proofs.data.zeros_of_values.Given as goal

abbrev pub invariant-loop-operands : goal.invariant-loop-operands
invariant-loop-operands l = l.bytes ++ replicate (values_size l.operands) 0 ≡ replicate (values_size l.initial.operands) 0

abbrev pub decreases-loop-operands : goal.decreases-loop-operands
decreases-loop-operands l = length l.operands
