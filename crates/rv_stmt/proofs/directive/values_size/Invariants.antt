use Rattle.std.proofs.Common.{◌≡◌, ◌+◌, ◌<◌, ◌^◌, length}
use Rattle.rv_stmt.specs.Data.{values_size}
use Rattle.rv_stmt.proofs.directive.values_size.Given as goal

abbrev pub invariant-loop-operands : goal.invariant-loop-operands
invariant-loop-operands l = record {
  whole : l.size + values_size l.operands ≡ values_size l.initial.operands;
  small : values_size l.initial.operands < 2 ^ 32;
}

abbrev pub decreases-loop-operands : goal.decreases-loop-operands
decreases-loop-operands l = length l.operands
