use Rattle.std.proofs.Common.{◌≡◌, length}
use Rattle.rv_fix.specs.Data.{with_values}
use Rattle.rv_fix.proofs.data.append_values.Given as goal

abbrev pub invariant-loop-operands : goal.invariant-loop-operands
invariant-loop-operands l = with_values l.operands l.entries l.bytes ≡ with_values l.initial.operands l.initial.entries l.fn.bytes

abbrev pub decreases-loop-operands : goal.decreases-loop-operands
decreases-loop-operands l = length l.operands
