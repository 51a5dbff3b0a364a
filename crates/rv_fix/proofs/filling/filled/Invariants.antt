use Rattle.std.proofs.Common.{◌≡◌, length}
use Rattle.rv_fix.specs.Filling.{filled}
use Rattle.rv_fix.proofs.filling.filled.Given as goal

abbrev pub invariant-loop-operands : goal.invariant-loop-operands
invariant-loop-operands l = filled l.limits l.operands l.entries l.fields ≡ filled l.limits l.initial.operands l.initial.entries l.fn.start

abbrev pub decreases-loop-operands : goal.decreases-loop-operands
decreases-loop-operands l = length l.operands
