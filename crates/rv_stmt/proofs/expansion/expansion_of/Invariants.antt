use Rattle.std.proofs.Common.{◌≡◌, length}
use Rattle.rv_stmt.specs.Expansion.{expansion_of}
use Rattle.rv_stmt.proofs.expansion.expansion_of.Given as goal

abbrev pub invariant-loop-operands : goal.invariant-loop-operands
invariant-loop-operands l = expansion_of l.operands ≡ expansion_of l.initial.operands

abbrev pub decreases-loop-operands : goal.decreases-loop-operands
decreases-loop-operands l = length l.operands
