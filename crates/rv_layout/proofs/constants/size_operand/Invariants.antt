use Rattle.std.proofs.Common.{◌≡◌, length}
use Rattle.rv_layout.specs.Shapes.{size_operand}
use Rattle.rv_layout.proofs.constants.size_operand.Given as goal

-- the operands so far are no size operands
abbrev pub invariant-loop-operands : goal.invariant-loop-operands
invariant-loop-operands l = size_operand l.operands ≡ size_operand l.initial.operands

abbrev pub decreases-loop-operands : goal.decreases-loop-operands
decreases-loop-operands l = length l.operands
