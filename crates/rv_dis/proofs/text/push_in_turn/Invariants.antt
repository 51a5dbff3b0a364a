use Rattle.std.proofs.Common.{◌≡◌, ◌++◌, drop, map}
use Rattle.rv_ops.specs.Table.{shape_of}
use Rattle.rv_dis.specs.Text.{after_comma, operand_text, instruction_text}
use Rattle.rv_dis.proofs.text.push_in_turn.Given as goal

-- the text so far, and then the operands that are left, are the whole
abbrev pub invariant-loop-slot : goal.invariant-loop-slot
invariant-loop-slot l = l.out ++ after_comma (map (operand_text l.address (shape_of l.ins.0) l.ins.1) (drop l.slot-index l.others)) ≡ instruction_text l.address l.ins.0 l.ins.1
