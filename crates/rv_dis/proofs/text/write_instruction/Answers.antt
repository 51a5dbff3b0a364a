use Rattle.std.proofs.Common.{length, ap, arith}
use Rattle.rv_dis.proofs.Lengths.{name_short}
use Rattle.rv_dis.proofs.text.write_instruction.Goals as goal

pub push_operation_name-requires : goal.push_operation_name-requires
push_operation_name-requires c = omega (arith, ap length c.requires, name_short c.op.result)
