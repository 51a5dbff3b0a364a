use Rattle.std.proofs.Common.{arith}
use Rattle.std.proofs.lemmas.Grind.{common_steps}
use Rattle.rv_fix.proofs.data.append_values.Goals as goal

pub loop-operands-preserved : goal.loop-operands-preserved
loop-operands-preserved c = grind (arith, common_steps)
