use Rattle.std.proofs.Common.{arith}
use Rattle.std.proofs.lemmas.Grind.{common_steps}
use Rattle.rv_fix.proofs.Zeros.{more_zeros}
use Rattle.rv_fix.proofs.data.zeros_of_values.Goals as goal

pub loop-operands-preserved : goal.loop-operands-preserved
loop-operands-preserved c = grind (arith, common_steps, more_zeros)
