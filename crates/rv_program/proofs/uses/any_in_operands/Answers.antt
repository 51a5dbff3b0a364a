use Rattle.std.proofs.Common.{arith}
use Rattle.std.proofs.lemmas.Grind.{common_steps}
use Rattle.rv_program.proofs.uses.any_in_operands.Goals as goal

pub returns-then-any_in_value : goal.returns-then-any_in_value
returns-then-any_in_value g c = grind (arith, common_steps)

pub loop-operands-preserved : goal.loop-operands-preserved
loop-operands-preserved g c = grind (arith, common_steps)
