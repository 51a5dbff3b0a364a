use Rattle.std.proofs.Common.{arith}
use Rattle.std.proofs.lemmas.Grind.{common_steps}
use Rattle.rv_stmt.proofs.draft.Draft.read_operands.Goals as goal

pub returns : goal.returns
returns c = grind (arith, common_steps)

pub loop-slots-preserved : goal.loop-slots-preserved
loop-slots-preserved c = grind (arith, common_steps)
