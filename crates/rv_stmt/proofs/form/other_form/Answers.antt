use Rattle.std.proofs.Common.{arith}
use Rattle.std.proofs.lemmas.Grind.{common_steps}
use Rattle.rv_stmt.proofs.form.other_form.Goals as goal

pub loop-forms-preserved-else-takes : goal.loop-forms-preserved-else-takes
loop-forms-preserved-else-takes c = grind (arith, common_steps)

pub loop-forms-preserved : goal.loop-forms-preserved
loop-forms-preserved c = grind (arith, common_steps)

pub returns : goal.returns
returns c = grind (arith, common_steps)
