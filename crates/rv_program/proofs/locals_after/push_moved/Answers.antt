use Rattle.std.proofs.Common.{arith}
use Rattle.std.proofs.lemmas.Grind.{common_steps}
use Rattle.rv_program.proofs.locals_after.push_moved.Goals as goal

pub lines-preserved-in_ok-push : goal.lines-preserved-in_ok-push
lines-preserved-in_ok-push c = grind (arith, common_steps)

pub lines-preserved : goal.lines-preserved
lines-preserved c = grind (arith, common_steps)
