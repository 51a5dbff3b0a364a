use Rattle.std.proofs.Common.{arith}
use Rattle.std.proofs.lemmas.Grind.{common_steps}
use Rattle.rv_program.proofs.locals_after.row_after.Goals as goal

pub returns : goal.returns
returns c = grind (arith, common_steps)
