use Rattle.std.proofs.Common.{arith}
use Rattle.std.proofs.lemmas.Grind.{common_steps}
use Rattle.rv_files.proofs.odd_addresses.odd_run.Goals as goal

pub lines-preserved-else-line-2 : goal.lines-preserved-else-line-2
lines-preserved-else-line-2 c = grind (arith, common_steps)

pub lines-preserved-then-line-2 : goal.lines-preserved-then-line-2
lines-preserved-then-line-2 c = grind (arith, common_steps)

pub lines-preserved : goal.lines-preserved
lines-preserved c = grind (arith, common_steps)
