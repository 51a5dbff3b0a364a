use Rattle.std.proofs.Common.{arith}
use Rattle.std.proofs.lemmas.Grind.{common_steps}
use Rattle.rv_files.proofs.odd_addresses.push_reported.Goals as goal

pub faults-preserved-in-Some : goal.faults-preserved-in-Some
faults-preserved-in-Some c = grind (arith, common_steps)

pub faults-preserved : goal.faults-preserved
faults-preserved c = grind (arith, common_steps)
