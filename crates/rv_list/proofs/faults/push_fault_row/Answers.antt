use Rattle.std.proofs.Common.{arith}
use Rattle.std.proofs.lemmas.Grind.{common_steps}
use Rattle.rv_list.specs.Faults.{fault_row}
use Rattle.rv_list.proofs.faults.push_fault_row.Goals as goal

pub returns : goal.returns
unfolding fault_row
returns g c = grind (arith, common_steps)
