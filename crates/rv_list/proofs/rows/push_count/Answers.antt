use Rattle.std.proofs.Common.{arith}
use Rattle.std.proofs.lemmas.Grind.{common_steps}
use Rattle.rv_list.specs.Rows.{count_row}
use Rattle.rv_list.proofs.rows.push_count.Goals as goal

pub returns : goal.returns
unfolding count_row
returns g c = grind (arith, common_steps)
