use Rattle.std.proofs.Common.{arith}
use Rattle.std.proofs.lemmas.Grind.{common_steps}
use Rattle.rv_stmt.proofs.label_list.LabelSlice.split_first.Goals as goal

pub returns-in-Local-clause-some : goal.returns-in-Local-clause-some
returns-in-Local-clause-some c = grind (arith, common_steps)

pub returns-in-Symbol-clause-some : goal.returns-in-Symbol-clause-some
returns-in-Symbol-clause-some c = grind (arith, common_steps)

pub invariant_of-result : goal.invariant_of-result
invariant_of-result c = grind (arith, common_steps)

pub invariant_of-result-in-Local : goal.invariant_of-result-in-Local
invariant_of-result-in-Local c = grind (arith, common_steps)
