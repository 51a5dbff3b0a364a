use Rattle.std.proofs.Common.{arith}
use Rattle.std.proofs.lemmas.Grind.{common_steps}
use Rattle.rv_fix.proofs.valuation.operand_values.Goals as goal

pub returns-in-len1 : goal.returns-in-len1
returns-in-len1 g c = grind (arith, common_steps)

pub returns-in_err-entries-in_default : goal.returns-in_err-entries-in_default
returns-in_err-entries-in_default g c = grind (arith, common_steps)
