use Rattle.std.proofs.Common.{arith}
use Rattle.std.proofs.lemmas.Grind.{common_steps}
use Rattle.rv_report.proofs.operand_messages.push_separation.Goals as goal

pub tokens-preserved : goal.tokens-preserved
tokens-preserved c = grind (arith, common_steps)

pub returns-then-is_foreign : goal.returns-then-is_foreign
returns-then-is_foreign c = grind (arith, common_steps)

pub returns-then-is_beside_next : goal.returns-then-is_beside_next
returns-then-is_beside_next c = grind (arith, common_steps)
