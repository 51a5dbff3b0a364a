use Rattle.std.proofs.Common.{arith}
use Rattle.std.proofs.lemmas.Grind.{common_steps}
use Rattle.rv_text.proofs.lexer.numeral.Goals as goal

pub returns-then-is_local-clause-fits : goal.returns-then-is_local-clause-fits
returns-then-is_local-clause-fits c = grind (arith, common_steps)

pub returns-else-is_local-clause-fits : goal.returns-else-is_local-clause-fits
returns-else-is_local-clause-fits c = grind (arith, common_steps)

pub returns-then-is_some-clause-fits : goal.returns-then-is_some-clause-fits
returns-then-is_some-clause-fits c = grind (arith, common_steps)
