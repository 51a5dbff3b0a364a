use Rattle.std.proofs.Common.{arith}
use Rattle.std.proofs.lemmas.Grind.{common_steps}
use Rattle.rv_program.proofs.line_names.usable_equs.Goals as goal

pub returns-in-Equ-clause-lines : goal.returns-in-Equ-clause-lines
returns-in-Equ-clause-lines c = grind (arith, common_steps)

pub returns-in_default : goal.returns-in_default
returns-in_default c = grind (arith, common_steps)
