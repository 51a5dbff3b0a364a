use Rattle.std.proofs.Common.{refl, rules}
use Rattle.rv_code.proofs.instruction.Ins.try_new.Goals as goal

pub returns-clause-fits : goal.returns-clause-fits
returns-clause-fits c = (λ some. search rules, λ fits. refl)
