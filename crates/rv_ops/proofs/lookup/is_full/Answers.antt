use Rattle.rv_ops.proofs.LayoutFacts.{is_short}
use Rattle.rv_ops.proofs.lookup.is_full.Goals as goal

pub returns-clause-short : goal.returns-clause-short
returns-clause-short c = λ e. is_short c.args.op e
