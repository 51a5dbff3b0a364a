use Rattle.std.proofs.Common.{arith}
use Rattle.std.proofs.lemmas.Grind.{common_steps}
use Rattle.std.proofs.lemmas.Int.{ints}
use Rattle.rv_report.specs.Bounds.{limits_text}
use Rattle.rv_report.proofs.bounds.push_limits.Goals as goal

pub returns : goal.returns
unfolding limits_text
returns c = grind (arith, ints, common_steps)
