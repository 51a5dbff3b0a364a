use Rattle.rv_ops.specs.LimitLaws.{in_limits, no_fault}
use Rattle.rv_ops.proofs.laws.limits_are_bounds.Goals as goal

pub returns : goal.returns
returns c = record { within = in_limits; no_fault = no_fault }
