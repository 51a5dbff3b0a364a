use Rattle.rv_report.proofs.RangeLimits.{widths, source, constant, size}
use Rattle.rv_report.proofs.laws.limits_are_those_of_range.Goals as goal

pub returns : goal.returns
returns c = record { widths = widths; source = source; constant = constant; size = size }
