use Rattle.std.proofs.Common.{◌≡◌, length}
use Rattle.rv_report.specs.Warnings.{first_warning}
use Rattle.rv_report.proofs.warnings.first_warning.Given as goal

-- there is none about the operands so far
abbrev pub invariant-operands : goal.invariant-operands
invariant-operands g l = first_warning (g.V.View.shown l.view) l.operands ≡ first_warning (g.V.View.shown l.view) l.fn.operands

abbrev pub decreases-operands : goal.decreases-operands
decreases-operands g l = length l.operands
