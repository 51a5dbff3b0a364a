-- The numbers of refusals, and the faults of lines that faults of values are reported as.
use Rattle.std.specs.Prelude.{ℕ}
use Rattle.rv_text.specs.declared.faults.FaultNumber.{FaultNumber}
use Rattle.rv_text.specs.declared.faults.FaultNumber.TheVariants as line
use Rattle.rv_expr.specs.declared.faults.ReadFault.{ReadFault}
use Rattle.rv_expr.specs.declared.faults.ReadFault.TheVariants.{Deep, Operand, Memory}
use Rattle.rv_expr.specs.declared.faults.ValueFault.{ValueFault}
use Rattle.rv_expr.specs.declared.faults.ValueFault.TheVariants.{NotConstant, Undefined, LaterEqu, FaultyEqu, Arithmetic, NoPartner}

abbrev pub refusal_number : ReadFault → ℕ
refusal_number Deep = 1
refusal_number Operand = 2
refusal_number Memory = 3

-- the fault of a line whose operand has no value
abbrev pub line_fault : ValueFault → FaultNumber
line_fault NotConstant = line.NotConstant
line_fault Undefined = line.Undefined
line_fault LaterEqu = line.LaterEqu
line_fault FaultyEqu = line.FaultyEqu
line_fault Arithmetic = line.Arithmetic
line_fault NoPartner = line.NoPartner
