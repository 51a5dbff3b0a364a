-- The name that an operand has no value for: the first one in the order of evaluation that has none itself.
use Rattle.std.specs.Prelude.{ℕ, ℤ, is_err, List, ◌++◌, Option, Some, None, Result, codes, decimal, if◌then◌else◌}
use Rattle.std.specs.Option.{option_or}
use Rattle.rv_expr.specs.declared.faults.ValueFault.{ValueFault}
use Rattle.rv_expr.specs.declared.tree.Direction.{Direction}
use Rattle.rv_expr.specs.declared.tree.Direction.TheVariants.{Back, Forward}
use Rattle.rv_expr.specs.declared.tree.LabelReference.{LabelReference}
use Rattle.rv_expr.specs.declared.tree.LabelReference.TheVariants as labels
use Rattle.rv_expr.specs.Tree.{Tree, Number, Symbol, Local, Here, Unary, Binary}
use Rattle.rv_expr.specs.Value.{Environment}
use Rattle.rv_stmt.specs.declared.operand.Operand.{Operand}
use Rattle.rv_stmt.specs.declared.operand.OperandValue.{OperandValue}
use Rattle.rv_stmt.specs.declared.operand.OperandValue.TheVariants.{Plain, High, Low, PcrelHigh, PcrelLow}
use Rattle.rv_report.specs.declared.faulty_names.UsedName.{UsedName}
use Rattle.rv_report.specs.declared.faulty_names.UsedName.TheVariants as used

-- a name as it is borrowed from a statement
abbrev pub name_used : UsedName → LabelReference
name_used (used.Symbol name) = labels.Symbol name.now
name_used (used.Local number direction) = labels.Local number direction
name_used used.Here = labels.Here

-- a name, if it has no value
abbrev pub unless_valued : Result ℤ ValueFault → LabelReference → Option LabelReference
unless_valued value name = if is_err value then Some name else None

abbrev pub faulty_name : Environment → Tree → Option LabelReference
faulty_name given (Number n) = None
faulty_name given (Symbol name) = unless_valued (given.symbol name) (labels.Symbol name)
faulty_name given (Local number direction) = unless_valued (given.local number direction) (labels.Local number direction)
faulty_name given Here = unless_valued given.here labels.Here
faulty_name given (Unary op a) = faulty_name given a
faulty_name given (Binary op a b) = option_or (faulty_name given a) (faulty_name given b)

-- the label of a low half, if it has no definition; the place of a line is no label
abbrev pub faulty_label : Environment → LabelReference → Option LabelReference
faulty_label given (labels.Symbol name) = unless_valued (given.symbol name) (labels.Symbol name)
faulty_label given (labels.Local number direction) = unless_valued (given.local number direction) (labels.Local number direction)
faulty_label given labels.Here = Some labels.Here

abbrev pub faulty_name_of_value : Environment → OperandValue → Option LabelReference
faulty_name_of_value given (Plain e) = faulty_name given e
faulty_name_of_value given (High e) = faulty_name given e
faulty_name_of_value given (Low e) = faulty_name given e
faulty_name_of_value given (PcrelHigh e) = faulty_name given e
faulty_name_of_value given (PcrelLow label) = faulty_label given label

abbrev pub faulty_name_of : Environment → Option Operand → Option LabelReference
faulty_name_of given None = None
faulty_name_of given (Some o) = faulty_name_of_value given o.value

-- the label of a low half
abbrev pub low_label_of_value : OperandValue → Option LabelReference
low_label_of_value (PcrelLow label) = Some label
low_label_of_value value = None

abbrev pub low_label_of : Option Operand → Option LabelReference
low_label_of None = None
low_label_of (Some o) = low_label_of_value o.value

abbrev pub direction_text : Direction → List ℕ
direction_text Back = codes "b"
direction_text Forward = codes "f"

-- a name as it is written
abbrev pub name_text : LabelReference → List ℕ
name_text (labels.Symbol name) = name
name_text (labels.Local number direction) = decimal number ++ direction_text direction
name_text labels.Here = codes "."
