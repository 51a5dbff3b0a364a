-- Lines of which `%pcrel_hi` of a symbol is the only operand.
use Rattle.std.specs.Prelude.{ℕ, List, [], ◌∷◌, Option, Some, None}
use Rattle.rv_expr.specs.Tree.{Symbol}
use Rattle.rv_ops.specs.declared.op.Op.{Op}
use Rattle.rv_ops.specs.declared.op.Op.TheVariants.{Auipc}
use Rattle.rv_stmt.specs.declared.operand.Operand.{Operand}
use Rattle.rv_stmt.specs.declared.operand.OperandValue.{OperandValue}
use Rattle.rv_stmt.specs.declared.operand.OperandValue.TheVariants.{PcrelHigh}
use Rattle.rv_stmt.specs.declared.operand.Role.{Role}
use Rattle.rv_stmt.specs.declared.operand.Role.TheVariants.{Immediate}
use Rattle.rv_stmt.specs.declared.statement.Body.{Body}
use Rattle.rv_stmt.specs.declared.statement.Body.TheVariants.{Instr}

abbrev pub high_symbol_in : OperandValue → Role → Option (List ℕ)
high_symbol_in (PcrelHigh (Symbol name)) Immediate = Some name
high_symbol_in value role = None

abbrev pub high_symbol_among : Op → List Operand → Option (List ℕ)
high_symbol_among Auipc (o ∷ []) = high_symbol_in o.value o.role
high_symbol_among op os = None

-- the symbol, if a line is one
abbrev pub high_symbol_of : Body → Option (List ℕ)
high_symbol_of (Instr i) = high_symbol_among i.op i.operands
high_symbol_of body = None
