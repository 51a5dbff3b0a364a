-- A line by itself, at an address. (docs/LANGUAGE.md, Lines by themselves)
use Rattle.std.specs.Prelude.{ℕ, ℤ, pos, Bool, true, false, ◌||◌, List, Option, None, Ok, Err}
use Rattle.std.specs.List.{list_any}
use Rattle.rv_expr.specs.declared.faults.ValueFault.TheVariants.{Undefined, NoPartner}
use Rattle.rv_expr.specs.Tree.{Tree, Number, Symbol, Local, Here, Unary, Binary}
use Rattle.rv_expr.specs.Value.{Environment}
use Rattle.rv_stmt.specs.declared.operand.OperandValue.{OperandValue}
use Rattle.rv_stmt.specs.declared.operand.OperandValue.TheVariants.{Plain, High, Low, PcrelHigh, PcrelLow}
use Rattle.rv_stmt.specs.declared.statement.Body.{Body}
use Rattle.rv_stmt.specs.Statement.{statement_of, operands_of}
use Rattle.rv_layout.specs.Shapes.{shape_of}
use Rattle.rv_fix.specs.declared.coded.Coded.{Coded}
use Rattle.rv_fix.specs.Code.{code_of}
use Rattle.rv_fix.specs.Values.{operand_values_of}

-- no name is defined, and `.` is the address
abbrev pub nothing_defined : (here : ℕ) → Environment
nothing_defined here = record {
  symbol = λ name. Err Undefined;
  local = λ number direction. Err Undefined;
  here = Ok (pos here);
  paired_high = λ label. Err NoPartner;
}

abbrev pub no_constants : List ℕ → Option ℤ
no_constants name = None

-- a symbol or a local label stands in the expression
abbrev pub has_names : Tree → Bool
has_names (Number n) = false
has_names (Symbol name) = true
has_names (Local number direction) = true
has_names Here = false
has_names (Unary op a) = has_names a
has_names (Binary op a b) = has_names a || has_names b

-- the value depends on other lines
abbrev pub value_uses_names : OperandValue → Bool
value_uses_names (Plain e) = has_names e
value_uses_names (High e) = has_names e
value_uses_names (Low e) = has_names e
value_uses_names (PcrelHigh e) = has_names e
value_uses_names (PcrelLow label) = true

-- the line's operands depend on other lines. What an `.equ` defines is no operand.
abbrev pub uses_names : Body → Bool
uses_names body = list_any (λ o. value_uses_names o.value) (operands_of body)

-- the code of a body at an address, where nothing is defined
abbrev pub code_of_body_at : (here : ℕ) → Body → Coded
code_of_body_at here body =
    code_of (shape_of no_constants body) body (operand_values_of (nothing_defined here) here body)

-- the code of a line by itself at an address
abbrev pub code_at : (here : ℕ) → List ℕ → Coded
code_at here line = code_of_body_at here (statement_of line).body
