-- The constants of a text. (docs/LANGUAGE.md, Constants)
use Rattle.std.specs.Prelude.{ℕ, ℤ, zero, suc, ◌-◌, List, [], ◌∷◌, Option, None, Err, if◌then◌else◌}
use Rattle.std.specs.Result.{result_ok}
use Rattle.rv_expr.specs.declared.faults.ValueFault.TheVariants.{NotConstant}
use Rattle.rv_expr.specs.Value.{Environment, value_of}
use Rattle.rv_stmt.specs.declared.operand.Operand.{Operand}
use Rattle.rv_stmt.specs.declared.operand.OperandValue.{OperandValue}
use Rattle.rv_stmt.specs.declared.operand.OperandValue.TheVariants.{Plain}
use Rattle.rv_stmt.specs.declared.statement.Body.{Body}
use Rattle.rv_stmt.specs.declared.statement.Body.TheVariants.{Equ}
use Rattle.rv_layout.specs.Shapes.{constants}
use Rattle.rv_fix.specs.Values.{Entry}
use Rattle.rv_program.specs.Definitions.{definition_of, is_equ_on}
use Rattle.rv_program.specs.Program.{Program, body_at}

-- An `.equ` has one operand, which is an expression without a modifier.
abbrev pub value_without_modifier : Environment → OperandValue → Entry
value_without_modifier given (Plain e) = value_of given e
value_without_modifier given value = Err NotConstant

abbrev pub first_value : Environment → List Operand → Entry
first_value given [] = Err NotConstant
first_value given (o ∷ os) = value_without_modifier given o.value

-- the value that the `.equ` of a line defines, where names give this
abbrev pub defined_value : Environment → Body → Entry
defined_value given (Equ d) = first_value given d.operands
defined_value given body = Err NotConstant

-- The constant of a name, where the `.equ`s of the first k lines count: its value, if names in it are constants of lines
-- before its own.
abbrev pub constant_through : Program → (k : ℕ) → (name : List ℕ) → Option ℤ
constant_through program zero name = None
constant_through program (suc k) name =
    if is_equ_on (suc k) (definition_of program name)
    then result_ok (defined_value (constants (constant_through program k)) (body_at program (suc k)))
    else constant_through program k name

-- the constant that a name is on line i
abbrev pub constant_of : Program → (i : ℕ) → (name : List ℕ) → Option ℤ
constant_of program i name = constant_through program (i - 1) name
