-- What a line may do that its writer did not mean: the number of a control and status register is taken from a label.
use Rattle.std.specs.Prelude.{ℕ, Bool, true, false, List, [], ◌∷◌, Option, Some, None, codes, if◌then◌else◌}
use Rattle.std.specs.Option.{option_map, option_or}
use Rattle.rv_text.specs.declared.lexeme.Span.{Span}
use Rattle.rv_expr.specs.Tree.{Tree, Number, Symbol, Local, Here, Unary, Binary}
use Rattle.rv_stmt.specs.declared.operand.Operand.{Operand}
use Rattle.rv_stmt.specs.declared.operand.OperandValue.{OperandValue}
use Rattle.rv_stmt.specs.declared.operand.OperandValue.TheVariants.{Plain}
use Rattle.rv_stmt.specs.declared.operand.Role.{Role}
use Rattle.rv_stmt.specs.declared.operand.Role.TheVariants.{Immediate}
use Rattle.rv_stmt.specs.declared.statement.Body.{Body}
use Rattle.rv_stmt.specs.Statement.{operands_of}
use Rattle.rv_list.specs.declared.view.DefinitionPlace.{DefinitionPlace}
use Rattle.rv_list.specs.declared.view.DefinitionPlace.TheVariants.{Label}
use Rattle.rv_list.specs.Shown.{Shown}
use Rattle.rv_show.specs.Texts.{about}
use Rattle.rv_report.specs.declared.warnings.Warning.{Warning as Borrowed}
use Rattle.rv_report.specs.Wanted.{takes_csr}

-- a label that gives the number of a register, and the operand that uses it
pub record Warning : Type 0 where
  pub span : Span
  pub label : List ℕ

-- as a caller has it
abbrev pub warning_seen : Borrowed → Warning
warning_seen w = record { span = w.span; label = w.label.now }

-- Labels

abbrev pub is_label : DefinitionPlace → Bool
is_label (Label line index) = true
is_label place = false

-- the first label that an expression uses
abbrev pub label_in : Shown → Tree → Option (List ℕ)
label_in shown (Number n) = None
label_in shown (Symbol name) = if is_label (shown.definition name) then Some name else None
label_in shown (Local number direction) = None
label_in shown Here = None
label_in shown (Unary op a) = label_in shown a
label_in shown (Binary op a b) = option_or (label_in shown a) (label_in shown b)

-- Numbers of registers

-- the label in an operand, if it is an immediate
abbrev pub label_of_operand : Shown → Role → OperandValue → Option (List ℕ)
label_of_operand shown Immediate (Plain e) = label_in shown e
label_of_operand shown role value = None

abbrev pub warning_about : Shown → Operand → Option Warning
warning_about shown o = option_map (λ label. record { span = o.span; label = label }) (label_of_operand shown o.role o.value)

abbrev pub first_warning : Shown → List Operand → Option Warning
first_warning shown [] = None
first_warning shown (o ∷ os) = option_or (warning_about shown o) (first_warning shown os)

-- the warning about a line, by its body
abbrev pub warning_of : Shown → Body → Option Warning
warning_of shown body = if takes_csr body then first_warning shown (operands_of body) else None

-- what it says
unfoldable pub warning_message : (label : List ℕ) → List ℕ
warning_message label = about [] label (codes " is a label: its address is taken as the number of the register; .equ gives such a number a name")
