-- The bodies of lines with a directive. (docs/LANGUAGE.md, Directives)
use Rattle.std.specs.Prelude.{ℕ, List, [], ◌∷◌, ◌++◌, length, Bool, true, false, bytes_eq, Option, Some, None, option_and_then, Result, Ok, Err, codes, if◌then◌else◌}
use Rattle.rv_text.specs.declared.faults.Fault.{Fault}
use Rattle.rv_text.specs.declared.faults.FaultNumber.TheVariants.{BadOperand, OperandCount}
use Rattle.rv_text.specs.declared.lexeme.Span.{Span}
use Rattle.rv_stmt.specs.declared.directive.Definition.{Definition}
use Rattle.rv_stmt.specs.declared.directive.Directive.{Directive}
use Rattle.rv_stmt.specs.declared.directive.DataContent.TheVariants.{Values, Bytes}
use Rattle.rv_stmt.specs.declared.directives.DirectiveForm.{DirectiveForm}
use Rattle.rv_stmt.specs.declared.directives.DirectiveKind.{DirectiveKind}
use Rattle.rv_stmt.specs.declared.directives.DirectiveKind.TheVariants as kind
use Rattle.rv_stmt.specs.declared.operand.Operand.{Operand}
use Rattle.rv_stmt.specs.declared.operand.Role.{Role}
use Rattle.rv_stmt.specs.declared.operand.Role.TheVariants as role
use Rattle.rv_stmt.specs.declared.runs.Run.{Run}
use Rattle.rv_stmt.specs.declared.section.Sect.{Sect}
use Rattle.rv_stmt.specs.declared.statement.Body.{Body}
use Rattle.rv_stmt.specs.declared.statement.Body.TheVariants.{Emit, Fill, Align, Switch, Equ, Ignored, Faulty}
use Rattle.rv_stmt.specs.OperandCounts.{takes}
use Rattle.rv_stmt.specs.Operands.{operand_of_run}
use Rattle.rv_stmt.specs.Readings.{and_then, or_fault}
use Rattle.rv_stmt.specs.Sections.{section_named}
use Rattle.rv_stmt.specs.Strings.{with_strings}
use Rattle.rv_stmt.specs.Tokens.{one_identifier}
use Rattle.rv_stmt.specs.Values.{plain}

-- the role of the operand after one of this role: a size may have a byte after it
abbrev pub next_role : Role → Role
next_role role.Size = role.FillByte
next_role role = role

-- the expression that a run is, in its role
abbrev pub operand_in_role : Role → Run → Result Operand Fault
operand_in_role role r =
    and_then (operand_of_run r (plain r.tokens)) (λ v. Ok (record { value = v; role = role; span = r.span }))

-- these operands, and those of the runs from left to right, the first of them in this role, up to the first fault
abbrev pub with_operands : Role → List Run → List Operand → Result (List Operand) Fault
with_operands role [] os = Ok os
with_operands role (r ∷ rs) os =
    and_then (operand_in_role role r) (λ o. with_operands (next_role role) rs (os ++ (o ∷ [])))

-- a directive whose operands are expressions
abbrev pub directive : Span → List Operand → Directive
directive name os = record { name = name; operands = os }

-- the first operand where there is one
abbrev pub first_operand : Span → List Run → Result Run Fault
first_operand name [] = Err (record { number = OperandCount; span = name })
first_operand name (r ∷ rs) = Ok r

-- the section whose name a run is
abbrev pub section_in : Run → Result Sect Fault
section_in r = operand_of_run r (or_fault BadOperand (option_and_then section_named (one_identifier r.tokens)))

-- an identifier other than `.`
abbrev pub symbol_of_text : List ℕ → Option (List ℕ)
symbol_of_text text = if bytes_eq text (codes ".") then None else Some text

-- the symbol that a run is
abbrev pub symbol_in : Run → Result (List ℕ) Fault
symbol_in r = operand_of_run r (or_fault BadOperand (option_and_then symbol_of_text (one_identifier r.tokens)))

-- a symbol, and the expression that defines it
abbrev pub definition_in : Span → List Run → Result Definition Fault
definition_in name [] = Err (record { number = OperandCount; span = name })
definition_in name (r ∷ rs) =
    and_then
    (symbol_in r)
    (λ symbol. and_then
    (with_operands role.Definition rs [])
    (λ os. Ok (record { symbol = symbol; span = r.span; operands = os })))

-- what a directive of this kind makes of its operands
abbrev pub body_of_kind : DirectiveKind → Span → List Run → Result Body Fault
body_of_kind (kind.Data w) name rs =
    and_then (with_operands (role.Data w) rs []) (λ os. Ok (Emit (record { name = name; content = Values os })))
body_of_kind kind.Strings name rs =
    and_then (with_strings [] rs []) (λ bs. Ok (Emit (record { name = name; content = Bytes bs })))
body_of_kind kind.TerminatedStrings name rs =
    and_then (with_strings (0 ∷ []) rs []) (λ bs. Ok (Emit (record { name = name; content = Bytes bs })))
body_of_kind kind.Fill name rs = and_then (with_operands role.Size rs []) (λ os. Ok (Fill (directive name os)))
body_of_kind (kind.Alignment u) name rs =
    and_then (with_operands (role.Alignment u) rs []) (λ os. Ok (Align (directive name os)))
body_of_kind (kind.Switch s) name rs = Ok (Switch s)
body_of_kind kind.Section name rs = and_then (and_then (first_operand name rs) section_in) (λ s. Ok (Switch s))
body_of_kind kind.Definition name rs = and_then (definition_in name rs) (λ d. Ok (Equ d))
body_of_kind kind.Ignored name rs = Ok Ignored

-- a body, or what is wrong with it
abbrev pub body_or_fault : Result Body Fault → Body
body_or_fault (Ok body) = body
body_or_fault (Err fault) = Faulty fault

-- the body of a directive and its operands
abbrev pub body_of_form : DirectiveForm → Span → List Run → Body
body_of_form d name rs =
    if takes d.count (length rs) then body_or_fault (body_of_kind d.kind name rs)
    else Faulty (record { number = OperandCount; span = name })

-- what stands after the name is not read
abbrev pub is_ignored : DirectiveKind → Bool
is_ignored kind.Ignored = true
is_ignored kind = false
