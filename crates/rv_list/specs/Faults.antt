-- The faults of a text: those of each line in turn.
use Rattle.std.specs.Prelude.{ℕ, ◌+◌, ◌%◌, ◌==◌, Bool, true, false, not, ◌&&◌, List, [], ◌∷◌, ◌++◌, map, Option, Some, None, codes, if◌then◌else◌}
use Rattle.std.specs.List.{list_any}
use Rattle.rv_text.specs.declared.faults.Fault.{Fault}
use Rattle.rv_text.specs.declared.faults.FaultNumber.{FaultNumber}
use Rattle.rv_text.specs.declared.faults.FaultNumber.TheVariants.{BadByte, BadNumber, BadString, NoStatement, UnknownName, OperandCount, BadRegister, RegisterRange, BadOperand, TooDeep, NotConstant, Undefined, LaterEqu, FaultyEqu, Arithmetic, Range, Multiple, NoPartner, Duplicate, OddAddress, InBss}
use Rattle.rv_text.specs.declared.lexeme.Span.{Span}
use Rattle.rv_text.specs.Faults.{fault_number}
use Rattle.rv_stmt.specs.declared.section.Sect.{Sect}
use Rattle.rv_stmt.specs.declared.statement.Body.{Body}
use Rattle.rv_stmt.specs.declared.statement.Body.TheVariants.{Instr, Pseudo, Equ}
use Rattle.rv_stmt.specs.LabelNames.{Label, LabelName, Symbol, Local}
use Rattle.rv_stmt.specs.Statement.{name_of}
use Rattle.rv_layout.specs.Sections.{section_number}
use Rattle.rv_list.specs.declared.view.LinePlace.{LinePlace}
use Rattle.rv_list.specs.Rows.{field, counted}
use Rattle.rv_list.specs.Shown.{Shown, ShownLine, from_lines, is_label, is_equ, shows_bytes}

-- a fault with its span, where there is one
abbrev pub fault_if : Bool → FaultNumber → Span → List Fault
fault_if test number span = if test then record { number = number; span = span } ∷ [] else []

-- the same at the name of what gives bytes
abbrev pub fault_at_name : Bool → FaultNumber → Option Span → List Fault
fault_at_name test number None = []
fault_at_name test number (Some span) = fault_if test number span

-- a label whose symbol has its definition elsewhere; local labels define no symbol
abbrev pub is_later_label : Shown → (line index : ℕ) → LabelName → Bool
is_later_label shown line index (Symbol name) = not (is_label line index (shown.definition name))
is_later_label shown line index (Local number) = false

-- the second definitions among the labels of a line, from number `index` on
abbrev pub label_faults : Shown → (line index : ℕ) → List Label → List Fault
label_faults shown line index [] = []
label_faults shown line index (l ∷ ls) =
    fault_if (is_later_label shown line index l.name) Duplicate l.span ++ label_faults shown line (index + 1) ls

-- an `.equ` whose symbol has its definition elsewhere
abbrev pub equ_faults : Shown → (line : ℕ) → Body → List Fault
equ_faults shown line (Equ d) = fault_if (not (is_equ line (shown.definition d.symbol))) Duplicate d.span
equ_faults shown line body = []

-- the fault of the body, if it has one
abbrev pub body_faults : Option Fault → List Fault
body_faults None = []
body_faults (Some fault) = fault ∷ []

-- those of some places that have a fault
abbrev pub found : List (Option Fault) → List Fault
found [] = []
found (f ∷ fs) = body_faults f ++ found fs

-- whether a byte is there and is not 0
abbrev pub is_set : Option ℕ → Bool
is_set None = false
is_set (Some byte) = not (byte == 0)

abbrev pub is_instruction : Body → Bool
is_instruction (Instr i) = true
is_instruction (Pseudo i) = true
is_instruction body = false

-- an instruction with bytes, at an odd address
abbrev pub is_at_odd_address : Body → LinePlace → Bool
is_at_odd_address body place = is_instruction body && (not (place.size == 0) && place.address % 2 == 1)

-- a byte other than 0 in the section whose bytes are not shown
abbrev pub is_lost_in_bss : Sect → List ℕ → Bool
is_lost_in_bss section bytes = not (shows_bytes (section_number section)) && list_any (λ byte. not (byte == 0)) bytes

-- the faults of a line, in their order
unfoldable pub faults_of : Shown → (number : ℕ) → ShownLine → List Fault
faults_of shown number line =
    label_faults shown number 0 line.stmt.labels
    ++ (equ_faults shown number line.stmt.body
    ++ (body_faults line.code.fault
    ++ (fault_at_name (is_at_odd_address line.stmt.body line.place) OddAddress (name_of line.stmt.body)
    ++ fault_at_name (is_lost_in_bss line.place.section line.code.payload) InBss (name_of line.stmt.body))))

-- Rows

unfoldable pub fault_name : FaultNumber → List ℕ
fault_name BadByte = codes "BadByte"
fault_name BadNumber = codes "BadNumber"
fault_name BadString = codes "BadString"
fault_name NoStatement = codes "NoStatement"
fault_name UnknownName = codes "UnknownName"
fault_name OperandCount = codes "OperandCount"
fault_name BadRegister = codes "BadRegister"
fault_name RegisterRange = codes "RegisterRange"
fault_name BadOperand = codes "BadOperand"
fault_name TooDeep = codes "TooDeep"
fault_name NotConstant = codes "NotConstant"
fault_name Undefined = codes "Undefined"
fault_name LaterEqu = codes "LaterEqu"
fault_name FaultyEqu = codes "FaultyEqu"
fault_name Arithmetic = codes "Arithmetic"
fault_name Range = codes "Range"
fault_name Multiple = codes "Multiple"
fault_name NoPartner = codes "NoPartner"
fault_name Duplicate = codes "Duplicate"
fault_name OddAddress = codes "OddAddress"
fault_name InBss = codes "InBss"

-- the row of a fault: its line, its span, its number and its name
unfoldable pub fault_row : (line : ℕ) → Fault → List ℕ
fault_row line fault =
    field line
    ++ (field fault.span.from ++ (field fault.span.to ++ (field (fault_number fault.number) ++ (fault_name fault.number ++ codes "\n"))))

abbrev pub fault_rows : Shown → List (List ℕ)
fault_rows shown = from_lines shown (λ number line. map (fault_row number) (faults_of shown number line))

unfoldable pub fault_text : Shown → List ℕ
fault_text shown = counted (codes "faults") (fault_rows shown)
