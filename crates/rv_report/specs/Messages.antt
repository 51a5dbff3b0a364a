-- The messages of faults.
use Rattle.std.specs.Prelude.{ℕ, ℤ, pos, ◌+◌, ◌*◌, int_lt, unsigned_abs, bytes_eq, is_some, nat_lt, Bool, true, false, List, [], ◌++◌, length, drop, slice_index, Option, Some, None, codes, decimal, if◌then◌else◌}
use Rattle.rv_text.specs.declared.faults.Fault.{Fault}
use Rattle.rv_text.specs.declared.faults.FaultNumber.{FaultNumber}
use Rattle.rv_text.specs.declared.faults.FaultNumber.TheVariants as faults
use Rattle.rv_text.specs.declared.lexeme.Span.{Span}
use Rattle.rv_text.specs.Lexing.{lexed_line}
use Rattle.rv_text.specs.Rows.{hex}
use Rattle.rv_expr.specs.declared.tree.LabelReference.{LabelReference}
use Rattle.rv_expr.specs.declared.tree.LabelReference.TheVariants.{Symbol, Local, Here}
use Rattle.rv_expr.specs.Tree.{Tree}
use Rattle.rv_expr.specs.Tree as tree
use Rattle.rv_expr.specs.Value.{Environment}
use Rattle.rv_ops.specs.Registers.{register_named}
use Rattle.rv_ops.specs.declared.value_limits.Limits.{Limits}
use Rattle.rv_stmt.specs.declared.operand.AlignmentUnit.TheVariants.{Bytes, Exponent}
use Rattle.rv_stmt.specs.declared.operand.Operand.{Operand}
use Rattle.rv_stmt.specs.declared.operand.OperandValue.{OperandValue}
use Rattle.rv_stmt.specs.declared.operand.OperandValue.TheVariants.{Plain}
use Rattle.rv_stmt.specs.declared.operand.Role.{Role}
use Rattle.rv_stmt.specs.declared.operand.Role.TheVariants.{Target, PairTarget, Alignment}
use Rattle.rv_stmt.specs.declared.statement.Body.{Body}
use Rattle.rv_stmt.specs.Statement.{operands_of}
use Rattle.rv_list.specs.declared.view.DefinitionPlace.{DefinitionPlace}
use Rattle.rv_list.specs.declared.view.DefinitionPlace.TheVariants.{Nowhere, Label, Equ}
use Rattle.rv_list.specs.Shown.{Shown}
use Rattle.rv_show.specs.declared.numbers.Notation.{Notation}
use Rattle.rv_show.specs.declared.numbers.Notation.TheVariants.{Decimal}
use Rattle.rv_show.specs.Numbers.{number_text}
use Rattle.rv_show.specs.Parts.{part}
use Rattle.rv_show.specs.Suggestions.{did_you_mean, place_shown, suggestions}
use Rattle.rv_show.specs.Texts.{about, quoted, quoted_from}
use Rattle.rv_report.specs.declared.advice.Topic.TheVariants.{LabelGiven, RangeExceeded}
use Rattle.rv_report.specs.declared.wanted.Wanted.{Wanted}
use Rattle.rv_report.specs.declared.wanted.Wanted.TheVariants.{Number, Csr}
use Rattle.rv_report.specs.Advice.{advice}
use Rattle.rv_report.specs.Bounds.{limits_in, limits_text, notation_in}
use Rattle.rv_report.specs.Counts.{numbers_text, operands_standing}
use Rattle.rv_report.specs.Csrs.{unknown_csr}
use Rattle.rv_report.specs.FaultyNames.{faulty_name_of, low_label_of, name_text}
use Rattle.rv_report.specs.LexicalMessages.{bad_byte, bad_number, bad_string}
use Rattle.rv_report.specs.Lines.{Line, name_after, word_at}
use Rattle.rv_report.specs.OperandMessages.{bad_operand, bad_register, no_statement, separation_of}
use Rattle.rv_report.specs.Operands.{operand_at, value_at}
use Rattle.rv_report.specs.UnknownNames.{unknown_name}
use Rattle.rv_report.specs.Wanted.{register_given, wanted_of}
use Rattle.rv_report.specs.Words.{UnknownWord, Words, line_of_label}

-- Faults of statements

unfoldable pub operand_count : (name : List ℕ) → (standing : ℕ) → (help : List ℕ) → List ℕ
operand_count name standing help =
    about [] name (codes " takes ") ++ (numbers_text name ++ (codes ", not " ++ (decimal standing ++ help)))

unfoldable pub register_range : (name text : List ℕ) → List ℕ
register_range name text = about [] name (codes " does not take ") ++ about [] text (codes " here")

-- Names without a value

-- the symbols that may be meant by a name
abbrev pub near_symbols : (symbols : List (List ℕ)) → LabelReference → List (List ℕ)
near_symbols symbols (Symbol name) = suggestions name symbols
near_symbols symbols (Local number direction) = []
near_symbols symbols Here = []

-- a name and those that may be meant, all from the same place on
unfoldable pub undefined_near : (name : List ℕ) → (near : List (List ℕ)) → List ℕ
undefined_near name near =
    quoted_from (place_shown name near) name ++ (codes " is not defined" ++ did_you_mean (place_shown name near) near)

-- the line of the label that a name may be, if its colon is missing there
abbrev pub line_without_colon : List UnknownWord → LabelReference → Option ℕ
line_without_colon unknown (Symbol name) = line_of_label name unknown
line_without_colon unknown (Local number direction) = None
line_without_colon unknown Here = None

unfoldable pub undefined_but_for_colon : (name : List ℕ) → (line : ℕ) → List ℕ
undefined_but_for_colon name line =
    about [] name (codes " is not defined; is a ':' missing in line ") ++ (decimal line ++ codes "?")

-- a name, with the line of what may be its label, or with those that may be meant
abbrev pub undefined_by : (symbols : List (List ℕ)) → LabelReference → (line : Option ℕ) → List ℕ
undefined_by symbols name (Some line) = undefined_but_for_colon (name_text name) line
undefined_by symbols name None = undefined_near (name_text name) (near_symbols symbols name)

abbrev pub undefined_name : Words → LabelReference → List ℕ
undefined_name words name = undefined_by words.symbols name (line_without_colon words.unknown name)

-- a name alone in the place of a control and status register is meant to be one
abbrev pub undefined_as : Wanted → Words → (text name : List ℕ) → List ℕ
undefined_as Csr words text name = if bytes_eq name text then unknown_csr name else undefined_name words (Symbol name)
undefined_as wanted words text name = undefined_name words (Symbol name)

-- a register's name is meant to be the register
abbrev pub undefined_symbol : (statement : List ℕ) → Wanted → Words → (text name : List ℕ) → List ℕ
undefined_symbol statement wanted words text name =
    if is_some (register_named name) then register_given statement wanted name else undefined_as wanted words text name

abbrev pub undefined_reference : (statement : List ℕ) → Wanted → Words → (text : List ℕ) → LabelReference → List ℕ
undefined_reference statement wanted words text (Symbol name) = undefined_symbol statement wanted words text name
undefined_reference statement wanted words text name = undefined_name words name

abbrev pub undefined : (statement : List ℕ) → Wanted → Words → (text : List ℕ) → Option LabelReference → List ℕ
undefined statement wanted words text None = about (codes "a name that ") text (codes " needs is not defined")
undefined statement wanted words text (Some name) = undefined_reference statement wanted words text name

-- the name, or the operand where no name of its own has the fault
abbrev pub name_or : (text : List ℕ) → Option LabelReference → List ℕ
name_or text None = text
name_or text (Some name) = name_text name

unfoldable pub later_equ : List ℕ → List ℕ
later_equ name = about (codes "an .equ cannot use ") name (codes ", an .equ of this or a later line")

unfoldable pub line_of_equ : DefinitionPlace → List ℕ
line_of_equ (Equ line) = codes " (line " ++ (decimal line ++ codes ")")
line_of_equ (Label line index) = []
line_of_equ Nowhere = []

unfoldable pub faulty_equ_of : Shown → (name : List ℕ) → List ℕ
faulty_equ_of shown name = about (codes "the .equ of ") name (codes " has a fault") ++ line_of_equ (shown.definition name)

abbrev pub faulty_equ : Shown → (text : List ℕ) → Option LabelReference → List ℕ
faulty_equ shown text None = about (codes "the .equ of a name that ") text (codes " needs has a fault")
faulty_equ shown text (Some name) = faulty_equ_of shown (name_text name)

unfoldable pub not_constant : List ℕ → List ℕ
not_constant text = about (codes "the size of a line needs a constant; ") text (codes " is not one")

abbrev pub is_local_name : Tree → Bool
is_local_name (tree.Local number direction) = true
is_local_name e = false

abbrev pub is_local_value : OperandValue → Bool
is_local_value (Plain e) = is_local_name e
is_local_value value = false

-- a reference to a local label alone
abbrev pub is_local_label : Option Operand → Bool
is_local_label None = false
is_local_label (Some o) = is_local_value o.value

unfoldable pub later_line : ℕ → List ℕ
later_line line = codes "; its .equ is on line " ++ (decimal line ++ codes ", and has to stand before this line")

-- what helps on a line where something stands that has its definition at a place
abbrev pub place_help : (statement : List ℕ) → (number : ℕ) → DefinitionPlace → List ℕ
place_help statement number Nowhere = []
place_help statement number (Label line index) = advice LabelGiven statement
place_help statement number (Equ line) = if nat_lt number line then later_line line else []

abbrev pub constant_help : (statement : List ℕ) → Shown → (number : ℕ) → Option Operand → (text : List ℕ) → List ℕ
constant_help statement shown number operand text =
    if is_local_label operand then advice LabelGiven statement else place_help statement number (shown.definition text)

-- an operand whose names have values, or no values for other reasons
abbrev pub operand_not_constant : (statement : List ℕ) → Shown → (number : ℕ) → Option Operand → (text : List ℕ) → List ℕ
operand_not_constant statement shown number operand text = not_constant text ++ constant_help statement shown number operand text

unfoldable pub undefined_constant : Words → LabelReference → List ℕ
undefined_constant words name = codes "the size of a line needs a constant; " ++ undefined_name words name

abbrev pub name_not_constant : DefinitionPlace → Words → (text name : List ℕ) → List ℕ
name_not_constant Nowhere words text name = undefined_constant words (Symbol name)
name_not_constant place words text name = not_constant text

abbrev pub symbol_not_constant : (statement : List ℕ) → Shown → Words → (text name : List ℕ) → List ℕ
symbol_not_constant statement shown words text name =
    if is_some (register_named name) then register_given statement Number name
    else name_not_constant (shown.definition name) words text name

-- the first name without a value tells why an operand is no constant
abbrev pub why_not_constant : (statement : List ℕ) → Shown → Words → (number : ℕ) → Option Operand → (text : List ℕ) → Option LabelReference → List ℕ
why_not_constant statement shown words number operand text (Some (Symbol name)) = symbol_not_constant statement shown words text name
why_not_constant statement shown words number operand text (Some (Local label direction)) = undefined_constant words (Local label direction)
why_not_constant statement shown words number operand text (Some Here) = operand_not_constant statement shown number operand text
why_not_constant statement shown words number operand text None = operand_not_constant statement shown number operand text

unfoldable pub no_partner : List ℕ → List ℕ
no_partner label = about (codes "no 'auipc .., %pcrel_hi(..)' stands at ") label []

-- Values

-- a value, or the operand that should have one
abbrev pub amount : Notation → (text : List ℕ) → Option ℤ → List ℕ
amount notation text None = quoted text
amount notation text (Some value) = number_text notation value

abbrev pub side : ℤ → List ℕ
side distance = if int_lt distance (pos 0) then codes " bytes behind" else codes " bytes ahead"

unfoldable pub beyond_reach : ℤ → Limits → List ℕ
beyond_reach distance limits =
    codes "the target is " ++ (decimal (unsigned_abs distance) ++ (side distance ++ (codes "; the reach is " ++ limits_text Decimal limits)))

unfoldable pub out_of_range : Notation → List ℕ → Limits → List ℕ
out_of_range notation amount limits = amount ++ (codes " is out of range (" ++ (limits_text notation limits ++ codes ")"))

abbrev pub out_of_reach : (text : List ℕ) → Option ℤ → Limits → List ℕ
out_of_reach text None limits = out_of_range Decimal (quoted text) limits
out_of_reach text (Some distance) limits = beyond_reach distance limits

-- the value of an alignment is not the number that is written
abbrev pub range_in_role : Role → Notation → (text : List ℕ) → Option ℤ → Limits → List ℕ
range_in_role Target notation text value limits = out_of_reach text value limits
range_in_role PairTarget notation text value limits = out_of_reach text value limits
range_in_role (Alignment Bytes) notation text value limits = about [] text (codes " is not a power of two from 1 to 4096")
range_in_role (Alignment Exponent) notation text value limits = out_of_range notation (quoted text) limits
range_in_role role notation text value limits = out_of_range notation (amount notation text value) limits

abbrev pub range_of : Body → (text : List ℕ) → Option ℤ → Option Operand → List ℕ
range_of body text value None = about [] text (codes " is out of range")
range_of body text value (Some o) = range_in_role o.role (notation_in body o.role) text value (limits_in body o.role)

unfoldable pub not_multiple : List ℕ → Limits → List ℕ
not_multiple amount limits = amount ++ (codes " is not a multiple of " ++ decimal limits.multiple)

unfoldable pub odd_distance : List ℕ → List ℕ
odd_distance amount = codes "the target is at an odd distance, " ++ amount

abbrev pub multiple_in_role : Role → List ℕ → Limits → List ℕ
multiple_in_role Target amount limits = odd_distance amount
multiple_in_role PairTarget amount limits = odd_distance amount
multiple_in_role role amount limits = not_multiple amount limits

abbrev pub multiple_of : Body → (text : List ℕ) → Option ℤ → Option Operand → List ℕ
multiple_of body text value None = about [] text (codes " is not a multiple")
multiple_of body text value (Some o) = multiple_in_role o.role (amount Decimal text value) (limits_in body o.role)

-- Faults of places

unfoldable pub odd_address : ℕ → List ℕ
odd_address address = codes "an instruction at the odd address 0x" ++ hex 8 address

-- The message of each fault

abbrev pub name_of_statement : Line → List ℕ
name_of_statement line = name_after (length line.stmt.labels) (lexed_line line.text)

abbrev pub word_after_name : Line → List ℕ
word_after_name line = word_at (2 * length line.stmt.labels + 1) (lexed_line line.text)

abbrev pub operand_of_line : Line → Span → Option Operand
operand_of_line line span = operand_at span (operands_of line.stmt.body)

abbrev pub value_of_line : Line → Span → Option ℤ
value_of_line line span = value_at span (operands_of line.stmt.body) line.values

abbrev pub message_by : FaultNumber → Environment → Shown → Line → Span → List ℕ
message_by faults.BadByte given shown line span = bad_byte (slice_index line.text span.from) (drop span.from line.text)
message_by faults.BadNumber given shown line span = bad_number (part line.text span)
message_by faults.BadString given shown line span = bad_string (part line.text span)
message_by faults.NoStatement given shown line span = no_statement (name_of_statement line) (word_after_name line)
message_by faults.UnknownName given shown line span = unknown_name (part line.text span) (word_after_name line) (slice_index line.text span.to)
message_by faults.OperandCount given shown line span = operand_count (part line.text span) (operands_standing (length line.stmt.labels) (lexed_line line.text)) (separation_of (drop span.to line.text))
message_by faults.BadRegister given shown line span = bad_register (name_of_statement line) (part line.text span) (drop span.to line.text) (bytes_eq (word_after_name line) (part line.text span))
message_by faults.RegisterRange given shown line span = register_range (name_of_statement line) (part line.text span)
message_by faults.BadOperand given shown line span = bad_operand (name_of_statement line) (part line.text span) (drop span.to line.text)
message_by faults.TooDeep given shown line span = codes "more than 64 open parentheses"
message_by faults.NotConstant given shown line span = why_not_constant (name_of_statement line) shown line.words line.number (operand_of_line line span) (part line.text span) (faulty_name_of given (operand_of_line line span))
message_by faults.Undefined given shown line span = undefined (name_of_statement line) (wanted_of line.stmt.body (operand_of_line line span)) line.words (part line.text span) (faulty_name_of given (operand_of_line line span))
message_by faults.LaterEqu given shown line span = later_equ (name_or (part line.text span) (faulty_name_of given (operand_of_line line span)))
message_by faults.FaultyEqu given shown line span = faulty_equ shown (part line.text span) (faulty_name_of given (operand_of_line line span))
message_by faults.Arithmetic given shown line span = codes "no value: a division by zero, a shift out of 0 to 63, or more than 64 bits"
message_by faults.Range given shown line span = range_of line.stmt.body (part line.text span) (value_of_line line span) (operand_of_line line span) ++ advice RangeExceeded (name_of_statement line)
message_by faults.Multiple given shown line span = multiple_of line.stmt.body (part line.text span) (value_of_line line span) (operand_of_line line span)
message_by faults.NoPartner given shown line span = no_partner (name_or (part line.text span) (low_label_of (operand_of_line line span)))
message_by faults.Duplicate given shown line span = about [] (part line.text span) (codes " is already defined")
message_by faults.OddAddress given shown line span = odd_address line.address
message_by faults.InBss given shown line span = codes ".bss holds no bytes other than 0"

-- what is wrong with a line, for its reader
unfoldable pub message_of : Environment → Shown → Line → Fault → List ℕ
message_of given shown line fault = message_by fault.number given shown line fault.span
