-- Diagnostics as tokens of JSON. (Language Server Protocol 3.17, textDocument/publishDiagnostics)
use Rattle.std.specs.Prelude.{ℕ, ◌-◌, ◌&&◌, nat_le, bytes_eq, if◌then◌else◌, List, [], ◌∷◌, ◌++◌, take, codes, decimal, Option, Some}
use Rattle.std.specs.Str.Lossy.{utf8_lossy}
use Rattle.json.specs.Token.{Token, begin_object, end_object, begin_array, end_array, key}
use Rattle.rv_text.specs.declared.faults.Fault.{Fault}
use Rattle.rv_text.specs.declared.faults.FaultNumber.{FaultNumber}
use Rattle.rv_text.specs.declared.faults.FaultNumber.TheVariants.{Duplicate, FaultyEqu}
use Rattle.rv_text.specs.declared.lexeme.TheConstants.{MAX_LINE_LENGTH}
use Rattle.rv_text.specs.declared.lexeme.Span.{Span}
use Rattle.rv_text.specs.declared.lexeme.Token.{Token as LexToken}
use Rattle.rv_text.specs.Lexing.{lexed_line}
use Rattle.rv_expr.specs.declared.tree.LabelReference.{LabelReference}
use Rattle.rv_expr.specs.declared.tree.LabelReference.TheVariants as label
use Rattle.rv_expr.specs.Value.{Environment}
use Rattle.rv_list.specs.declared.view.DefinitionPlace.{DefinitionPlace}
use Rattle.rv_list.specs.declared.view.DefinitionPlace.TheVariants.{Nowhere, Label, Equ}
use Rattle.rv_list.specs.Faults.{fault_name}
use Rattle.rv_list.specs.Shown.{Shown}
use Rattle.rv_show.specs.Parts.{part}
use Rattle.rv_report.specs.Lines.{Line}
use Rattle.rv_report.specs.FaultyNames.{faulty_name_of}
use Rattle.rv_report.specs.Messages.{message_of, operand_of_line}
use Rattle.rv_report.specs.Warnings.{Warning, warning_message}
use Rattle.rv_program.specs.declared.limits.TheConstants.{MAX_LINES}
use Rattle.rv_doc.specs.declared.encoding.Encoding.{Encoding}
use Rattle.rv_doc.specs.Positions.{columns, without_return}
use Rattle.rv_diagnostics.specs.Json.{number_member, string_member, range}

-- the column at a place of a line, in bytes: no column is behind the 0x0D that belongs to its end
abbrev pub column_at : Encoding → (line : List ℕ) → (at : ℕ) → ℕ
column_at encoding line at = columns encoding (take at (without_return line))

-- what a diagnostic begins with: where it is, how grave, its code and what it says
unfoldable pub diagnostic_head : (line from to severity : ℕ) → (code message : List ℕ) → List Token
diagnostic_head line from to severity code message =
    begin_object ∷ (key (codes "range") ∷ (range line from to
    ++ (number_member (codes "severity") severity
    ++ (string_member (codes "code") code
    ++ (string_member (codes "source") (codes "rvls") ++ string_member (codes "message") message)))))

-- all of it, with what else belongs to it
abbrev pub diagnostic : (line from to severity : ℕ) → (code message : List ℕ) → (related : List Token) → List Token
diagnostic line from to severity code message related =
    diagnostic_head line from to severity code message ++ (related ++ end_object ∷ [])

-- the place of a name in the line of its definition, from 1 on, with what is said of it
unfoldable pub related_line : Encoding → (uri : List ℕ) → (line : ℕ) → (text : List ℕ) → Span → (said : List ℕ) → List Token
related_line encoding uri line text span said =
    key (codes "relatedInformation") ∷ (begin_array ∷ (begin_object ∷ (key (codes "location") ∷ (begin_object ∷ (string_member (codes "uri") uri
    ++ (key (codes "range") ∷ (range (line - 1) (column_at encoding text span.from) (column_at encoding text span.to)
    ++ (end_object ∷ (string_member (codes "message") said ++ (end_object ∷ (end_array ∷ [])))))))))))

abbrev pub related_place : Encoding → (uri : List ℕ) → DefinitionPlace → (text : List ℕ) → Span → (said : List ℕ) → List Token
related_place encoding uri Nowhere text span said = []
related_place encoding uri (Label line index) text span said = related_line encoding uri line text span said
related_place encoding uri (Equ line) text span said = related_line encoding uri line text span said

-- a second definition names the first, and the use of a faulty one names that
abbrev pub related_of : Encoding → (uri : List ℕ) → FaultNumber → DefinitionPlace → (text : List ℕ) → Span → List Token
related_of encoding uri Duplicate place text span = related_place encoding uri place text span (codes "the first definition is here")
related_of encoding uri FaultyEqu place text span = related_place encoding uri place text span (codes "its definition is here")
related_of encoding uri number place text span = []

-- the line of a definition
abbrev pub text_of_line : Shown → (line : ℕ) → List ℕ
text_of_line shown line = if nat_le 1 line && nat_le line shown.count then (shown.line line).text else []

abbrev pub text_of_place : Shown → DefinitionPlace → List ℕ
text_of_place shown Nowhere = []
text_of_place shown (Label line index) = text_of_line shown line
text_of_place shown (Equ line) = text_of_line shown line

-- where a line has a word first, by its tokens, and an empty place where it has not
abbrev pub first_place : (line word : List ℕ) → (tokens : List LexToken) → Span
first_place line word [] = record { from = 0; to = 0 }
first_place line word (token ∷ tokens) = if bytes_eq (part line token.span) word then token.span else first_place line word tokens

unfoldable pub place_of_word : (line word : List ℕ) → Span
place_of_word line word = first_place line word (lexed_line line).tokens

-- where the name is defined for which an operand has no value
abbrev pub place_of_name : Shown → Option LabelReference → DefinitionPlace
place_of_name shown (Some (label.Symbol name)) = shown.definition name
place_of_name shown name = Nowhere

-- where the name of a fault is defined: that of the `.equ` that is faulty, or what the fault covers
abbrev pub place_of_fault : Environment → Shown → Line → FaultNumber → Span → DefinitionPlace
place_of_fault given shown line FaultyEqu span = place_of_name shown (faulty_name_of given (operand_of_line line span))
place_of_fault given shown line number span = shown.definition (part line.text span)

-- the name for which an operand has no value
abbrev pub name_without_value : Option LabelReference → List ℕ
name_without_value (Some (label.Symbol name)) = name
name_without_value name = []

-- the name of a fault, of which it is told where it is defined
abbrev pub name_of_fault : Environment → Line → FaultNumber → Span → List ℕ
name_of_fault given line FaultyEqu span = name_without_value (faulty_name_of given (operand_of_line line span))
name_of_fault given line number span = part line.text span

-- what the message of a second definition ends with: the line of the first one
abbrev pub in_line : DefinitionPlace → List ℕ
in_line Nowhere = []
in_line (Label line index) = codes " in line " ++ decimal line
in_line (Equ line) = codes " in line " ++ decimal line

abbrev pub first_line_of : FaultNumber → DefinitionPlace → List ℕ
first_line_of Duplicate place = in_line place
first_line_of number place = []

-- the diagnostic of a fault of a line, which has the number `line.number` from 1 on, with this message, where its name is defined here, in this line
-- and at this span of it
abbrev pub diagnostic_of_fault : Encoding → (uri : List ℕ) → DefinitionPlace → (text : List ℕ) → Span → Line → Fault → (message : List ℕ) → List Token
diagnostic_of_fault encoding uri place text span line fault message =
    diagnostic (line.number - 1) (column_at encoding line.text fault.span.from) (column_at encoding line.text fault.span.to) 1 (fault_name fault.number)
    message (related_of encoding uri fault.number place text span)

-- that of a fault whose name is defined here
abbrev pub diagnostic_by_place : Encoding → (uri : List ℕ) → Environment → Shown → Line → Fault → DefinitionPlace → List Token
diagnostic_by_place encoding uri given shown line fault place =
    diagnostic_of_fault encoding uri place (text_of_place shown place) (place_of_word (text_of_place shown place) (name_of_fault given line fault.number fault.span)) line fault
    (utf8_lossy (message_of given shown line fault ++ first_line_of fault.number place))

-- the diagnostic of a fault of a line
unfoldable pub fault_diagnostic : Encoding → (uri : List ℕ) → Environment → Shown → Line → Fault → List Token
fault_diagnostic encoding uri given shown line fault =
    diagnostic_by_place encoding uri given shown line fault (place_of_fault given shown line fault.number fault.span)

-- the diagnostic of a warning about a line
unfoldable pub warning_diagnostic : Encoding → (number : ℕ) → (text : List ℕ) → Warning → List Token
warning_diagnostic encoding number text warning =
    diagnostic (number - 1) (column_at encoding text warning.span.from) (column_at encoding text warning.span.to) 2 (codes "label-as-register") (utf8_lossy (warning_message warning.label)) []

-- Limits

-- the diagnostic of a line that is too long, by its number from 0 on: at the first byte past the limit
unfoldable pub long_line : Encoding → (line : ℕ) → (text : List ℕ) → List Token
long_line encoding line text =
    diagnostic line (column_at encoding text MAX_LINE_LENGTH) (column_at encoding text MAX_LINE_LENGTH) 1 (codes "line-too-long") (codes "a line has at most 1000 bytes") []

-- the diagnostic of a text with too many lines, at the first line past the limit
unfoldable pub many_lines : List Token
many_lines = diagnostic MAX_LINES 0 0 1 (codes "too-many-lines") (codes "a text has at most 16384 lines") []

-- the diagnostic that says how many others are not shown, at a line, and is as grave as they are
unfoldable pub more_diagnostics : (line severity more : ℕ) → List Token
more_diagnostics line severity more =
    diagnostic line 0 0 severity (codes "more") (decimal more ++ codes " more faults and warnings are not shown") []
