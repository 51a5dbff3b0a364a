-- The names of a line: its labels, the symbol of its `.equ`, and the names in its operands. (docs/EDITORS.md, Names)
use Rattle.std.specs.Prelude.{ℕ, ◌+◌, ◌==◌, ◌&&◌, ◌||◌, nat_le, not, Bool, true, false, List, [], ◌∷◌, ◌++◌, take, codes, Option, Some, None, slice_get, if◌then◌else◌}
use Rattle.std.specs.List.{list_any}
use Rattle.std.specs.Option.{is_some}
use Rattle.std.specs.Str.{str_eq_ignore_ascii_case}
use Rattle.rv_text.specs.declared.lexeme.Span.{Span}
use Rattle.rv_text.specs.declared.lexeme.Token.{Token}
use Rattle.rv_text.specs.Lexing.{lexed_line}
use Rattle.rv_ops.specs.Csrs.{csr_named}
use Rattle.rv_ops.specs.Registers.{register_named}
use Rattle.rv_stmt.specs.declared.directives.DirectiveForm.{DirectiveForm}
use Rattle.rv_stmt.specs.declared.directives.DirectiveKind.{DirectiveKind}
use Rattle.rv_stmt.specs.declared.directives.DirectiveKind.TheVariants as directive
use Rattle.rv_stmt.specs.declared.slots.Slot.{Slot}
use Rattle.rv_stmt.specs.declared.slots.Slot.TheVariants as slot
use Rattle.rv_stmt.specs.declared.statement.Body.{Body}
use Rattle.rv_stmt.specs.declared.statement.Body.TheVariants as body
use Rattle.rv_stmt.specs.Directives.{directive_named}
use Rattle.rv_stmt.specs.Forms.{Form, forms_of}
use Rattle.rv_stmt.specs.LabelNames.{Label}
use Rattle.rv_stmt.specs.Statement.{operands_of}
use Rattle.rv_list.specs.Shown.{ShownLine}
use Rattle.rv_show.specs.Parts.{part}
use Rattle.rv_language.specs.declared.names.NameSpan.{NameSpan}
use Rattle.rv_language.specs.declared.names.Standing.TheVariants as standing
use Rattle.rv_language.specs.NameUses.{Before, at_beginning, is_name, with_token}

-- Words that are no symbols

abbrev pub is_set_slot : Slot → Bool
is_set_slot slot.Predecessors = true
is_set_slot slot.Successors = true
is_set_slot s = false

abbrev pub is_csr_slot : Slot → Bool
is_csr_slot slot.Csr = true
is_csr_slot s = false

abbrev pub slot_is : (Slot → Bool) → Option Slot → Bool
slot_is wanted None = false
slot_is wanted (Some s) = wanted s

-- one of some ways to write an instruction has such a slot for an operand, by its number
abbrev pub have_slot : (Slot → Bool) → (operand : ℕ) → List Form → Bool
have_slot wanted operand forms = list_any (λ form. slot_is wanted (slice_get form.slots operand)) forms

-- one of the ways of an instruction has
abbrev pub instruction_takes : (Slot → Bool) → (statement : List ℕ) → (operand : ℕ) → Bool
instruction_takes wanted statement operand = have_slot wanted operand (forms_of statement)

-- the same of a statement, which is a directive where it has the name of one
abbrev pub takes : (Slot → Bool) → Option DirectiveForm → (statement : List ℕ) → (operand : ℕ) → Bool
takes wanted None statement operand = instruction_takes wanted statement operand
takes wanted (Some form) statement operand = false

abbrev pub is_section : DirectiveKind → Bool
is_section directive.Section = true
is_section kind = false

-- the first operand of `.section` is the name of one
abbrev pub takes_section : Option DirectiveForm → (operand : ℕ) → Bool
takes_section None operand = false
takes_section (Some form) operand = is_section form.kind && operand == 0

-- A word in an operand of a wrong statement is no symbol: it is spelled like a register, or like a control and status register where one is
-- taken, or it stands where a set or the name of a section is taken.
abbrev pub is_other_name : (statement : List ℕ) → (operand : ℕ) → (word : List ℕ) → Bool
is_other_name statement operand word =
    is_some (register_named word)
    || (takes is_set_slot (directive_named statement) statement operand
    || (takes_section (directive_named statement) operand
    || (takes is_csr_slot (directive_named statement) statement operand && is_some (csr_named word))))

-- A directive without effect is not read, but some of these directives name symbols: each operand of those that say who sees a symbol, and of
-- `.size`, and the first one of `.type`.
abbrev pub names_symbols : (directive : List ℕ) → (operand : ℕ) → Bool
names_symbols directive operand =
    str_eq_ignore_ascii_case (codes ".globl") directive
    || (str_eq_ignore_ascii_case (codes ".global") directive
    || (str_eq_ignore_ascii_case (codes ".weak") directive
    || (str_eq_ignore_ascii_case (codes ".size") directive
    || (str_eq_ignore_ascii_case (codes ".type") directive && operand == 0))))

-- an operand covers a place
abbrev pub is_covered : Body → Span → Bool
is_covered body span = list_any (λ o. nat_le o.span.from span.from && nat_le span.to o.span.to) (operands_of body)

-- A word in an operand may be the name of a symbol or of a local label. In a wrong statement it is one unless it is known to be another name.
abbrev pub may_be_symbol : Body → Before → (word : List ℕ) → Span → Bool
may_be_symbol (body.Faulty fault) before word span = not (is_other_name before.statement before.operand word)
may_be_symbol body.Ignored before word span = names_symbols before.statement before.operand
may_be_symbol body before word span = is_covered body span

-- The names

-- a token uses a name
abbrev pub is_use : Body → Before → Token → (word : List ℕ) → Bool
is_use body before token word = is_name before.expected token.kind word && may_be_symbol body before word token.span

abbrev pub used_by : Bool → Span → List NameSpan
used_by is span = if is then record { span = span; standing = standing.Use } ∷ [] else []

-- those of some tokens, before which this stands
abbrev pub names_used : Body → (text : List ℕ) → Before → List Token → List NameSpan
names_used body text before [] = []
names_used body text before (token ∷ tokens) =
    used_by (is_use body before token (part text token.span)) token.span
    ++ names_used body text (with_token before token.kind (part text token.span)) tokens

-- labels, of which the first one has this number
abbrev pub label_names : (index : ℕ) → List Label → List NameSpan
label_names index [] = []
label_names index (label ∷ labels) = record { span = label.span; standing = standing.Label index } ∷ label_names (index + 1) labels

-- the symbol of an `.equ`
abbrev pub equ_name : Body → List NameSpan
equ_name (body.Equ definition) = record { span = definition.span; standing = standing.Equ } ∷ []
equ_name body = []

-- those that a line defines, also where others define them before
unfoldable pub names_defined : ShownLine → List NameSpan
names_defined line = label_names 0 line.stmt.labels ++ equ_name line.stmt.body

-- all of them; what stands past the limit of a line counts no more
unfoldable pub names_of : ShownLine → List NameSpan
names_of line =
    names_defined line ++ names_used line.stmt.body (take 1000 line.text) at_beginning (lexed_line (take 1000 line.text)).tokens
