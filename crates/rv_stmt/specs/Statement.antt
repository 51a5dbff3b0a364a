-- The statement of a line. (docs/LANGUAGE.md, Statements)
use Rattle.std.specs.Prelude.{ℕ, Bool, false, ◌==◌, List, [], ◌∷◌, length, Option, Some, None, Result, Ok, Err, if◌then◌else◌}
use Rattle.rv_text.specs.declared.faults.Fault.{Fault}
use Rattle.rv_text.specs.declared.faults.FaultNumber.{FaultNumber}
use Rattle.rv_text.specs.declared.faults.FaultNumber.TheVariants.{NoStatement, UnknownName}
use Rattle.rv_text.specs.declared.lexeme.Span.{Span}
use Rattle.rv_text.specs.declared.lexeme.TokenKind.{TokenKind}
use Rattle.rv_text.specs.declared.lexeme.TokenKind.TheVariants as kinds
use Rattle.rv_text.specs.Lexing.{LexedLine, SpelledToken, lexed_line, spelled_tokens}
use Rattle.rv_stmt.specs.declared.directive.DataContent.{DataContent}
use Rattle.rv_stmt.specs.declared.directive.DataContent.TheVariants.{Values, Bytes}
use Rattle.rv_stmt.specs.declared.directives.DirectiveForm.{DirectiveForm}
use Rattle.rv_stmt.specs.declared.expansion.Expansion.{Expansion}
use Rattle.rv_stmt.specs.declared.expansion.Expansion.TheVariants.{Itself}
use Rattle.rv_stmt.specs.declared.operand.Operand.{Operand}
use Rattle.rv_stmt.specs.declared.draft.Draft.{Draft}
use Rattle.rv_stmt.specs.Data.{data_size}
use Rattle.rv_stmt.specs.DirectiveBodies as directives
use Rattle.rv_stmt.specs.DirectiveBodies.{is_ignored}
use Rattle.rv_stmt.specs.Directives.{directive_named}
use Rattle.rv_stmt.specs.Expansion.{expansion_of}
use Rattle.rv_stmt.specs.Forms.{Form, form_of}
use Rattle.rv_stmt.specs.Slots.{slots_read}
use Rattle.rv_stmt.specs.declared.runs.Run.{Run}
use Rattle.rv_stmt.specs.declared.statement.Body.{Body}
use Rattle.rv_stmt.specs.declared.statement.Body.TheVariants.{Empty, Instr, Pseudo, Emit, Fill, Align, Equ, Ignored, Faulty}
use Rattle.rv_stmt.specs.declared.statement.Instruction.{Instruction}
use Rattle.rv_stmt.specs.declared.statement.Stmt.{Stmt}
use Rattle.rv_stmt.specs.Labels.{labels_and_body}
use Rattle.rv_stmt.specs.Runs.{runs_of}

-- an operation written in its own way is an instruction, if the line expands to that operation itself
abbrev pub body_of_expansion : Expansion → Form → Instruction → Body
body_of_expansion Itself form i = if form.own then Instr i else Pseudo i
body_of_expansion expansion form i = Pseudo i

abbrev pub body_of_instruction : Form → Instruction → Body
body_of_instruction form i = body_of_expansion (expansion_of i.operands) form i

-- the body of a form whose operands are read
abbrev pub body_of_draft : Form → Span → Result Draft Fault → Body
body_of_draft form name (Err fault) = Faulty fault
body_of_draft form name (Ok d) =
    body_of_instruction form (record { name = name; op = form.op; fields = d.fields; operands = d.operands })

-- the body of a mnemonic whose form is found, or is not
abbrev pub body_of_form : Span → List Run → Result Form FaultNumber → Body
body_of_form name runs (Err number) = Faulty (record { number = number; span = name })
body_of_form name runs (Ok form) =
    body_of_draft form name (slots_read form.op form.slots runs (record { fields = form.fields; operands = [] }))

-- the body of an instruction's mnemonic and its runs
abbrev pub body_of_mnemonic : SpelledToken → List Run → Body
body_of_mnemonic p runs = body_of_form p.span runs (form_of p.text (length runs))

-- the lexical fault that ends the tokens, where there is one and it counts, or else a body
abbrev pub unless_lexical : Option Fault → Body → Body
unless_lexical (Some fault) body = Faulty fault
unless_lexical None body = body

-- the body of a directive's name and what follows it: the rest of an ignored directive is not read, so its lexical faults
-- do not count
abbrev pub body_of_directive : Option Fault → SpelledToken → List SpelledToken → Option DirectiveForm → Body
body_of_directive fault p ps None = unless_lexical fault (Faulty (record { number = UnknownName; span = p.span }))
body_of_directive fault p ps (Some d) =
    if is_ignored d.kind then Ignored
    else unless_lexical fault (directives.body_of_form d p.span (runs_of p.span.to ps))

-- a name that begins with `.` is that of a directive
abbrev pub is_directive_name : List ℕ → Bool
is_directive_name [] = false
is_directive_name (b ∷ bs) = b == 0x2E

-- the body of a name and what follows it
abbrev pub body_of_name : Option Fault → SpelledToken → List SpelledToken → Body
body_of_name fault p ps =
    if is_directive_name p.text then body_of_directive fault p ps (directive_named p.text)
    else unless_lexical fault (body_of_mnemonic p (runs_of p.span.to ps))

-- a body begins with an identifier
abbrev pub body_from : Option Fault → TokenKind → SpelledToken → List SpelledToken → Body
body_from fault kinds.Identifier p ps = body_of_name fault p ps
body_from fault kind p ps = unless_lexical fault (Faulty (record { number = NoStatement; span = p.span }))

-- the body that some tokens are, which a lexical fault may end
abbrev pub body_of : Option Fault → List SpelledToken → Body
body_of fault [] = unless_lexical fault Empty
body_of fault (p ∷ ps) = body_from fault p.kind p ps

-- labels before a fault count
abbrev pub statement_of_lexed : LexedLine → Stmt
statement_of_lexed l =
    record { labels = (labels_and_body (spelled_tokens l)).labels; body = body_of l.fault (labels_and_body (spelled_tokens l)).body }

-- the statement of a line
abbrev pub statement_of : List ℕ → Stmt
statement_of line = statement_of_lexed (lexed_line line)

-- the operands of data
abbrev pub operands_of_content : DataContent → List Operand
operands_of_content (Values os) = os
operands_of_content (Bytes bs) = []

-- the operands whose values expressions give
abbrev pub operands_of : Body → List Operand
operands_of (Instr i) = i.operands
operands_of (Pseudo i) = i.operands
operands_of (Emit d) = operands_of_content d.content
operands_of (Fill d) = d.operands
operands_of (Align d) = d.operands
operands_of (Equ d) = d.operands
operands_of body = []

-- the name of what gives bytes
abbrev pub name_of : Body → Option Span
name_of (Instr i) = Some i.name
name_of (Pseudo i) = Some i.name
name_of (Emit d) = Some d.name
name_of (Fill d) = Some d.name
name_of (Align d) = Some d.name
name_of body = None

-- how many bytes the data of a body have
abbrev pub data_size_of : Body → ℕ
data_size_of (Emit d) = data_size d.content
data_size_of body = 0
