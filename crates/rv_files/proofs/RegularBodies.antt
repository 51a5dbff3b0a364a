-- The bodies of lines: a constant that is loaded is the only operand, what is filled begins with its size, and strings stand for what
-- their texts are made of.
use Rattle.std.proofs.Common.{◌≡◌, ℕ, true, false, ◌&&◌, ◌==◌, List, [], ◌∷◌, ◌++◌, length, map, Option, Some, None, Result, Ok, Err, codes, refl}
use Rattle.std.specs.Prelude.{⊤, cond}
use Rattle.rv_text.specs.declared.faults.Fault.{Fault}
use Rattle.rv_text.specs.declared.faults.FaultNumber.{FaultNumber}
use Rattle.rv_text.specs.declared.faults.FaultNumber.TheVariants.{BadOperand, OperandCount, UnknownName, NoStatement}
use Rattle.rv_text.specs.declared.lexeme.Span.{Span}
use Rattle.rv_text.specs.declared.lexeme.Token.{Token}
use Rattle.rv_text.specs.declared.lexeme.TokenKind.{TokenKind}
use Rattle.rv_text.specs.declared.lexeme.TokenKind.TheVariants as kinds
use Rattle.rv_text.specs.Lexing.{SpelledToken, lexed_line, spelled_tokens, text_at, tokens_of}
use Rattle.rv_text.specs.Strings.{string_content}
use Rattle.rv_expr.specs.Depth.{depth_after}
use Rattle.rv_expr.specs.TokenRoles.{token_role}
use Rattle.rv_stmt.specs.declared.directive.DataContent.{DataContent}
use Rattle.rv_stmt.specs.declared.directive.DataContent.TheVariants.{Values, Bytes}
use Rattle.rv_stmt.specs.declared.directives.DirectiveForm.{DirectiveForm}
use Rattle.rv_stmt.specs.declared.directives.DirectiveKind.{DirectiveKind}
use Rattle.rv_stmt.specs.declared.directives.DirectiveKind.TheVariants as kind
use Rattle.rv_stmt.specs.declared.draft.Draft.{Draft}
use Rattle.rv_stmt.specs.declared.expansion.Expansion.{Expansion}
use Rattle.rv_stmt.specs.declared.expansion.Expansion.TheVariants.{Itself, AddressPair, ConstantLoad}
use Rattle.rv_stmt.specs.declared.operand.Operand.{Operand}
use Rattle.rv_stmt.specs.declared.operand.Role.{Role}
use Rattle.rv_stmt.specs.declared.operand.Role.TheVariants as role
use Rattle.rv_stmt.specs.declared.runs.Run.{Run}
use Rattle.rv_stmt.specs.declared.statement.Body.{Body}
use Rattle.rv_stmt.specs.declared.statement.Body.TheVariants.{Empty, Instr, Pseudo, Emit, Fill, Ignored, Faulty}
use Rattle.rv_stmt.specs.declared.statement.Instruction.{Instruction}
use Rattle.rv_stmt.specs.DirectiveBodies as directives
use Rattle.rv_stmt.specs.DirectiveBodies.{next_role, operand_in_role, with_operands, first_operand, section_in, definition_in, body_of_kind, body_or_fault, is_ignored}
use Rattle.rv_stmt.specs.Directives.{directive_named}
use Rattle.rv_stmt.specs.Expansion.{expansion_of}
use Rattle.rv_stmt.specs.Forms.{Form, form_of}
use Rattle.rv_stmt.specs.LabelNames.{Label}
use Rattle.rv_stmt.specs.Labels.{labels_and_body, label_at, with_label}
use Rattle.rv_stmt.specs.OperandCounts.{takes}
use Rattle.rv_stmt.specs.Operands.{operand_of_run}
use Rattle.rv_stmt.specs.Readings.{and_then, or_fault}
use Rattle.rv_stmt.specs.Runs.{no_tokens, with_first, runs_from, runs_of}
use Rattle.rv_stmt.specs.Slots.{slots_read}
use Rattle.rv_stmt.specs.Statement.{body_of_expansion, body_of_draft, body_of_form, body_of_mnemonic, body_of_directive, is_directive_name, unless_lexical, body_from, body_of, statement_of}
use Rattle.rv_stmt.specs.Strings.{text_of_string, one_string, string_in, with_strings}
use Rattle.rv_stmt.specs.Tokens.{is_punctuation}
use Rattle.rv_stmt.specs.Values.{plain}
use Rattle.rv_files.proofs.LoadForms.{IsAloneForm, slots_alone, form_alone}
use Rattle.rv_files.proofs.LoadOperands.{LoadsAlone}
use Rattle.rv_files.proofs.Outcomes.{Holds, then_holds, next_holds, run_holds}

abbrev pub BeginsWithSize : List Operand → Type 0
BeginsWithSize [] = ⊤
BeginsWithSize (o ∷ os) = o.role ≡ role.Size

abbrev RegularContent : (List ℕ → Type 0) → DataContent → Type 0
RegularContent B (Values os) = ⊤
RegularContent B (Bytes bs) = B bs

-- the operands are as said, and B holds of the bytes of strings
abbrev pub IsRegular : (List ℕ → Type 0) → Body → Type 0
IsRegular B (Instr i) = LoadsAlone i.operands
IsRegular B (Pseudo i) = LoadsAlone i.operands
IsRegular B (Emit d) = RegularContent B d.content
IsRegular B (Fill d) = BeginsWithSize d.operands
IsRegular B body = ⊤

-- B holds of the bytes of a string if it holds of its text, and of bytes one after another
pub record IsSpelled (B : List ℕ → Type 0) : Type 0 where
  pub none : B []
  pub end : B (0 ∷ [])
  pub both : (xs ys : List ℕ) → B xs → B ys → B (xs ++ ys)
  pub content : (text : List ℕ) → B text → B (string_content text)

-- Operands of directives

size_kept : (r : Role) (rs : List Run) (o : Operand) (os : List Operand) → o.role ≡ role.Size → Holds BeginsWithSize (with_operands r rs (o ∷ os))
size_kept r [] o os h = h
size_kept r (x ∷ rs) o os h =
    then_holds BeginsWithSize (operand_in_role r x) _ (λ p. size_kept (next_role r) rs o (os ++ (p ∷ [])) h)

size_first : (rs : List Run) → Holds BeginsWithSize (with_operands role.Size rs [])
size_first [] = tt
size_first (r ∷ rs) =
    let IsSize : Operand → Type 0 = λ o. o.role ≡ role.Size in
    next_holds IsSize BeginsWithSize (operand_in_role role.Size r) _
    (then_holds IsSize (operand_of_run r (plain r.tokens)) _ (λ v. refl))
    (λ o h. size_kept (next_role role.Size) rs o [] h)

-- Bodies of instructions

expansion_regular : (B : List ℕ → Type 0) (e : Expansion) (form : Form) (i : Instruction) → LoadsAlone i.operands → IsRegular B (body_of_expansion e form i)
expansion_regular B Itself form i h = elim form.own as (λ own. IsRegular B (cond own (Instr i) (Pseudo i))) [ true ↦ h | false ↦ h ]
expansion_regular B AddressPair form i h = h
expansion_regular B ConstantLoad form i h = h

draft_regular : (B : List ℕ → Type 0) (form : Form) (name : Span) (d : Result Draft Fault) → Holds (λ (e : Draft). LoadsAlone e.operands) d → IsRegular B (body_of_draft form name d)
draft_regular B form name (Err fault) h = tt
draft_regular B form name (Ok d) h =
    expansion_regular B (expansion_of d.operands) form (record { name = name; op = form.op; fields = d.fields; operands = d.operands }) h

form_regular : (B : List ℕ → Type 0) (name : Span) (runs : List Run) (form : Result Form FaultNumber) → Holds IsAloneForm form → IsRegular B (body_of_form name runs form)
form_regular B name runs (Err number) h = tt
form_regular B name runs (Ok form) h =
    draft_regular B form name (slots_read form.op form.slots runs (record { fields = form.fields; operands = [] }))
    (slots_alone form.op form.slots runs form.fields h)

mnemonic_regular : (B : List ℕ → Type 0) (p : SpelledToken) (runs : List Run) → IsRegular B (body_of_mnemonic p runs)
mnemonic_regular B p runs = form_regular B p.span runs (form_of p.text (length runs)) (form_alone p.text (length runs))

module _ (B : List ℕ → Type 0) (spells : IsSpelled B) where
  abbrev Regular : Body → Type 0
  Regular = IsRegular B

  -- B holds of the texts of tokens
  abbrev Each : List SpelledToken → Type 0
  Each [] = ⊤
  Each (p ∷ ps) = B p.text × Each ps

  abbrev EachRun : List Run → Type 0
  EachRun [] = ⊤
  EachRun (r ∷ rs) = Each r.tokens × EachRun rs

  -- Strings

  abbrev HoldsSome : Option (List ℕ) → Type 0
  HoldsSome None = ⊤
  HoldsSome (Some text) = B text

  string_text : (k : TokenKind) (text : List ℕ) → B text → HoldsSome (text_of_string k text)
  string_text kinds.Str text h = h
  string_text k text h = tt

  string_one : (ps : List SpelledToken) → Each ps → HoldsSome (one_string ps)
  string_one [] h = tt
  string_one (p ∷ ps) h =
      elim (length (p ∷ ps) == 1)
      as (λ b. HoldsSome (cond b (text_of_string p.kind p.text) None))
      [ true ↦ string_text p.kind p.text h.0 | false ↦ tt ]

  string_found : (text : Option (List ℕ)) → HoldsSome text → Holds B (or_fault BadOperand text)
  string_found None h = tt
  string_found (Some text) h = h

  string_run : (r : Run) → Each r.tokens → Holds B (string_in r)
  string_run r h = run_holds B r (or_fault BadOperand (one_string r.tokens)) (string_found (one_string r.tokens) (string_one r.tokens h))

  strings_hold : (end : List ℕ) (rs : List Run) (bytes : List ℕ) → B end → EachRun rs → B bytes → Holds B (with_strings end rs bytes)
  strings_hold end [] bytes e h k = k
  strings_hold end (r ∷ rs) bytes e h k =
      next_holds B B (string_in r) _ (string_run r h.0)
      (λ text t.
      strings_hold end rs ((bytes ++ string_content text) ++ end) e h.1
      (spells.both (bytes ++ string_content text) end (spells.both bytes (string_content text) k (spells.content text t)) e))

  -- Bodies of directives

  kind_regular : (k : DirectiveKind) (name : Span) (rs : List Run) → EachRun rs → Holds Regular (body_of_kind k name rs)
  kind_regular (kind.Data w) name rs h = then_holds Regular (with_operands (role.Data w) rs []) _ (λ os. tt)
  kind_regular kind.Strings name rs h = next_holds B Regular (with_strings [] rs []) _ (strings_hold [] rs [] spells.none h spells.none) (λ bs k. k)
  kind_regular kind.TerminatedStrings name rs h = next_holds B Regular (with_strings (0 ∷ []) rs []) _ (strings_hold (0 ∷ []) rs [] spells.end h spells.none) (λ bs k. k)
  kind_regular kind.Fill name rs h = next_holds BeginsWithSize Regular (with_operands role.Size rs []) _ (size_first rs) (λ os k. k)
  kind_regular (kind.Alignment u) name rs h = then_holds Regular (with_operands (role.Alignment u) rs []) _ (λ os. tt)
  kind_regular (kind.Switch s) name rs h = tt
  kind_regular kind.Section name rs h = then_holds Regular (and_then (first_operand name rs) section_in) _ (λ s. tt)
  kind_regular kind.Definition name rs h = then_holds Regular (definition_in name rs) _ (λ d. tt)
  kind_regular kind.Ignored name rs h = tt

  read_regular : (x : Result Body Fault) → Holds Regular x → Regular (body_or_fault x)
  read_regular (Ok body) h = h
  read_regular (Err fault) h = tt

  directive_regular : (d : DirectiveForm) (name : Span) (rs : List Run) → EachRun rs → Regular (directives.body_of_form d name rs)
  directive_regular d name rs h =
      elim (takes d.count (length rs))
      as (λ b. Regular (cond b (body_or_fault (body_of_kind d.kind name rs)) (Faulty (record { number = OperandCount; span = name }))))
      [ true ↦ read_regular (body_of_kind d.kind name rs) (kind_regular d.kind name rs h) | false ↦ tt ]

  -- Runs

  first_each : (p : SpelledToken) (rs : List Run) → B p.text → EachRun rs → EachRun (with_first p rs)
  first_each p [] t h = tt
  first_each p (r ∷ rs) t h = ((t, h.0), h.1)

  runs_each_from : (end depth : ℕ) (ps : List SpelledToken) → Each ps → EachRun (runs_from end depth ps)
  runs_each_from end depth [] h = (tt, tt)
  runs_each_from end depth (p ∷ ps) h =
      let after = depth_after depth (token_role p) in
      elim (is_punctuation (codes ",") p && depth == 0)
      as (λ ends. EachRun (cond ends (no_tokens end ∷ runs_from p.span.to 0 ps) (with_first p (runs_from p.span.to after ps))))
      [ true ↦ (tt, runs_each_from p.span.to 0 ps h.1) | false ↦ first_each p (runs_from p.span.to after ps) h.0 (runs_each_from p.span.to after ps h.1) ]

  runs_each : (end : ℕ) (ps : List SpelledToken) → Each ps → EachRun (runs_of end ps)
  runs_each end [] h = tt
  runs_each end (p ∷ ps) h = runs_each_from end 0 (p ∷ ps) h

  -- Bodies of lines

  unless_regular : (fault : Option Fault) (body : Body) → Regular body → Regular (unless_lexical fault body)
  unless_regular None body h = h
  unless_regular (Some fault) body h = tt

  directive_name_regular : (fault : Option Fault) (p : SpelledToken) (ps : List SpelledToken) (d : Option DirectiveForm) → Each ps → Regular (body_of_directive fault p ps d)
  directive_name_regular fault p ps None h = unless_regular fault (Faulty (record { number = UnknownName; span = p.span })) tt
  directive_name_regular fault p ps (Some d) h =
      let runs = runs_of p.span.to ps in
      elim (is_ignored d.kind)
      as (λ b. Regular (cond b Ignored (unless_lexical fault (directives.body_of_form d p.span runs))))
      [ true ↦ tt | false ↦ unless_regular fault (directives.body_of_form d p.span runs) (directive_regular d p.span runs (runs_each p.span.to ps h)) ]

  from_regular : (fault : Option Fault) (k : TokenKind) (p : SpelledToken) (ps : List SpelledToken) → Each ps → Regular (body_from fault k p ps)
  from_regular fault kinds.Identifier p ps h =
      let runs = runs_of p.span.to ps in
      elim (is_directive_name p.text)
      as (λ b. Regular (cond b (body_of_directive fault p ps (directive_named p.text)) (unless_lexical fault (body_of_mnemonic p runs))))
      [ true ↦ directive_name_regular fault p ps (directive_named p.text) h | false ↦ unless_regular fault (body_of_mnemonic p runs) (mnemonic_regular B p runs) ]
  from_regular fault k p ps h = unless_regular fault (Faulty (record { number = NoStatement; span = p.span })) tt

  tokens_regular : (fault : Option Fault) (ps : List SpelledToken) → Each ps → Regular (body_of fault ps)
  tokens_regular fault [] h = unless_regular fault Empty tt
  tokens_regular fault (p ∷ ps) h = from_regular fault p.kind p ps h.1

  label_each : (label : Option Label) (ps qs : List SpelledToken) → Each ps → Each (labels_and_body qs).body → Each (with_label label ps (labels_and_body qs)).body
  label_each None ps qs h k = h
  label_each (Some label) ps qs h k = k

  labels_each : (ps : List SpelledToken) → Each ps → Each (labels_and_body ps).body
  labels_each [] h = h
  labels_each (p ∷ []) h = h
  labels_each (p ∷ q ∷ ps) h = label_each (label_at (p ∷ q ∷ ps) 0) (p ∷ q ∷ ps) ps h (labels_each ps h.1.1)

  tokens_each : (line : List ℕ) (ts : List Token) → ((span : Span) → B (text_at line span)) → Each (map (λ t. record { kind = t.kind; text = text_at line t.span; span = t.span }) ts)
  tokens_each line [] h = tt
  tokens_each line (t ∷ ts) h = (h t.span, tokens_each line ts h)

  -- the body of a line, of whose parts B holds
  pub body_regular : (line : List ℕ) → ((span : Span) → B (text_at line span)) → Regular (statement_of line).body
  body_regular line h =
      tokens_regular (lexed_line line).fault (labels_and_body (spelled_tokens (lexed_line line))).body
      (labels_each (spelled_tokens (lexed_line line)) (tokens_each line (tokens_of line).tokens h))
