-- The data of a line are at most four bytes for each of its own.
use Rattle.std.proofs.Common.{◌≡◌, ◌≤◌, ℕ, zero, suc, ◌+◌, ◌-◌, ◌*◌, Bool, true, false, cond, ◌&&◌, ◌==◌, List, [], ◌∷◌, ◌++◌, length, drop, Option, Some, None, Result, Ok, Err, codes, slice_index, length-append, length-drop, refl, arith}
use Rattle.std.specs.Prelude.{⊤}
use Rattle.rv_text.specs.declared.faults.Fault.{Fault}
use Rattle.rv_text.specs.declared.faults.FaultNumber.{FaultNumber}
use Rattle.rv_text.specs.declared.faults.FaultNumber.TheVariants.{BadOperand, TooDeep, OperandCount, UnknownName}
use Rattle.rv_text.specs.declared.lexeme.Span.{Span}
use Rattle.rv_text.specs.declared.lexeme.TokenKind.{TokenKind}
use Rattle.rv_text.specs.declared.lexeme.TokenKind.TheVariants as kinds
use Rattle.rv_text.specs.declared.strings.Spelling.{Spelling}
use Rattle.rv_text.specs.Lexing.{SpelledToken, bytes_of_tokens, lexed_line, spelled_tokens}
use Rattle.rv_text.specs.Strings.{spelled, with_spelling, spelled_bytes, string_content}
use Rattle.rv_text.specs.TokenLaws.{few_spelled_tokens}
use Rattle.rv_expr.specs.Depth.{depth_after}
use Rattle.rv_expr.specs.TokenRoles.{token_role}
use Rattle.rv_stmt.specs.declared.directive.DataContent.TheVariants.{Values, Bytes}
use Rattle.rv_stmt.specs.declared.directives.DirectiveForm.{DirectiveForm}
use Rattle.rv_stmt.specs.declared.directives.DirectiveKind.{DirectiveKind}
use Rattle.rv_stmt.specs.declared.directives.DirectiveKind.TheVariants as kind
use Rattle.rv_stmt.specs.declared.expansion.Expansion.{Expansion}
use Rattle.rv_stmt.specs.declared.expansion.Expansion.TheVariants.{Itself, AddressPair, ConstantLoad}
use Rattle.rv_stmt.specs.declared.operand.DataWidth.TheVariants.{Byte, Half, Word}
use Rattle.rv_stmt.specs.declared.operand.Operand.{Operand}
use Rattle.rv_stmt.specs.declared.operand.Role.{Role}
use Rattle.rv_stmt.specs.declared.operand.Role.TheVariants as role
use Rattle.rv_stmt.specs.declared.runs.Run.{Run}
use Rattle.rv_stmt.specs.declared.statement.Body.{Body}
use Rattle.rv_stmt.specs.declared.statement.Body.TheVariants.{Empty, Instr, Pseudo, Emit, Ignored, Faulty}
use Rattle.rv_stmt.specs.declared.statement.Instruction.{Instruction}
use Rattle.rv_stmt.specs.declared.draft.Draft.{Draft}
use Rattle.rv_stmt.specs.Data.{data_width, values_size}
use Rattle.rv_stmt.specs.DirectiveBodies as directives
use Rattle.rv_stmt.specs.DirectiveBodies.{with_operands, first_operand, section_in, definition_in, body_of_kind, body_or_fault, is_ignored}
use Rattle.rv_stmt.specs.Directives.{directive_named}
use Rattle.rv_stmt.specs.Expansion.{expansion_of}
use Rattle.rv_stmt.specs.Forms.{Form, form_of}
use Rattle.rv_stmt.specs.LabelNames.{Label}
use Rattle.rv_stmt.specs.Labels.{labels_and_body, label_at, with_label}
use Rattle.rv_stmt.specs.OperandCounts.{takes}
use Rattle.rv_stmt.specs.Operands.{reported_at}
use Rattle.rv_stmt.specs.Readings.{and_then, or_fault}
use Rattle.rv_stmt.specs.Runs.{no_tokens, with_first, runs_from, runs_of}
use Rattle.rv_stmt.specs.Slots.{slots_read}
use Rattle.rv_stmt.specs.Statement.{body_of_expansion, body_of_draft, body_of_form, body_of_mnemonic, body_of_directive, is_directive_name, unless_lexical, body_from, body_of, statement_of, data_size_of}
use Rattle.rv_stmt.specs.Strings.{text_of_string, one_string, string_in, with_strings}
use Rattle.rv_stmt.specs.Tokens.{is_punctuation}
use Rattle.rv_stmt.specs.Values.{is_deep}
use Rattle.rv_stmt.proofs.OperandCounts.{AddsTo, operands_add, few_runs, few_in_body}

-- values take at most four bytes each

narrow : (r : Role) → data_width r ≤ 4
narrow (role.Data Byte) = omega arith
narrow (role.Data Half) = omega arith
narrow (role.Data Word) = omega arith
narrow role.Immediate = omega arith
narrow role.SourceImmediate = omega arith
narrow role.Target = omega arith
narrow role.PairTarget = omega arith
narrow role.Constant = omega arith
narrow role.Size = omega arith
narrow role.FillByte = omega arith
narrow (role.Alignment u) = omega arith
narrow role.Definition = omega arith

few_values : (os : List Operand) → values_size os ≤ 4 * length os
few_values [] = omega arith
few_values (o ∷ os) = let one = narrow o.role in let rest = few_values os in omega (arith, one, rest)

-- a string stands for no more bytes than it has

few_spelled : (quote taken : ℕ) (bs : List ℕ) → length (spelled_bytes quote taken bs) ≤ length bs
few_spelled quote taken [] = omega arith
few_spelled quote (suc taken) (b ∷ bs) = let h = few_spelled quote taken bs in omega (arith, h)
few_spelled quote zero (b ∷ bs) =
    elim (b == quote)
    as (λ ends. length (cond ends [] (with_spelling (spelled (b ∷ bs)) (λ taken. spelled_bytes quote taken bs))) ≤ length (b ∷ bs))
    [ true ↦ omega arith | false ↦ spelled_few (spelled (b ∷ bs)) (λ taken. spelled_bytes quote taken bs) (length bs) (λ taken. few_spelled quote taken bs) ]
  where
    spelled_few : (s : Option Spelling) (rest : ℕ → List ℕ) (n : ℕ) → ((k : ℕ) → length (rest k) ≤ n) → length (with_spelling s rest) ≤ suc n
    spelled_few None rest n h = omega arith
    spelled_few (Some s) rest n h = let few = h (s.len - 1) in omega (arith, few)

few_content : (text : List ℕ) → length (string_content text) ≤ length text
few_content text =
    let few = few_spelled (slice_index text 0) 0 (drop 1 text) in
    let one = length-drop 1 text in
    omega (arith, few, one)

-- a text of at most so many bytes, where there is one

abbrev Short : ℕ → Option (List ℕ) → Type 0
Short n None = ⊤
Short n (Some text) = length text ≤ n

abbrev ShortResult : {E : Type 0} → ℕ → Result (List ℕ) E → Type 0
ShortResult n (Err fault) = ⊤
ShortResult n (Ok text) = length text ≤ n

text_short : (kind : TokenKind) (text : List ℕ) (n : ℕ) → length text ≤ n → Short n (text_of_string kind text)
text_short kinds.Str text n h = h
text_short kinds.Identifier text n h = tt
text_short kinds.Number text n h = tt
text_short kinds.Local text n h = tt
text_short kinds.Char text n h = tt
text_short kinds.Punctuation text n h = tt

one_short : (ps : List SpelledToken) → Short (bytes_of_tokens ps) (one_string ps)
one_short [] = tt
one_short (p ∷ ps) =
    elim (length (p ∷ ps) == 1)
    as (λ b. Short (bytes_of_tokens (p ∷ ps)) (cond b (text_of_string p.kind p.text) None))
    [ true ↦ text_short p.kind p.text (bytes_of_tokens (p ∷ ps)) (omega arith) | false ↦ tt ]

in_short : (n : ℕ) (span : Span) (b : Bool) (text : Option (List ℕ)) → Short n text → ShortResult n (reported_at span (cond b (Err TooDeep) (or_fault BadOperand text)))
in_short n span true text h = tt
in_short n span false None h = tt
in_short n span false (Some text) h = h

string_short : (r : Run) → ShortResult (bytes_of_tokens r.tokens) (string_in r)
string_short r = in_short (bytes_of_tokens r.tokens) r.span (is_deep r.tokens) (one_string r.tokens) (one_short r.tokens)

-- the bytes of the tokens of runs

abbrev bytes_of_runs : List Run → ℕ
bytes_of_runs [] = 0
bytes_of_runs (r ∷ rs) = bytes_of_tokens r.tokens + bytes_of_runs rs

first_bytes : (p : SpelledToken) (rs : List Run) → bytes_of_runs (with_first p rs) ≤ length p.text + bytes_of_runs rs
first_bytes p [] = omega arith
first_bytes p (r ∷ rs) = omega arith

runs_bytes_from : (end depth : ℕ) (ps : List SpelledToken) → bytes_of_runs (runs_from end depth ps) ≤ bytes_of_tokens ps
runs_bytes_from end depth [] = omega arith
runs_bytes_from end depth (p ∷ ps) =
    let after = depth_after depth (token_role p) in
    let rest = runs_from p.span.to after ps in
    let cut = runs_bytes_from p.span.to 0 ps in
    let joined = runs_bytes_from p.span.to after ps in
    let first = first_bytes p rest in
    elim (is_punctuation (codes ",") p && depth == 0)
    as (λ ends. bytes_of_runs (cond ends (no_tokens end ∷ runs_from p.span.to 0 ps) (with_first p rest)) ≤ bytes_of_tokens (p ∷ ps))
    [ true ↦ omega (arith, cut) | false ↦ omega (arith, joined, first) ]

runs_bytes : (end : ℕ) (ps : List SpelledToken) → bytes_of_runs (runs_of end ps) ≤ bytes_of_tokens ps
runs_bytes end [] = omega arith
runs_bytes end (p ∷ ps) = runs_bytes_from end 0 (p ∷ ps)

wider_than : {E : Type 0} (n m : ℕ) (x : Result (List ℕ) E) → n ≤ m → ShortResult n x → ShortResult m x
wider_than n m (Err fault) h short = tt
wider_than n m (Ok text) h short = omega (arith, h, short)

-- strings have the bytes of their runs, and one for each

strings_short : (end : List ℕ) → length end ≤ 1 → (rs : List Run) (bytes : List ℕ) → ShortResult (length bytes + (bytes_of_runs rs + length rs)) (with_strings end rs bytes)
strings_short end one [] bytes = omega arith
strings_short end one (r ∷ rs) bytes = next (string_in r) (string_short r) (λ all. strings_short end one rs all)
  where
    next : (x : Result (List ℕ) Fault) → ShortResult (bytes_of_tokens r.tokens) x → ((all : List ℕ) → ShortResult (length all + (bytes_of_runs rs + length rs)) (with_strings end rs all)) → ShortResult (length bytes + (bytes_of_runs (r ∷ rs) + length (r ∷ rs))) (and_then x (λ text. with_strings end rs ((bytes ++ string_content text) ++ end)))
    next (Err fault) h more = tt
    next (Ok text) h more =
        let all = (bytes ++ string_content text) ++ end in
        let outer = length-append (bytes ++ string_content text) end in
        let inner = length-append bytes (string_content text) in
        let few = few_content text in
        wider_than _ _ (with_strings end rs all) (omega (arith, one, h, outer, inner, few)) (more all)

-- what a directive makes of its operands, where nothing is wrong, has at most so many bytes of data

abbrev HasData : ℕ → Result Body Fault → Type 0
HasData n (Err fault) = ⊤
HasData n (Ok body) = data_size_of body ≤ n

data_of_values : (n m : ℕ) (x : Result (List Operand) Fault) (name : Span) → AddsTo m [] x → 4 * m ≤ n → HasData n (and_then x (λ os. Ok (Emit (record { name = name; content = Values os }))))
data_of_values n m (Err fault) name h few = tt
data_of_values n m (Ok os) name h few = let size = few_values os in omega (arith, h, few, size)

data_of_strings : (n : ℕ) (x : Result (List ℕ) Fault) (name : Span) → ShortResult n x → HasData n (and_then x (λ bs. Ok (Emit (record { name = name; content = Bytes bs }))))
data_of_strings n (Err fault) name h = tt
data_of_strings n (Ok bs) name h = h

no_data : {A : Type 0} (n : ℕ) (x : Result A Fault) (f : A → Body) → ((y : A) → data_size_of (f y) ≡ 0) → HasData n (and_then x (λ y. Ok (f y)))
no_data n (Err fault) f none = tt
no_data n (Ok y) f none = let e = none y in omega (arith, e)

data_of_kind : (n : ℕ) (k : DirectiveKind) (name : Span) (rs : List Run) → 4 * length rs ≤ n → bytes_of_runs rs + length rs ≤ n → HasData n (body_of_kind k name rs)
data_of_kind n (kind.Data w) name rs values strings =
    data_of_values n (length rs) (with_operands (role.Data w) rs []) name (operands_add (role.Data w) rs []) values
data_of_kind n kind.Strings name rs values strings =
    data_of_strings n (with_strings [] rs []) name (wider_than _ n (with_strings [] rs []) (omega (arith, strings)) (strings_short [] (omega arith) rs []))
data_of_kind n kind.TerminatedStrings name rs values strings =
    data_of_strings n (with_strings (0 ∷ []) rs []) name (wider_than _ n (with_strings (0 ∷ []) rs []) (omega (arith, strings)) (strings_short (0 ∷ []) (omega arith) rs []))
data_of_kind n kind.Fill name rs values strings = no_data n (with_operands role.Size rs []) _ (λ os. refl)
data_of_kind n (kind.Alignment u) name rs values strings = no_data n (with_operands (role.Alignment u) rs []) _ (λ os. refl)
data_of_kind n (kind.Switch s) name rs values strings = omega arith
data_of_kind n kind.Section name rs values strings = no_data n (and_then (first_operand name rs) section_in) _ (λ s. refl)
data_of_kind n kind.Definition name rs values strings = no_data n (definition_in name rs) _ (λ d. refl)
data_of_kind n kind.Ignored name rs values strings = omega arith

data_of_directive : (n : ℕ) (d : DirectiveForm) (name : Span) (rs : List Run) → 4 * length rs ≤ n → bytes_of_runs rs + length rs ≤ n → data_size_of (directives.body_of_form d name rs) ≤ n
data_of_directive n d name rs values strings =
    elim (takes d.count (length rs))
    as (λ b. data_size_of (cond b (body_or_fault (body_of_kind d.kind name rs)) (Faulty (record { number = OperandCount; span = name }))) ≤ n)
    [ true ↦ read (body_of_kind d.kind name rs) (data_of_kind n d.kind name rs values strings) | false ↦ omega arith ]
  where
    read : (x : Result Body Fault) → HasData n x → data_size_of (body_or_fault x) ≤ n
    read (Ok body) h = h
    read (Err fault) h = omega arith

-- instructions have none

data_of_expansion : (e : Expansion) (form : Form) (i : Instruction) → data_size_of (body_of_expansion e form i) ≡ 0
data_of_expansion Itself form i = elim form.own as (λ own. data_size_of (cond own (Instr i) (Pseudo i)) ≡ 0) [ true ↦ refl | false ↦ refl ]
data_of_expansion AddressPair form i = refl
data_of_expansion ConstantLoad form i = refl

data_of_draft : (form : Form) (name : Span) (r : Result Draft Fault) → data_size_of (body_of_draft form name r) ≡ 0
data_of_draft form name (Err fault) = refl
data_of_draft form name (Ok d) =
    data_of_expansion (expansion_of d.operands) form (record { name = name; op = form.op; fields = d.fields; operands = d.operands })

data_of_form : (name : Span) (rs : List Run) (form : Result Form FaultNumber) → data_size_of (body_of_form name rs form) ≡ 0
data_of_form name rs (Err number) = refl
data_of_form name rs (Ok form) =
    data_of_draft form name (slots_read form.op form.slots rs (record { fields = form.fields; operands = [] }))

-- all bodies

unless_data : (fault : Option Fault) (body : Body) (n : ℕ) → data_size_of body ≤ n → data_size_of (unless_lexical fault body) ≤ n
unless_data None body n h = h
unless_data (Some fault) body n h = omega arith

data_of_name : (n : ℕ) (fault : Option Fault) (p : SpelledToken) (ps : List SpelledToken) (d : Option DirectiveForm) → 4 * (length ps + 1) ≤ n → bytes_of_tokens ps + (length ps + 1) ≤ n → data_size_of (body_of_directive fault p ps d) ≤ n
data_of_name n fault p ps None values strings = unless_data fault (Faulty (record { number = UnknownName; span = p.span })) n (omega arith)
data_of_name n fault p ps (Some d) values strings =
    let runs = runs_of p.span.to ps in
    let few = few_runs p.span.to ps in
    let bytes = runs_bytes p.span.to ps in
    let h = data_of_directive n d p.span runs (omega (arith, few, values)) (omega (arith, few, bytes, strings)) in
    elim (is_ignored d.kind)
    as (λ b. data_size_of (cond b Ignored (unless_lexical fault (directives.body_of_form d p.span runs))) ≤ n)
    [ true ↦ omega arith | false ↦ unless_data fault (directives.body_of_form d p.span runs) n h ]

data_of_mnemonic : (n : ℕ) (fault : Option Fault) (p : SpelledToken) (ps : List SpelledToken) → data_size_of (unless_lexical fault (body_of_mnemonic p (runs_of p.span.to ps))) ≤ n
data_of_mnemonic n fault p ps =
    let runs = runs_of p.span.to ps in
    let none = data_of_form p.span runs (form_of p.text (length runs)) in
    unless_data fault (body_of_mnemonic p runs) n (omega (arith, none))

data_from : (n : ℕ) (fault : Option Fault) (kind : TokenKind) (p : SpelledToken) (ps : List SpelledToken) → 4 * (length ps + 1) ≤ n → bytes_of_tokens ps + (length ps + 1) ≤ n → data_size_of (body_from fault kind p ps) ≤ n
data_from n fault kinds.Identifier p ps values strings =
    elim (is_directive_name p.text)
    as (λ b. data_size_of (cond b (body_of_directive fault p ps (directive_named p.text)) (unless_lexical fault (body_of_mnemonic p (runs_of p.span.to ps)))) ≤ n)
    [ true ↦ data_of_name n fault p ps (directive_named p.text) values strings | false ↦ data_of_mnemonic n fault p ps ]
data_from n fault kinds.Number p ps values strings = unless_data fault _ n (omega arith)
data_from n fault kinds.Local p ps values strings = unless_data fault _ n (omega arith)
data_from n fault kinds.Str p ps values strings = unless_data fault _ n (omega arith)
data_from n fault kinds.Char p ps values strings = unless_data fault _ n (omega arith)
data_from n fault kinds.Punctuation p ps values strings = unless_data fault _ n (omega arith)

data_of_body : (n : ℕ) (fault : Option Fault) (ps : List SpelledToken) → 4 * length ps ≤ n → bytes_of_tokens ps + length ps ≤ n → data_size_of (body_of fault ps) ≤ n
data_of_body n fault [] values strings = unless_data fault Empty n (omega arith)
data_of_body n fault (p ∷ ps) values strings = data_from n fault p.kind p ps (omega (arith, values)) (omega (arith, strings))

with_label_bytes : (label : Option Label) (ps qs : List SpelledToken) → bytes_of_tokens (labels_and_body qs).body ≤ bytes_of_tokens ps → bytes_of_tokens (with_label label ps (labels_and_body qs)).body ≤ bytes_of_tokens ps
with_label_bytes None ps qs h = omega arith
with_label_bytes (Some label) ps qs h = h

bytes_in_body : (ps : List SpelledToken) → bytes_of_tokens (labels_and_body ps).body ≤ bytes_of_tokens ps
bytes_in_body [] = omega arith
bytes_in_body (p ∷ []) = omega arith
bytes_in_body (p ∷ q ∷ ps) =
    let h = bytes_in_body ps in
    with_label_bytes (label_at (p ∷ q ∷ ps) 0) (p ∷ q ∷ ps) ps (omega (arith, h))

-- where the texts of a line's tokens are no more than the line
pub few_data : (line : List ℕ) → bytes_of_tokens (spelled_tokens (lexed_line line)) ≤ length line → data_size_of (statement_of line).body ≤ 4 * length line
few_data line bytes =
    let ps = spelled_tokens (lexed_line line) in
    let few = few_spelled_tokens line in
    let body = few_in_body ps in
    let texts = bytes_in_body ps in
    data_of_body (4 * length line) (lexed_line line).fault (labels_and_body ps).body (omega (arith, few, body)) (omega (arith, few, body, texts, bytes))
