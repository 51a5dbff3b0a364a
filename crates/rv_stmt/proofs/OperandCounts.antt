-- A line has no more operands than bytes.
use Rattle.std.proofs.Common.{◌≡◌, ◌≤◌, ℕ, suc, ◌+◌, Bool, true, false, cond, ◌&&◌, ◌||◌, ◌==◌, List, [], ◌∷◌, ◌++◌, length, Option, Some, None, is_some, Result, Ok, Err, codes, length-append, refl, ap, arith}
use Rattle.std.specs.Prelude.{⊤}
use Rattle.rv_text.specs.declared.faults.Fault.{Fault}
use Rattle.rv_text.specs.declared.faults.FaultNumber.{FaultNumber}
use Rattle.rv_text.specs.declared.faults.FaultNumber.TheVariants.{TooDeep, OperandCount, UnknownName}
use Rattle.rv_text.specs.declared.lexeme.Span.{Span}
use Rattle.rv_text.specs.declared.lexeme.TokenKind.{TokenKind}
use Rattle.rv_text.specs.declared.lexeme.TokenKind.TheVariants as kinds
use Rattle.rv_text.specs.Lexing.{SpelledToken, lexed_line, spelled_tokens}
use Rattle.rv_text.specs.TokenLaws.{few_spelled_tokens}
use Rattle.rv_expr.specs.Depth.{depth_after}
use Rattle.rv_expr.specs.TokenRoles.{token_role}
use Rattle.rv_ops.specs.Table.{shape_of, classes_of}
use Rattle.rv_ops.specs.declared.op.Op.{Op}
use Rattle.rv_stmt.specs.declared.draft.Draft.{Draft}
use Rattle.rv_stmt.specs.declared.expansion.Expansion.{Expansion}
use Rattle.rv_stmt.specs.declared.expansion.Expansion.TheVariants.{Itself, AddressPair, ConstantLoad}
use Rattle.rv_stmt.specs.declared.operand.Operand.{Operand}
use Rattle.rv_stmt.specs.declared.operand.OperandValue.{OperandValue}
use Rattle.rv_stmt.specs.declared.operand.Role.{Role}
use Rattle.rv_stmt.specs.declared.operand.Role.TheVariants.{Immediate, SourceImmediate, Target, PairTarget, Constant}
use Rattle.rv_stmt.specs.declared.registers.Accepted.TheVariants.{Class, StackPointer}
use Rattle.rv_stmt.specs.declared.runs.Run.{Run}
use Rattle.rv_stmt.specs.declared.slots.Slot.{Slot}
use Rattle.rv_stmt.specs.declared.slots.Slot.TheVariants as slot
use Rattle.rv_stmt.specs.declared.statement.Body.{Body}
use Rattle.rv_stmt.specs.declared.directives.DirectiveForm.{DirectiveForm}
use Rattle.rv_stmt.specs.declared.directives.DirectiveKind.{DirectiveKind}
use Rattle.rv_stmt.specs.declared.directives.DirectiveKind.TheVariants as kind
use Rattle.rv_stmt.specs.declared.operand.Role.TheVariants as role
use Rattle.rv_stmt.specs.declared.statement.Body.TheVariants.{Empty, Instr, Pseudo, Equ, Ignored, Faulty}
use Rattle.rv_stmt.specs.DirectiveBodies as directives
use Rattle.rv_stmt.specs.DirectiveBodies.{next_role, operand_in_role, with_operands, first_operand, section_in, symbol_in, definition_in, body_of_kind, body_or_fault, is_ignored}
use Rattle.rv_stmt.specs.Directives.{directive_named}
use Rattle.rv_stmt.specs.LabelNames.{Label}
use Rattle.rv_stmt.specs.OperandCounts.{takes}
use Rattle.rv_stmt.specs.Strings.{with_strings}
use Rattle.rv_stmt.specs.declared.statement.Instruction.{Instruction}
use Rattle.rv_stmt.specs.Draft.{with_rs1}
use Rattle.rv_stmt.specs.Expansion.{expansion_of}
use Rattle.rv_stmt.specs.Forms.{Form, form_of}
use Rattle.rv_stmt.specs.Labels.{labels_and_body, label_at, with_label}
use Rattle.rv_stmt.specs.Memory.{base_of, bare_base, memory}
use Rattle.rv_stmt.specs.Operands.{reported_at}
use Rattle.rv_stmt.specs.Readings.{Reading, and_then}
use Rattle.rv_stmt.specs.Registers.{register, register_in, csr_in, set}
use Rattle.rv_stmt.specs.Runs.{with_first, runs_from, runs_of}
use Rattle.rv_stmt.specs.Slots.{with_waiting, with_offset, memory_slot, register_or_memory, address_through_rd_slot, csr_or_expression, slot_of, operand_of_slot, slots_read}
use Rattle.rv_stmt.specs.Statement.{body_of_expansion, body_of_draft, body_of_form, body_of_mnemonic, body_of_directive, is_directive_name, unless_lexical, body_from, body_of, statement_of, operands_of}
use Rattle.rv_stmt.specs.Tokens.{is_punctuation, punctuation_at}
use Rattle.rv_stmt.specs.Values.{is_deep, plain, immediate}

-- a reading, if it succeeds, adds at most so many operands
abbrev Adds : {E : Type 0} → ℕ → Draft → Result Draft E → Type 0
Adds n d (Ok e) = length e.operands ≤ length d.operands + n
Adds n d (Err fault) = ⊤

then_adds : {A E : Type 0} (n : ℕ) (d : Draft) (r : Result A E) (f : A → Result Draft E) → ((x : A) → Adds n d (f x)) → Adds n d (and_then r f)
then_adds n d (Err fault) f h = tt
then_adds n d (Ok x) f h = h x

either_adds : {E : Type 0} (n : ℕ) (d : Draft) (b : Bool) (x y : Result Draft E) → Adds n d x → Adds n d y → Adds n d (cond b x y)
either_adds n d true x y h k = h
either_adds n d false x y h k = k

-- each slot adds at most one

one_more : (os : List Operand) (o : Operand) → length (os ++ (o ∷ [])) ≤ length os + 1
one_more os o = let h = length-append os (o ∷ []) in omega (arith, h)

waiting_adds : (role : Role) (span : Span) (d : Draft) (v : Reading OperandValue) → Adds 1 d (with_waiting role span d v)
waiting_adds role span d v = then_adds 1 d v _ (λ x. one_more d.operands (record { value = x; role = role; span = span }))

same_adds : (d : Draft) → length d.operands ≤ length d.operands + 1
same_adds d = omega arith

offset_adds : (span : Span) (d : Draft) (v : Option OperandValue) → Adds 1 d (with_offset span d v)
offset_adds span d None = same_adds d
offset_adds span d (Some v) = waiting_adds Immediate span d (Ok v)

memory_adds : (op : Op) (r : Run) (d : Draft) → Adds 1 d (memory_slot op r d)
memory_adds op r d =
    then_adds 1 d (memory (shape_of op) (Class (classes_of (shape_of op)).rs1) r.tokens) _ (λ l. offset_adds r.span (with_rs1 d l.base) l.offset)

memory_or_register_adds : (op : Op) (r : Run) (d : Draft) (n : Option ℕ) → Adds 1 d (register_or_memory op r d n)
memory_or_register_adds op r d (Some n) = same_adds d
memory_or_register_adds op r d None = memory_adds op r d

through_rd_adds : (r : Run) (d : Draft) → Adds 1 d (address_through_rd_slot r d)
through_rd_adds r d = waiting_adds PairTarget r.span (with_rs1 d d.fields.rd) (plain r.tokens)

csr_adds : (r : Run) (d : Draft) (n : Option ℕ) → Adds 1 d (csr_or_expression r d n)
csr_adds r d (Some n) = same_adds d
csr_adds r d None = waiting_adds Immediate r.span d (plain r.tokens)

slot_adds : (op : Op) (s : Slot) (r : Run) (d : Draft) → Adds 1 d (slot_of op s r d)
slot_adds op slot.Rd r d = then_adds 1 d (register (Class (classes_of (shape_of op)).rd) r.tokens) _ (λ n. same_adds d)
slot_adds op slot.Rs1 r d = then_adds 1 d (register (Class (classes_of (shape_of op)).rs1) r.tokens) _ (λ n. same_adds d)
slot_adds op slot.Rs2 r d = then_adds 1 d (register (Class (classes_of (shape_of op)).rs2) r.tokens) _ (λ n. same_adds d)
slot_adds op slot.StackPointer r d = then_adds 1 d (register StackPointer r.tokens) _ (λ n. same_adds d)
slot_adds op slot.Immediate r d = waiting_adds Immediate r.span d (immediate (shape_of op) r.tokens)
slot_adds op slot.SourceImmediate r d = waiting_adds SourceImmediate r.span d (plain r.tokens)
slot_adds op slot.Target r d = waiting_adds Target r.span d (plain r.tokens)
slot_adds op slot.Memory r d = memory_adds op r d
slot_adds op slot.StackMemory r d = then_adds 1 d (memory (shape_of op) StackPointer r.tokens) _ (λ l. offset_adds r.span d l.offset)
slot_adds op slot.Base r d = then_adds 1 d (bare_base (Class (classes_of (shape_of op)).rs1) r.tokens) _ (λ n. same_adds d)
slot_adds op slot.MemoryOrRegister r d = memory_or_register_adds op r d (register_in r.tokens)
slot_adds op slot.MemoryOrAddress r d =
    either_adds 1 d (punctuation_at (codes "%") r.tokens 0 || is_some (base_of r.tokens)) (memory_slot op r d) (address_through_rd_slot r d) (memory_adds op r d) (through_rd_adds r d)
slot_adds op slot.Address r d = waiting_adds PairTarget r.span d (plain r.tokens)
slot_adds op slot.AddressThroughRd r d = through_rd_adds r d
slot_adds op slot.Csr r d = csr_adds r d (csr_in r.tokens)
slot_adds op slot.Predecessors r d = then_adds 1 d (set r.tokens) _ (λ n. same_adds d)
slot_adds op slot.Successors r d = then_adds 1 d (set r.tokens) _ (λ n. same_adds d)
slot_adds op slot.Constant r d = waiting_adds Constant r.span d (plain r.tokens)

reported_adds : (n : ℕ) (span : Span) (d : Draft) (x : Reading Draft) → Adds n d x → Adds n d (reported_at span x)
reported_adds n span d (Ok e) h = h
reported_adds n span d (Err number) h = tt

operand_adds : (op : Op) (s : Slot) (r : Run) (d : Draft) → Adds 1 d (operand_of_slot op s r d)
operand_adds op s r d =
    reported_adds 1 r.span d (cond (is_deep r.tokens) (Err TooDeep) (slot_of op s r d))
    (either_adds 1 d (is_deep r.tokens) (Err TooDeep) (slot_of op s r d) tt (slot_adds op s r d))

-- all runs together

next_adds : (n : ℕ) (d : Draft) (r : Result Draft Fault) (f : Draft → Result Draft Fault) → Adds 1 d r → ((e : Draft) → Adds n e (f e)) → Adds (suc n) d (and_then r f)
next_adds n d (Err fault) f h k = tt
next_adds n d (Ok e) f h k = joined_adds n d e (f e) h (k e)
  where
    joined_adds : (n : ℕ) (d e : Draft) (x : Result Draft Fault) → length e.operands ≤ length d.operands + 1 → Adds n e x → Adds (suc n) d x
    joined_adds n d e (Err fault) h k = tt
    joined_adds n d e (Ok g) h k = omega (arith, h, k)

slots_add : (op : Op) (ss : List Slot) (rs : List Run) (d : Draft) → Adds (length rs) d (slots_read op ss rs d)
slots_add op [] rs d = omega arith
slots_add op (s ∷ ss) [] d = omega arith
slots_add op (s ∷ ss) (r ∷ rs) d =
    next_adds (length rs) d (operand_of_slot op s r d) _ (operand_adds op s r d) (λ e. slots_add op ss rs e)

-- a body has no more operands than runs

expansion_operands : (e : Expansion) (form : Form) (i : Instruction) → operands_of (body_of_expansion e form i) ≡ i.operands
expansion_operands Itself form i = elim form.own as (λ own. operands_of (cond own (Instr i) (Pseudo i)) ≡ i.operands) [ true ↦ refl | false ↦ refl ]
expansion_operands AddressPair form i = refl
expansion_operands ConstantLoad form i = refl

draft_operands : (form : Form) (name : Span) (n : ℕ) (d : Draft) (r : Result Draft Fault) → Adds n d r → d.operands ≡ [] → length (operands_of (body_of_draft form name r)) ≤ n
draft_operands form name n d (Err fault) h empty = omega arith
draft_operands form name n d (Ok e) h empty =
    let i : Instruction = record { name = name; op = form.op; fields = e.fields; operands = e.operands } in
    let same = ap length (expansion_operands (expansion_of e.operands) form i) in
    let none = ap length empty in
    omega (arith, h, same, none)

form_operands : (name : Span) (runs : List Run) (form : Result Form FaultNumber) → length (operands_of (body_of_form name runs form)) ≤ length runs
form_operands name runs (Err number) = omega arith
form_operands name runs (Ok form) =
    let d : Draft = record { fields = form.fields; operands = [] } in
    draft_operands form name (length runs) d (slots_read form.op form.slots runs d) (slots_add form.op form.slots runs d) refl

-- so for directives

abbrev pub AddsTo : ℕ → List Operand → Result (List Operand) Fault → Type 0
AddsTo n os (Ok xs) = length xs ≤ length os + n
AddsTo n os (Err fault) = ⊤

operand_adds_to : (n : ℕ) (os : List Operand) (x : Result Operand Fault) (f : Operand → Result (List Operand) Fault) → ((o : Operand) → AddsTo n (os ++ (o ∷ [])) (f o)) → AddsTo (suc n) os (and_then x f)
operand_adds_to n os (Err fault) f h = tt
operand_adds_to n os (Ok o) f h = longer n os o (f o) (h o)
  where
    longer : (n : ℕ) (os : List Operand) (o : Operand) (x : Result (List Operand) Fault) → AddsTo n (os ++ (o ∷ [])) x → AddsTo (suc n) os x
    longer n os o (Err fault) h = tt
    longer n os o (Ok xs) h = let one = length-append os (o ∷ []) in omega (arith, h, one)

pub operands_add : (role : Role) (rs : List Run) (os : List Operand) → AddsTo (length rs) os (with_operands role rs os)
operands_add role [] os = omega arith
operands_add role (r ∷ rs) os =
    operand_adds_to (length rs) os (operand_in_role role r) _ (λ o. operands_add (next_role role) rs (os ++ (o ∷ [])))

-- a body, where there is one, has at most so many operands
abbrev Has : ℕ → Result Body Fault → Type 0
Has n (Ok body) = length (operands_of body) ≤ n
Has n (Err fault) = ⊤

has_those : (n : ℕ) (x : Result (List Operand) Fault) (f : List Operand → Body) → AddsTo n [] x → ((os : List Operand) → operands_of (f os) ≡ os) → Has n (and_then x (λ os. Ok (f os)))
has_those n (Err fault) f h same = tt
has_those n (Ok os) f h same = let e = ap length (same os) in omega (arith, h, e)

has_none : {A : Type 0} (n : ℕ) (x : Result A Fault) (f : A → Body) → ((y : A) → operands_of (f y) ≡ []) → Has n (and_then x (λ y. Ok (f y)))
has_none n (Err fault) f none = tt
has_none n (Ok y) f none = let e = ap length (none y) in omega (arith, e)

has_definition : (name : Span) (rs : List Run) → Has (length rs) (and_then (definition_in name rs) (λ d. Ok (Equ d)))
has_definition name [] = tt
has_definition name (r ∷ rs) =
    defined (symbol_in r) r.span (length rs) (with_operands role.Definition rs []) (operands_add role.Definition rs [])
  where
    defined : (symbol : Result (List ℕ) Fault) (span : Span) (n : ℕ) (x : Result (List Operand) Fault) → AddsTo n [] x → Has (suc n) (and_then (and_then symbol (λ symbol. and_then x (λ os. Ok (record { symbol = symbol; span = span; operands = os })))) (λ d. Ok (Equ d)))
    defined (Err fault) span n x h = tt
    defined (Ok symbol) span n (Err fault) h = tt
    defined (Ok symbol) span n (Ok os) h = omega (arith, h)

kind_operands : (k : DirectiveKind) (name : Span) (rs : List Run) → Has (length rs) (body_of_kind k name rs)
kind_operands (kind.Data w) name rs = has_those (length rs) (with_operands (role.Data w) rs []) _ (operands_add (role.Data w) rs []) (λ os. refl)
kind_operands kind.Strings name rs = has_none (length rs) (with_strings [] rs []) _ (λ bs. refl)
kind_operands kind.TerminatedStrings name rs = has_none (length rs) (with_strings (0 ∷ []) rs []) _ (λ bs. refl)
kind_operands kind.Fill name rs = has_those (length rs) (with_operands role.Size rs []) _ (operands_add role.Size rs []) (λ os. refl)
kind_operands (kind.Alignment u) name rs = has_those (length rs) (with_operands (role.Alignment u) rs []) _ (operands_add (role.Alignment u) rs []) (λ os. refl)
kind_operands (kind.Switch s) name rs = omega arith
kind_operands kind.Section name rs = has_none (length rs) (and_then (first_operand name rs) section_in) _ (λ s. refl)
kind_operands kind.Definition name rs = has_definition name rs
kind_operands kind.Ignored name rs = omega arith

directive_operands : (d : DirectiveForm) (name : Span) (rs : List Run) → length (operands_of (directives.body_of_form d name rs)) ≤ length rs
directive_operands d name rs =
    elim (takes d.count (length rs))
    as (λ b. length (operands_of (cond b (body_or_fault (body_of_kind d.kind name rs)) (Faulty (record { number = OperandCount; span = name })))) ≤ length rs)
    [ true ↦ read (length rs) (body_of_kind d.kind name rs) (kind_operands d.kind name rs) | false ↦ omega arith ]
  where
    read : (n : ℕ) (x : Result Body Fault) → Has n x → length (operands_of (body_or_fault x)) ≤ n
    read n (Ok body) h = h
    read n (Err fault) h = omega arith

-- there are no more runs than tokens after the name, and one

first_length : (p : SpelledToken) (rs : List Run) → length (with_first p rs) ≡ length rs
first_length p [] = refl
first_length p (r ∷ rs) = refl

few_from : (end depth : ℕ) (ps : List SpelledToken) → length (runs_from end depth ps) ≤ length ps + 1
few_from end depth [] = omega arith
few_from end depth (p ∷ ps) =
    let rest = runs_from p.span.to (depth_after depth (token_role p)) ps in
    let cut = few_from p.span.to 0 ps in
    let joined = few_from p.span.to (depth_after depth (token_role p)) ps in
    let same = first_length p rest in
    elim (is_punctuation (codes ",") p && depth == 0)
    as (λ ends. length (cond ends (Rattle.rv_stmt.specs.Runs.no_tokens end ∷ runs_from p.span.to 0 ps) (with_first p rest)) ≤ length (p ∷ ps) + 1)
    [ true ↦ omega (arith, cut) | false ↦ omega (arith, joined, same) ]

pub few_runs : (end : ℕ) (ps : List SpelledToken) → length (runs_of end ps) ≤ length ps + 1
few_runs end [] = omega arith
few_runs end (p ∷ ps) = few_from end 0 (p ∷ ps)

-- no more operands than tokens, with the name

unless_operands : (fault : Option Fault) (body : Body) (n : ℕ) → length (operands_of body) ≤ n → length (operands_of (unless_lexical fault body)) ≤ n
unless_operands None body n h = h
unless_operands (Some fault) body n h = omega arith

directive_name_operands : (fault : Option Fault) (p : SpelledToken) (ps : List SpelledToken) (d : Option DirectiveForm) → length (operands_of (body_of_directive fault p ps d)) ≤ length ps + 1
directive_name_operands fault p ps None =
    unless_operands fault (Faulty (record { number = UnknownName; span = p.span })) (length ps + 1) (omega arith)
directive_name_operands fault p ps (Some d) =
    let runs = runs_of p.span.to ps in
    let h = directive_operands d p.span runs in
    let few = few_runs p.span.to ps in
    elim (is_ignored d.kind)
    as (λ b. length (operands_of (cond b Ignored (unless_lexical fault (directives.body_of_form d p.span runs)))) ≤ length ps + 1)
    [ true ↦ omega arith | false ↦ unless_operands fault (directives.body_of_form d p.span runs) (length ps + 1) (omega (arith, h, few)) ]

mnemonic_operands : (fault : Option Fault) (p : SpelledToken) (ps : List SpelledToken) → length (operands_of (unless_lexical fault (body_of_mnemonic p (runs_of p.span.to ps)))) ≤ length ps + 1
mnemonic_operands fault p ps =
    let runs = runs_of p.span.to ps in
    let h = form_operands p.span runs (form_of p.text (length runs)) in
    let few = few_runs p.span.to ps in
    unless_operands fault (body_of_form p.span runs (form_of p.text (length runs))) (length ps + 1) (omega (arith, h, few))

from_operands : (fault : Option Fault) (kind : TokenKind) (p : SpelledToken) (ps : List SpelledToken) → length (operands_of (body_from fault kind p ps)) ≤ length ps + 1
from_operands fault kinds.Identifier p ps =
    elim (is_directive_name p.text)
    as (λ b. length (operands_of (cond b (body_of_directive fault p ps (directive_named p.text)) (unless_lexical fault (body_of_mnemonic p (runs_of p.span.to ps))))) ≤ length ps + 1)
    [ true ↦ directive_name_operands fault p ps (directive_named p.text) | false ↦ mnemonic_operands fault p ps ]
from_operands fault kinds.Number p ps = unless_operands fault _ (length ps + 1) (omega arith)
from_operands fault kinds.Local p ps = unless_operands fault _ (length ps + 1) (omega arith)
from_operands fault kinds.Str p ps = unless_operands fault _ (length ps + 1) (omega arith)
from_operands fault kinds.Char p ps = unless_operands fault _ (length ps + 1) (omega arith)
from_operands fault kinds.Punctuation p ps = unless_operands fault _ (length ps + 1) (omega arith)

body_operands : (fault : Option Fault) (ps : List SpelledToken) → length (operands_of (body_of fault ps)) ≤ length ps
body_operands fault [] = unless_operands fault Empty 0 (omega arith)
body_operands fault (p ∷ ps) = let h = from_operands fault p.kind p ps in omega (arith, h)

with_label_few : (label : Option Label) (ps qs : List SpelledToken) → length (labels_and_body qs).body ≤ length ps → length (with_label label ps (labels_and_body qs)).body ≤ length ps
with_label_few None ps qs h = omega arith
with_label_few (Some label) ps qs h = h

pub few_in_body : (ps : List SpelledToken) → length (labels_and_body ps).body ≤ length ps
few_in_body [] = omega arith
few_in_body (p ∷ []) = omega arith
few_in_body (p ∷ q ∷ ps) =
    let h = few_in_body ps in
    with_label_few (label_at (p ∷ q ∷ ps) 0) (p ∷ q ∷ ps) ps (omega (arith, h))

pub few_operands : (line : List ℕ) → length (operands_of (statement_of line).body) ≤ length line
few_operands line =
    let ps = spelled_tokens (lexed_line line) in
    let h = body_operands (lexed_line line).fault (labels_and_body ps).body in
    let body = few_in_body ps in
    let few = few_spelled_tokens line in
    omega (arith, h, body, few)
