-- The text of an instruction is read as its operation's own way with its operands.
use Rattle.std.proofs.Common.{◌≡◌, ℕ, pos, ◌+◌, true, false, List, [], ◌∷◌, ◌++◌, length, map, Ok, sym, refl, ap, ◌∙◌, eq-eqb, suc}
use Rattle.std.specs.Prelude.{◌==◌, ⊤}
use Rattle.std.proofs.lemmas.List.{append_assoc}
use Rattle.rv_ops.specs.Table.{shape_of, operation_name, row_of}
use Rattle.rv_ops.specs.declared.op.Op.{Op}
use Rattle.rv_ops.specs.declared.op.Op.TheVariants.{Lui}
use Rattle.rv_ops.specs.declared.op.Shape.{Shape}
use Rattle.rv_ops.specs.NameLaws.{operation_named-name}
use Rattle.rv_code.specs.declared.instruction.Fields.{Fields}
use Rattle.rv_stmt.specs.declared.draft.Draft.{Draft}
use Rattle.rv_stmt.specs.declared.runs.Run.{Run}
use Rattle.rv_stmt.specs.declared.slots.Slot.{Slot}
use Rattle.rv_stmt.specs.Draft.{fields}
use Rattle.rv_stmt.specs.Forms.{slots_of, own_form, form_of}
use Rattle.rv_stmt.specs.Readings.{and_then}
use Rattle.rv_stmt.specs.Slots.{slots_read}
use Rattle.rv_stmt.specs.Statement.{body_of_form, body_of_draft, statement_of, is_directive_name}
use Rattle.rv_dis.specs.Text.{operand_text, after_comma, after_name, instruction_text}
use Rattle.rv_dis.proofs.Spelling.{Piece, Space, Spelled, spelling}
use Rattle.rv_dis.proofs.Cutting.{run_at, runs_at, more_runs, end_after, more_pieces, operands_pieces, AreWhole, HaveTokens, ArePlain}
use Rattle.rv_dis.proofs.Identifiers.{operation_identifier}
use Rattle.rv_dis.proofs.NamedLine.{AreOperands, named_pieces, end_of_name, name_span, unlabelled, mnemonic_line}
use Rattle.rv_dis.proofs.Operands.{operand_pieces, operand_spelling, FitsSlot, slot_is_operand}
use Rattle.rv_dis.proofs.OperandReadings.{put, operand_read}

-- the pieces of the operands of some slots
abbrev pub pieces_of : ℕ → Shape → Fields → List Slot → List (List Piece)
pieces_of a s f ks = map (operand_pieces a s f) ks

-- the fields fit some slots
abbrev pub FitSlots : ℕ → Shape → Fields → List Slot → Type 0
FitSlots a s f [] = ⊤
FitSlots a s f (k ∷ ks) = FitsSlot a s f k × FitSlots a s f ks

-- the pieces spell the text
spelling-append : (ps qs : List Piece) → spelling (ps ++ qs) ≡ spelling ps ++ spelling qs
spelling-append [] qs = refl
spelling-append (Space ∷ ps) qs = ap (λ xs. 0x20 ∷ xs) (spelling-append ps qs)
spelling-append (Spelled kind text ∷ ps) qs =
    ap (λ xs. text ++ xs) (spelling-append ps qs) ∙ sym (append_assoc text (spelling ps) (spelling qs))

more_spelling : (a : ℕ) (s : Shape) (f : Fields) (ks : List Slot) → spelling (more_pieces (pieces_of a s f ks)) ≡ after_comma (map (operand_text a s f) ks)
more_spelling a s f [] = refl
more_spelling a s f (k ∷ ks) =
    let here = spelling-append (operand_pieces a s f k) (more_pieces (pieces_of a s f ks)) in
    rw (here, operand_spelling a s f k, more_spelling a s f ks) refl

operands_spelling : (a : ℕ) (s : Shape) (f : Fields) (ks : List Slot) → spelling (operands_pieces (pieces_of a s f ks)) ≡ after_name (map (operand_text a s f) ks)
operands_spelling a s f [] = refl
operands_spelling a s f (k ∷ ks) =
    let here = spelling-append (operand_pieces a s f k) (more_pieces (pieces_of a s f ks)) in
    rw (here, operand_spelling a s f k, more_spelling a s f ks) refl

-- they are the tokens of the operands
all_plain : (a : ℕ) (s : Shape) (f : Fields) (ks : List Slot) → FitSlots a s f ks → ArePlain (pieces_of a s f ks)
all_plain a s f [] h = tt
all_plain a s f (k ∷ ks) h = ((slot_is_operand a s f k h.0).plain, all_plain a s f ks h.1)

all_whole : (a : ℕ) (s : Shape) (f : Fields) (ks : List Slot) → FitSlots a s f ks → AreWhole (pieces_of a s f ks)
all_whole a s f [] h = tt
all_whole a s f (k ∷ ks) h = ((slot_is_operand a s f k h.0).whole, all_whole a s f ks h.1)

all_some : (a : ℕ) (s : Shape) (f : Fields) (ks : List Slot) → FitSlots a s f ks → HaveTokens (pieces_of a s f ks)
all_some a s f [] h = tt
all_some a s f (k ∷ ks) h = ((slot_is_operand a s f k h.0).some, all_some a s f ks h.1)

-- the operands are read
abbrev pub puts : ℕ → Shape → Fields → List Slot → List Run → Draft → Draft
puts a s f [] rs d = d
puts a s f (k ∷ ks) [] d = d
puts a s f (k ∷ ks) (r ∷ rs) d = puts a s f ks rs (put a s f k r.span d)

more_read : (a : ℕ) (o : Op) (f : Fields) (at : ℕ) (ks : List Slot) (d : Draft) → FitSlots a (shape_of o) f ks → slots_read o ks (more_runs at (pieces_of a (shape_of o) f ks)) d ≡ Ok (puts a (shape_of o) f ks (more_runs at (pieces_of a (shape_of o) f ks)) d)
more_read a o f at [] d h = refl
more_read a o f at (k ∷ ks) d h =
    let ps = operand_pieces a (shape_of o) f k in
    let end = end_after (at + 1 + 1) ps in
    let rs = more_runs end (pieces_of a (shape_of o) f ks) in
    ap (λ r. and_then r (λ d. slots_read o ks rs d)) (operand_read a o f k h.0 (at + 1) (at + 1 + 1) d)
    ∙ more_read a o f end ks (put a (shape_of o) f k (run_at (at + 1) (at + 1 + 1) ps).span d) h.1

all_read : (a : ℕ) (o : Op) (f : Fields) (at : ℕ) (ks : List Slot) (d : Draft) → FitSlots a (shape_of o) f ks → slots_read o ks (runs_at at (pieces_of a (shape_of o) f ks)) d ≡ Ok (puts a (shape_of o) f ks (runs_at at (pieces_of a (shape_of o) f ks)) d)
all_read a o f at [] d h = refl
all_read a o f at (k ∷ ks) d h =
    let ps = operand_pieces a (shape_of o) f k in
    let end = end_after (at + 1) ps in
    let rs = more_runs end (pieces_of a (shape_of o) f ks) in
    ap (λ r. and_then r (λ d. slots_read o ks rs d)) (operand_read a o f k h.0 at (at + 1) d)
    ∙ more_read a o f end ks (put a (shape_of o) f k (run_at at (at + 1) ps).span d) h.1

-- the form is the operation's own
more_count : (a : ℕ) (s : Shape) (f : Fields) (ks : List Slot) (at : ℕ) → length (more_runs at (pieces_of a s f ks)) ≡ length ks
more_count a s f [] at = refl
more_count a s f (k ∷ ks) at = ap suc (more_count a s f ks _)

all_count : (a : ℕ) (s : Shape) (f : Fields) (at : ℕ) (ks : List Slot) → length (runs_at at (pieces_of a s f ks)) ≡ length ks
all_count a s f at [] = refl
all_count a s f at (k ∷ ks) = ap suc (more_count a s f ks _)

own_form_is : (o : Op) (n : ℕ) → n ≡ length (slots_of (shape_of o)) → form_of (operation_name o) n ≡ Ok (own_form o)
own_form_is o n e =
    let count : (n == length (slots_of (shape_of o))) ≡ true = eq-eqb n (length (slots_of (shape_of o))) e in
    rw (operation_named-name o, count) refl

no_directive_name : (o : Op) → is_directive_name (operation_name o) ≡ false
unfolding operation_name row_of
no_directive_name Lui = refl
no_directive_name _ = refl

-- the whole line

abbrev pub start : Draft
start = record { fields = fields 0 0 0 (pos 0); operands = [] }

-- the operands of an operation's own way, as pieces and as runs
abbrev pub own_pieces : ℕ → Op → Fields → List (List Piece)
own_pieces a o f = pieces_of a (shape_of o) f (slots_of (shape_of o))

abbrev pub own_runs : ℕ → Op → Fields → List Run
own_runs a o f = runs_at (end_of_name (operation_name o)) (own_pieces a o f)

abbrev pub draft_of : ℕ → Op → Fields → Draft
draft_of a o f = puts a (shape_of o) f (slots_of (shape_of o)) (own_runs a o f) start

line_spelling : (a : ℕ) (o : Op) (f : Fields) → spelling (named_pieces (operation_name o) (own_pieces a o f)) ≡ instruction_text a o f
unfolding instruction_text
line_spelling a o f = ap (λ xs. operation_name o ++ xs) (operands_spelling a (shape_of o) f (slots_of (shape_of o)))

-- the text of an instruction is the statement of its operation's own way, with its operands
pub line_read : (a : ℕ) (o : Op) (f : Fields) → FitSlots a (shape_of o) f (slots_of (shape_of o)) → statement_of (instruction_text a o f) ≡ unlabelled (body_of_draft (own_form o) (name_span (operation_name o)) (Ok (draft_of a o f)))
line_read a o f h =
    let name = operation_name o in
    let ks = slots_of (shape_of o) in
    let operands : AreOperands (own_pieces a o f) =
    record { plain = all_plain a (shape_of o) f ks h; whole = all_whole a (shape_of o) f ks h; some = all_some a (shape_of o) f ks h } in
    let form = own_form_is o (length (own_runs a o f)) (all_count a (shape_of o) f (end_of_name name) ks) in
    let read = all_read a o f (end_of_name name) ks start h in
    ap statement_of (sym (line_spelling a o f))
    ∙ mnemonic_line name (own_pieces a o f) (operation_identifier o) operands (no_directive_name o)
    ∙ ap (λ form. unlabelled (body_of_form (name_span name) (own_runs a o f) form)) form
    ∙ ap (λ draft. unlabelled (body_of_draft (own_form o) (name_span name) draft)) read
