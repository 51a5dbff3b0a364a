-- The tokens of each operand of an instruction, which spell its text.
use Rattle.std.proofs.Common.{◌≡◌, ℕ, ℤ, pos, negsuc, suc, ◌<◌, ◌^◌, true, List, [], ◌∷◌, Option, Some, None, refl, ap, arith}
use Rattle.std.specs.Prelude.{⊤, codes, decimal, unsigned_abs}
use Rattle.std.specs.Fmt.{signed_decimal}
use Rattle.std.specs.Option.{IfSome}
use Rattle.std.proofs.lemmas.List.{append-nil}
use Rattle.std.proofs.lemmas.Bool.Decides.{nat_tests}
use Rattle.rv_text.specs.declared.lexeme.TokenKind.TheVariants.{Identifier, Number, Punctuation}
use Rattle.rv_text.specs.Lexical.{is_identifier}
use Rattle.rv_text.specs.Numbers.{number_of}
use Rattle.rv_ops.specs.Csrs.{csr_name}
use Rattle.rv_ops.specs.Registers.{register_name}
use Rattle.rv_ops.specs.Table.{classes_of}
use Rattle.rv_ops.specs.declared.layouts.RegisterClass.{RegisterClass}
use Rattle.rv_ops.specs.declared.layouts.RegisterClass.TheVariants.{Absent, Any, NotZero, NotSp, Prime, Set}
use Rattle.rv_ops.specs.declared.op.Shape.{Shape}
use Rattle.rv_ops.specs.declared.op.Shape.TheVariants as shape
use Rattle.rv_code.specs.declared.instruction.Fields.{Fields}
use Rattle.rv_code.specs.Encoding.{is_in}
use Rattle.rv_stmt.specs.Registers.{set_name}
use Rattle.rv_stmt.specs.declared.slots.Slot.{Slot}
use Rattle.rv_stmt.specs.declared.slots.Slot.TheVariants as slot
use Rattle.rv_dis.specs.Text.{hexadecimal, hexadecimal_of, immediate_text, target_of, base_text, memory_text, csr_text, set_text, operand_text}
use Rattle.rv_dis.proofs.Numerals.{number_decimal, number_hexadecimal, number_hex}
use Rattle.rv_dis.proofs.Identifiers.{register_identifier, csr_identifier, set_is}
use Rattle.rv_dis.proofs.Spelling.{Piece, Spelled, spelling, are_plain_tokens}
use Rattle.rv_dis.proofs.Cutting.{IsWhole, has_token}

-- the tokens of each operand

abbrev pub identifier_piece : List ℕ → List Piece
identifier_piece text = Spelled Identifier text ∷ []

abbrev pub number_piece : List ℕ → List Piece
number_piece text = Spelled Number text ∷ []

abbrev pub value_pieces : ℤ → List Piece
value_pieces (pos n) = Spelled Number (decimal n) ∷ []
value_pieces (negsuc n) = Spelled Punctuation (codes "-") ∷ Spelled Number (decimal (suc n)) ∷ []

abbrev pub base_pieces : ℕ → List Piece
base_pieces base =
    Spelled Punctuation (codes "(") ∷ Spelled Identifier (register_name base) ∷ Spelled Punctuation (codes ")") ∷ []

abbrev pub memory_pieces : ℤ → ℕ → List Piece
memory_pieces (pos n) base =
    Spelled Number (decimal n) ∷ Spelled Punctuation (codes "(") ∷ Spelled Identifier (register_name base) ∷ Spelled Punctuation (codes ")") ∷ []
memory_pieces (negsuc n) base =
    Spelled Punctuation (codes "-") ∷ Spelled Number (decimal (suc n)) ∷ Spelled Punctuation (codes "(") ∷ Spelled Identifier (register_name base) ∷ Spelled Punctuation (codes ")") ∷ []

abbrev pub immediate_pieces : Shape → ℤ → List Piece
immediate_pieces shape.Upper v = number_piece (hexadecimal (unsigned_abs v))
immediate_pieces shape.CUpper v = number_piece (hexadecimal (unsigned_abs v))
immediate_pieces s v = value_pieces v

abbrev pub csr_pieces : Option (List ℕ) → ℕ → List Piece
csr_pieces None n = number_piece (hexadecimal_of 3 n)
csr_pieces (Some name) n = identifier_piece name

abbrev pub operand_pieces : ℕ → Shape → Fields → Slot → List Piece
operand_pieces a s f slot.Rd = identifier_piece (register_name f.rd)
operand_pieces a s f slot.Rs1 = identifier_piece (register_name f.rs1)
operand_pieces a s f slot.Rs2 = identifier_piece (register_name f.rs2)
operand_pieces a s f slot.StackPointer = identifier_piece (register_name 2)
operand_pieces a s f slot.Immediate = immediate_pieces s f.value
operand_pieces a s f slot.SourceImmediate = number_piece (decimal f.rs1)
operand_pieces a s f slot.Target = number_piece (hexadecimal_of 8 (target_of a f.value))
operand_pieces a s f slot.Memory = memory_pieces f.value f.rs1
operand_pieces a s f slot.StackMemory = memory_pieces f.value 2
operand_pieces a s f slot.Base = base_pieces f.rs1
operand_pieces a s f slot.MemoryOrRegister = memory_pieces f.value f.rs1
operand_pieces a s f slot.MemoryOrAddress = memory_pieces f.value f.rs1
operand_pieces a s f slot.Csr = csr_pieces (csr_name (unsigned_abs f.value)) (unsigned_abs f.value)
operand_pieces a s f slot.Predecessors = identifier_piece (set_text (set_name f.rs1))
operand_pieces a s f slot.Successors = identifier_piece (set_text (set_name f.rs2))
operand_pieces a s f slot.Address = []
operand_pieces a s f slot.AddressThroughRd = []
operand_pieces a s f slot.Constant = []

-- they spell the operand's text

value_spelling : (v : ℤ) → spelling (value_pieces v) ≡ signed_decimal v
value_spelling (pos n) = append-nil (decimal n)
value_spelling (negsuc n) = ap (λ xs. 45 ∷ xs) (append-nil (decimal (suc n)))

memory_spelling : (v : ℤ) (base : ℕ) → spelling (memory_pieces v base) ≡ memory_text v base
memory_spelling (pos n) base = refl
memory_spelling (negsuc n) base = refl

immediate_spelling : (s : Shape) (v : ℤ) → spelling (immediate_pieces s v) ≡ immediate_text s v
immediate_spelling shape.Upper v = append-nil (hexadecimal (unsigned_abs v))
immediate_spelling shape.CUpper v = append-nil (hexadecimal (unsigned_abs v))
immediate_spelling s v = value_spelling v

csr_spelling : (name : Option (List ℕ)) (n : ℕ) → spelling (csr_pieces name n) ≡ csr_text name n
csr_spelling None n = append-nil (hexadecimal_of 3 n)
csr_spelling (Some name) n = append-nil name

pub operand_spelling : (a : ℕ) (s : Shape) (f : Fields) (k : Slot) → spelling (operand_pieces a s f k) ≡ operand_text a s f k
operand_spelling a s f slot.Rd = append-nil (register_name f.rd)
operand_spelling a s f slot.Rs1 = append-nil (register_name f.rs1)
operand_spelling a s f slot.Rs2 = append-nil (register_name f.rs2)
operand_spelling a s f slot.StackPointer = append-nil (register_name 2)
operand_spelling a s f slot.Immediate = immediate_spelling s f.value
operand_spelling a s f slot.SourceImmediate = append-nil (decimal f.rs1)
operand_spelling a s f slot.Target = append-nil (hexadecimal_of 8 (target_of a f.value))
operand_spelling a s f slot.Memory = memory_spelling f.value f.rs1
operand_spelling a s f slot.StackMemory = memory_spelling f.value 2
operand_spelling a s f slot.Base = refl
operand_spelling a s f slot.MemoryOrRegister = memory_spelling f.value f.rs1
operand_spelling a s f slot.MemoryOrAddress = memory_spelling f.value f.rs1
operand_spelling a s f slot.Csr = csr_spelling (csr_name (unsigned_abs f.value)) (unsigned_abs f.value)
operand_spelling a s f slot.Predecessors = append-nil (set_text (set_name f.rs1))
operand_spelling a s f slot.Successors = append-nil (set_text (set_name f.rs2))
operand_spelling a s f slot.Address = refl
operand_spelling a s f slot.AddressThroughRd = refl
operand_spelling a s f slot.Constant = refl

-- what each slot asks of the fields
abbrev pub FitsSlot : ℕ → Shape → Fields → Slot → Type 0
FitsSlot a s f slot.Rd = is_in (classes_of s).rd f.rd ≡ true
FitsSlot a s f slot.Rs1 = is_in (classes_of s).rs1 f.rs1 ≡ true
FitsSlot a s f slot.Rs2 = is_in (classes_of s).rs2 f.rs2 ≡ true
FitsSlot a s f slot.StackPointer = ⊤
FitsSlot a s f slot.Immediate = unsigned_abs f.value < 2 ^ 32
FitsSlot a s f slot.SourceImmediate = f.rs1 < 32
FitsSlot a s f slot.Target = ⊤
FitsSlot a s f slot.Memory = (is_in (classes_of s).rs1 f.rs1 ≡ true) × (unsigned_abs f.value < 2 ^ 32)
FitsSlot a s f slot.StackMemory = unsigned_abs f.value < 2 ^ 32
FitsSlot a s f slot.Base = is_in (classes_of s).rs1 f.rs1 ≡ true
FitsSlot a s f slot.MemoryOrRegister = (is_in (classes_of s).rs1 f.rs1 ≡ true) × (unsigned_abs f.value < 2 ^ 32)
FitsSlot a s f slot.MemoryOrAddress = (is_in (classes_of s).rs1 f.rs1 ≡ true) × (unsigned_abs f.value < 2 ^ 32)
FitsSlot a s f slot.Csr = unsigned_abs f.value < 4096
FitsSlot a s f slot.Predecessors = is_in Set f.rs1 ≡ true
FitsSlot a s f slot.Successors = is_in Set f.rs2 ≡ true
FitsSlot a s f slot.Address = ⊥
FitsSlot a s f slot.AddressThroughRd = ⊥
FitsSlot a s f slot.Constant = ⊥

pub class_below : (c : RegisterClass) (n : ℕ) → is_in c n ≡ true → n < 32
class_below Absent n h = grind (arith, nat_tests)
class_below Any n h = grind (arith, nat_tests)
class_below NotZero n h = grind (arith, nat_tests)
class_below NotSp n h = grind (arith, nat_tests)
class_below Prime n h = grind (arith, nat_tests)
class_below Set n h = grind (arith, nat_tests)

-- the pieces are the tokens of one operand
pub record IsOperand (ps : List Piece) : Type 0 where
  pub plain : are_plain_tokens ps ≡ true
  pub whole : IsWhole 0 ps
  pub some : has_token ps ≡ true

pub identifier_is_operand : (text : List ℕ) → is_identifier text ≡ true → IsOperand (identifier_piece text)
identifier_is_operand text h = record { plain = rw h refl; whole = (λ at. refl, refl); some = refl }

pub number_is_operand : (n : ℕ) (text : List ℕ) → number_of text ≡ Some n → IsOperand (number_piece text)
number_is_operand n text h = record { plain = rw h refl; whole = (λ at. refl, rw h refl); some = refl }

value_is_operand : (v : ℤ) → unsigned_abs v < 2 ^ 32 → IsOperand (value_pieces v)
value_is_operand (pos n) h = number_is_operand n (decimal n) (number_decimal n (omega arith))
value_is_operand (negsuc n) h =
    let e = number_decimal (suc n) (omega arith) in
    record { plain = rw e refl; whole = (λ at. refl, (λ at. refl, rw e refl)); some = refl }

base_is_operand : (base : ℕ) → base < 32 → IsOperand (base_pieces base)
base_is_operand base b =
    let w = register_identifier base b in
    record { plain = rw w refl; whole = (λ at. refl, (λ at. refl, (λ at. refl, refl))); some = refl }

memory_is_operand : (v : ℤ) (base : ℕ) → base < 32 → unsigned_abs v < 2 ^ 32 → IsOperand (memory_pieces v base)
memory_is_operand (pos n) base b h =
    let e = number_decimal n (omega arith) in
    let w = register_identifier base b in
    record { plain = rw (e, w) refl; whole = rw e (λ at. refl, (λ at. refl, (λ at. refl, (λ at. refl, refl)))); some = refl }
memory_is_operand (negsuc n) base b h =
    let e = number_decimal (suc n) (omega arith) in
    let w = register_identifier base b in
    record { plain = rw (e, w) refl; whole = rw e (λ at. refl, (λ at. refl, (λ at. refl, (λ at. refl, (λ at. refl, refl))))); some = refl }

immediate_is_operand : (s : Shape) (v : ℤ) → unsigned_abs v < 2 ^ 32 → IsOperand (immediate_pieces s v)
immediate_is_operand shape.Upper v h = number_is_operand (unsigned_abs v) (hexadecimal (unsigned_abs v)) (number_hexadecimal (unsigned_abs v) (omega arith))
immediate_is_operand shape.CUpper v h = number_is_operand (unsigned_abs v) (hexadecimal (unsigned_abs v)) (number_hexadecimal (unsigned_abs v) (omega arith))
immediate_is_operand s v h = value_is_operand v h

csr_is_operand : (name : Option (List ℕ)) (n : ℕ) → IfSome name (λ text. is_identifier text ≡ true) → n < 4096 → IsOperand (csr_pieces name n)
csr_is_operand None n h small = number_is_operand n (hexadecimal_of 3 n) (number_hex 3 n (omega arith) (omega arith) (omega arith))
csr_is_operand (Some name) n h small = identifier_is_operand name h

pub target_below : (a : ℕ) (v : ℤ) → target_of a v < 2 ^ 32
target_below a v = omega arith

pub slot_is_operand : (a : ℕ) (s : Shape) (f : Fields) (k : Slot) → FitsSlot a s f k → IsOperand (operand_pieces a s f k)
slot_is_operand a s f slot.Rd h = identifier_is_operand (register_name f.rd) (register_identifier f.rd (class_below (classes_of s).rd f.rd h))
slot_is_operand a s f slot.Rs1 h = identifier_is_operand (register_name f.rs1) (register_identifier f.rs1 (class_below (classes_of s).rs1 f.rs1 h))
slot_is_operand a s f slot.Rs2 h = identifier_is_operand (register_name f.rs2) (register_identifier f.rs2 (class_below (classes_of s).rs2 f.rs2 h))
slot_is_operand a s f slot.StackPointer h = identifier_is_operand (register_name 2) (register_identifier 2 (omega arith))
slot_is_operand a s f slot.Immediate h = immediate_is_operand s f.value h
slot_is_operand a s f slot.SourceImmediate h = number_is_operand f.rs1 (decimal f.rs1) (number_decimal f.rs1 (omega arith))
slot_is_operand a s f slot.Target h = number_is_operand (target_of a f.value) (hexadecimal_of 8 (target_of a f.value)) (number_hex 8 (target_of a f.value) (omega arith) (omega (arith, target_below a f.value)) (omega (arith, target_below a f.value)))
slot_is_operand a s f slot.Memory h = memory_is_operand f.value f.rs1 (class_below (classes_of s).rs1 f.rs1 h.0) h.1
slot_is_operand a s f slot.StackMemory h = memory_is_operand f.value 2 (omega arith) h
slot_is_operand a s f slot.Base h = base_is_operand f.rs1 (class_below (classes_of s).rs1 f.rs1 h)
slot_is_operand a s f slot.MemoryOrRegister h = memory_is_operand f.value f.rs1 (class_below (classes_of s).rs1 f.rs1 h.0) h.1
slot_is_operand a s f slot.MemoryOrAddress h = memory_is_operand f.value f.rs1 (class_below (classes_of s).rs1 f.rs1 h.0) h.1
slot_is_operand a s f slot.Csr h = csr_is_operand (csr_name (unsigned_abs f.value)) (unsigned_abs f.value) (csr_identifier (unsigned_abs f.value)) h
slot_is_operand a s f slot.Predecessors h = identifier_is_operand (set_text (set_name f.rs1)) (set_is f.rs1 h).identifier
slot_is_operand a s f slot.Successors h = identifier_is_operand (set_text (set_name f.rs2)) (set_is f.rs2 h).identifier
slot_is_operand a s f slot.Address h = absurd h
slot_is_operand a s f slot.AddressThroughRd h = absurd h
slot_is_operand a s f slot.Constant h = absurd h
