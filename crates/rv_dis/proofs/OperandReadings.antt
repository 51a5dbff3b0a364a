-- Each operand is read as what it was written from.
use Rattle.std.proofs.Common.{◌≡◌, ℕ, ℤ, pos, negsuc, suc, ◌<◌, ◌^◌, true, List, Option, Some, None, Ok, refl, arith}
use Rattle.std.specs.Prelude.{decimal, unsigned_abs}
use Rattle.std.specs.Option.{IfSome}
use Rattle.rv_text.specs.declared.lexeme.Span.{Span}
use Rattle.rv_text.specs.Numbers.{number_of}
use Rattle.rv_ops.specs.Csrs.{csr_name, csr_named}
use Rattle.rv_ops.specs.NameLaws.{register_named-name, csr_named-name}
use Rattle.rv_ops.specs.Registers.{register_name}
use Rattle.rv_ops.specs.Table.{shape_of, classes_of}
use Rattle.rv_ops.specs.declared.layouts.RegisterClass.TheVariants.{Set}
use Rattle.rv_ops.specs.declared.op.Op.{Op}
use Rattle.rv_ops.specs.declared.op.Shape.{Shape}
use Rattle.rv_ops.specs.declared.op.Shape.TheVariants as shape
use Rattle.rv_code.specs.declared.instruction.Fields.{Fields}
use Rattle.rv_code.specs.Encoding.{is_in}
use Rattle.rv_expr.specs.declared.tree.UnaryOp.TheVariants.{Neg}
use Rattle.rv_expr.specs.Tree.{Tree, Unary}
use Rattle.rv_expr.specs.Tree as tree
use Rattle.rv_stmt.specs.declared.draft.Draft.{Draft}
use Rattle.rv_stmt.specs.declared.operand.OperandValue.TheVariants.{Plain}
use Rattle.rv_stmt.specs.declared.operand.Role.{Role}
use Rattle.rv_stmt.specs.declared.operand.Role.TheVariants.{Immediate, SourceImmediate, Target}
use Rattle.rv_stmt.specs.declared.slots.Slot.{Slot}
use Rattle.rv_stmt.specs.declared.slots.Slot.TheVariants as slot
use Rattle.rv_stmt.specs.Draft.{with_rd, with_rs1, with_rs2, with_value, with_operand}
use Rattle.rv_stmt.specs.Registers.{set_name}
use Rattle.rv_stmt.specs.Slots.{operand_of_slot}
use Rattle.rv_dis.specs.Text.{hexadecimal, hexadecimal_of, target_of, set_text}
use Rattle.rv_dis.proofs.Numerals.{number_decimal, number_hexadecimal, number_hex}
use Rattle.rv_dis.proofs.Identifiers.{set_is}
use Rattle.rv_dis.proofs.Spelling.{Piece}
use Rattle.rv_dis.proofs.Cutting.{run_at}
use Rattle.rv_dis.proofs.Operands.{FitsSlot, class_below, target_below, identifier_piece, number_piece, value_pieces, base_pieces, memory_pieces, immediate_pieces, csr_pieces, operand_pieces}

-- what each slot puts into a draft

abbrev pub value_tree : ℤ → Tree
value_tree (pos n) = tree.Number (pos n)
value_tree (negsuc n) = Unary Neg (tree.Number (pos (suc n)))

abbrev pub immediate_tree : Shape → ℤ → Tree
immediate_tree shape.Upper v = tree.Number (pos (unsigned_abs v))
immediate_tree shape.CUpper v = tree.Number (pos (unsigned_abs v))
immediate_tree s v = value_tree v

abbrev pub waiting : Tree → Role → Span → Draft → Draft
waiting e role span d = with_operand d (record { value = Plain e; role = role; span = span })

abbrev pub csr_put : Option (List ℕ) → ℕ → Span → Draft → Draft
csr_put None n span d = waiting (tree.Number (pos n)) Immediate span d
csr_put (Some name) n span d = with_value d (pos n)

abbrev pub put : ℕ → Shape → Fields → Slot → Span → Draft → Draft
put a s f slot.Rd span d = with_rd d f.rd
put a s f slot.Rs1 span d = with_rs1 d f.rs1
put a s f slot.Rs2 span d = with_rs2 d f.rs2
put a s f slot.StackPointer span d = d
put a s f slot.Immediate span d = waiting (immediate_tree s f.value) Immediate span d
put a s f slot.SourceImmediate span d = waiting (tree.Number (pos f.rs1)) SourceImmediate span d
put a s f slot.Target span d = waiting (tree.Number (pos (target_of a f.value))) Target span d
put a s f slot.Memory span d = waiting (value_tree f.value) Immediate span (with_rs1 d f.rs1)
put a s f slot.StackMemory span d = waiting (value_tree f.value) Immediate span d
put a s f slot.Base span d = with_rs1 d f.rs1
put a s f slot.MemoryOrRegister span d = waiting (value_tree f.value) Immediate span (with_rs1 d f.rs1)
put a s f slot.MemoryOrAddress span d = waiting (value_tree f.value) Immediate span (with_rs1 d f.rs1)
put a s f slot.Csr span d = csr_put (csr_name (unsigned_abs f.value)) (unsigned_abs f.value) span d
put a s f slot.Predecessors span d = with_rs1 d f.rs1
put a s f slot.Successors span d = with_rs2 d f.rs2
put a s f slot.Address span d = d
put a s f slot.AddressThroughRd span d = d
put a s f slot.Constant span d = d

abbrev IsRead : Op → Slot → List Piece → (Span → Draft → Draft) → Type 0
IsRead o k ps g = (end at : ℕ) (d : Draft) → operand_of_slot o k (run_at end at ps) d ≡ Ok (g (run_at end at ps).span d)

rd_read : (o : Op) (n : ℕ) → is_in (classes_of (shape_of o)).rd n ≡ true → IsRead o slot.Rd (identifier_piece (register_name n)) (λ span d. with_rd d n)
rd_read o n h end at d =
    let e = register_named-name n (class_below (classes_of (shape_of o)).rd n h) in
    rw (e, h) refl

rs1_read : (o : Op) (n : ℕ) → is_in (classes_of (shape_of o)).rs1 n ≡ true → IsRead o slot.Rs1 (identifier_piece (register_name n)) (λ span d. with_rs1 d n)
rs1_read o n h end at d =
    let e = register_named-name n (class_below (classes_of (shape_of o)).rs1 n h) in
    rw (e, h) refl

rs2_read : (o : Op) (n : ℕ) → is_in (classes_of (shape_of o)).rs2 n ≡ true → IsRead o slot.Rs2 (identifier_piece (register_name n)) (λ span d. with_rs2 d n)
rs2_read o n h end at d =
    let e = register_named-name n (class_below (classes_of (shape_of o)).rs2 n h) in
    rw (e, h) refl

sp_read : (o : Op) → IsRead o slot.StackPointer (identifier_piece (register_name 2)) (λ span d. d)
sp_read o end at d = rw (register_named-name 2 (omega arith)) refl

immediate_number_read : (o : Op) (n : ℕ) (text : List ℕ) → number_of text ≡ Some n → IsRead o slot.Immediate (number_piece text) (waiting (tree.Number (pos n)) Immediate)
immediate_number_read o n text e end at d = rw e refl

immediate_value_read : (o : Op) (v : ℤ) → unsigned_abs v < 2 ^ 32 → IsRead o slot.Immediate (value_pieces v) (waiting (value_tree v) Immediate)
immediate_value_read o (pos n) h end at d = rw (number_decimal n (omega arith)) refl
immediate_value_read o (negsuc n) h end at d = rw (number_decimal (suc n) (omega arith)) refl

source_read : (o : Op) (n : ℕ) → n < 32 → IsRead o slot.SourceImmediate (number_piece (decimal n)) (waiting (tree.Number (pos n)) SourceImmediate)
source_read o n h end at d = rw (number_decimal n (omega arith)) refl

target_read : (o : Op) (n : ℕ) → n < 2 ^ 32 → IsRead o slot.Target (number_piece (hexadecimal_of 8 n)) (waiting (tree.Number (pos n)) Target)
target_read o n h end at d = rw (number_hex 8 n (omega arith) (omega arith) (omega arith)) refl

memory_read : (o : Op) (v : ℤ) (base : ℕ) → is_in (classes_of (shape_of o)).rs1 base ≡ true → unsigned_abs v < 2 ^ 32 → IsRead o slot.Memory (memory_pieces v base) (λ span d. waiting (value_tree v) Immediate span (with_rs1 d base))
memory_read o (pos n) base b h end at d =
    rw (register_named-name base (class_below (classes_of (shape_of o)).rs1 base b), number_decimal n (omega arith), b) refl
memory_read o (negsuc n) base b h end at d =
    rw (register_named-name base (class_below (classes_of (shape_of o)).rs1 base b), number_decimal (suc n) (omega arith), b) refl

base_read : (o : Op) (base : ℕ) → is_in (classes_of (shape_of o)).rs1 base ≡ true → IsRead o slot.Base (base_pieces base) (λ span d. with_rs1 d base)
base_read o base b end at d =
    rw (register_named-name base (class_below (classes_of (shape_of o)).rs1 base b), b) refl

memory_or_register_read : (o : Op) (v : ℤ) (base : ℕ) → is_in (classes_of (shape_of o)).rs1 base ≡ true → unsigned_abs v < 2 ^ 32 → IsRead o slot.MemoryOrRegister (memory_pieces v base) (λ span d. waiting (value_tree v) Immediate span (with_rs1 d base))
memory_or_register_read o (pos n) base b h end at d =
    rw (register_named-name base (class_below (classes_of (shape_of o)).rs1 base b), number_decimal n (omega arith), b) refl
memory_or_register_read o (negsuc n) base b h end at d =
    rw (register_named-name base (class_below (classes_of (shape_of o)).rs1 base b), number_decimal (suc n) (omega arith), b) refl

memory_or_address_read : (o : Op) (v : ℤ) (base : ℕ) → is_in (classes_of (shape_of o)).rs1 base ≡ true → unsigned_abs v < 2 ^ 32 → IsRead o slot.MemoryOrAddress (memory_pieces v base) (λ span d. waiting (value_tree v) Immediate span (with_rs1 d base))
memory_or_address_read o (pos n) base b h end at d =
    rw (register_named-name base (class_below (classes_of (shape_of o)).rs1 base b), number_decimal n (omega arith), b) refl
memory_or_address_read o (negsuc n) base b h end at d =
    rw (register_named-name base (class_below (classes_of (shape_of o)).rs1 base b), number_decimal (suc n) (omega arith), b) refl

stack_memory_read : (o : Op) (v : ℤ) → unsigned_abs v < 2 ^ 32 → IsRead o slot.StackMemory (memory_pieces v 2) (waiting (value_tree v) Immediate)
stack_memory_read o (pos n) h end at d = rw (register_named-name 2 (omega arith), number_decimal n (omega arith)) refl
stack_memory_read o (negsuc n) h end at d = rw (register_named-name 2 (omega arith), number_decimal (suc n) (omega arith)) refl

csr_read : (o : Op) (name : Option (List ℕ)) (n : ℕ) → IfSome name (λ text. csr_named text ≡ Some n) → n < 4096 → IsRead o slot.Csr (csr_pieces name n) (csr_put name n)
csr_read o None n h small end at d = rw (number_hex 3 n (omega arith) (omega arith) (omega arith)) refl
csr_read o (Some name) n h small end at d = rw h refl

predecessors_read : (o : Op) (n : ℕ) → is_in Set n ≡ true → IsRead o slot.Predecessors (identifier_piece (set_text (set_name n))) (λ span d. with_rs1 d n)
predecessors_read o n h end at d = rw (set_is n h).named refl

successors_read : (o : Op) (n : ℕ) → is_in Set n ≡ true → IsRead o slot.Successors (identifier_piece (set_text (set_name n))) (λ span d. with_rs2 d n)
successors_read o n h end at d = rw (set_is n h).named refl

immediate_read : (o : Op) (s : Shape) (v : ℤ) → unsigned_abs v < 2 ^ 32 → IsRead o slot.Immediate (immediate_pieces s v) (waiting (immediate_tree s v) Immediate)
immediate_read o shape.Upper v h = immediate_number_read o (unsigned_abs v) (hexadecimal (unsigned_abs v)) (number_hexadecimal (unsigned_abs v) (omega arith))
immediate_read o shape.CUpper v h = immediate_number_read o (unsigned_abs v) (hexadecimal (unsigned_abs v)) (number_hexadecimal (unsigned_abs v) (omega arith))
immediate_read o s v h = immediate_value_read o v h

-- each operand is read as the fields that it was written from
pub operand_read : (a : ℕ) (o : Op) (f : Fields) (k : Slot) → FitsSlot a (shape_of o) f k → (end at : ℕ) (d : Draft) → operand_of_slot o k (run_at end at (operand_pieces a (shape_of o) f k)) d ≡ Ok (put a (shape_of o) f k (run_at end at (operand_pieces a (shape_of o) f k)).span d)
operand_read a o f slot.Rd h = rd_read o f.rd h
operand_read a o f slot.Rs1 h = rs1_read o f.rs1 h
operand_read a o f slot.Rs2 h = rs2_read o f.rs2 h
operand_read a o f slot.StackPointer h = sp_read o
operand_read a o f slot.Immediate h = immediate_read o (shape_of o) f.value h
operand_read a o f slot.SourceImmediate h = source_read o f.rs1 h
operand_read a o f slot.Target h = target_read o (target_of a f.value) (target_below a f.value)
operand_read a o f slot.Memory h = memory_read o f.value f.rs1 h.0 h.1
operand_read a o f slot.StackMemory h = stack_memory_read o f.value h
operand_read a o f slot.Base h = base_read o f.rs1 h
operand_read a o f slot.MemoryOrRegister h = memory_or_register_read o f.value f.rs1 h.0 h.1
operand_read a o f slot.MemoryOrAddress h = memory_or_address_read o f.value f.rs1 h.0 h.1
operand_read a o f slot.Csr h = csr_read o (csr_name (unsigned_abs f.value)) (unsigned_abs f.value) (csr_named-name (unsigned_abs f.value)) h
operand_read a o f slot.Predecessors h = predecessors_read o f.rs1 h
operand_read a o f slot.Successors h = successors_read o f.rs2 h
operand_read a o f slot.Address h = absurd h
operand_read a o f slot.AddressThroughRd h = absurd h
operand_read a o f slot.Constant h = absurd h
