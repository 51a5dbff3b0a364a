-- How long the texts of instructions can be.
use Rattle.std.proofs.Common.{◌≡◌, ℕ, ℤ, zero, suc, ◌+◌, ◌/◌, ◌%◌, ◌^◌, ◌<◌, ◌≤◌, ◌≤ℤ◌, pos, negsuc, true, false, List, [], ◌∷◌, ◌++◌, length, get_or, drop, map, Option, Some, None, refl, ap, ⊎_elim, arith, ltb, ltb-true, length-append}
use Rattle.std.specs.Prelude.{codes, unsigned_abs, int_le, slice_index_or, IfSome, IsTrue, nat_eq, nat_le, not, ◌&&◌, ◌==◌}
use Rattle.std.specs.Fmt.{digits, signed_decimal}
use Rattle.std.specs.List.{list_all}
use Rattle.std.proofs.lemmas.Bool.{cases_lt, and_parts, cond_both, eqb-true}
use Rattle.std.proofs.lemmas.List.{drop_more}
use Rattle.std.proofs.lemmas.Fmt.{length-decimal-le, length_signed_le}
use Rattle.std.proofs.lemmas.Int.{ints}
use Rattle.rv_text.specs.Rows.{hex, hex_digit}
use Rattle.rv_ops.specs.Csrs.{csr_name, csr_names}
use Rattle.rv_ops.specs.LimitLaws.{in_limits}
use Rattle.rv_ops.specs.Names.{first_name}
use Rattle.rv_ops.specs.Registers.{register_name}
use Rattle.rv_ops.specs.Table.{shape_of, operation_name, row_of, classes_of, limits_of, layout_of}
use Rattle.rv_ops.specs.declared.layouts.RegisterClass.{RegisterClass}
use Rattle.rv_ops.specs.declared.layouts.RegisterClass.TheVariants.{Absent, Any, NotZero, NotSp, Prime, Set}
use Rattle.rv_ops.specs.declared.op.Op.{Op}
use Rattle.rv_ops.specs.declared.op.Op.TheVariants.{Lui}
use Rattle.rv_ops.specs.declared.op.Shape.{Shape}
use Rattle.rv_ops.specs.declared.op.Shape.TheVariants.{Upper, CUpper}
use Rattle.rv_ops.specs.declared.registers.TheConstants.{REGISTERS}
use Rattle.rv_code.specs.declared.instruction.Fields.{Fields}
use Rattle.rv_code.specs.Encoding.{Fits, is_in}
use Rattle.rv_stmt.specs.declared.slots.Slot.{Slot}
use Rattle.rv_stmt.specs.declared.slots.Slot.TheVariants as slot
use Rattle.rv_stmt.specs.Forms.{slots_of}
use Rattle.rv_stmt.specs.Registers.{set_name, set_names}
use Rattle.rv_dis.specs.Text.{after_comma, after_name, target_of, csr_text, set_text, hexadecimal, immediate_text, base_text, memory_text, operand_text, instruction_text}
use Rattle.rv_text.specs.DigitLaws.{digits_last, digits_step}

-- names of at most so many bytes

row_name_test : (o : Op) → ltb (length (operation_name o)) 15 ≡ true
unfolding operation_name row_of
row_name_test Lui = refl
row_name_test _ = refl

short_at : (most : ℕ) (names : List (List ℕ)) (n : ℕ) → list_all (λ name. ltb (length name) (suc most)) names ≡ true → length (slice_index_or names n []) ≤ most
short_at most [] n h = omega arith
short_at most (x ∷ xs) zero h = omega (arith, ltb-true (length x) (suc most) (and_parts _ _ h).0)
short_at most (x ∷ xs) (suc n) h = short_at most xs n (and_parts _ _ h).1

register_names_test : list_all (λ name. ltb (length name) 5) (map (λ row. row.1.now) REGISTERS) ≡ true
register_names_test = refl

register_short : (n : ℕ) → length (register_name n) ≤ 4
unfolding register_name
register_short n = short_at 4 (map (λ row. row.1.now) REGISTERS) n register_names_test

first_short : (most : ℕ) (rows : List (ℕ × List ℕ)) (n : ℕ) → list_all (λ row. ltb (length row.1) (suc most)) rows ≡ true → IfSome (first_name rows n) (λ name. length name ≤ most)
first_short most [] n h = tt
first_short most (row ∷ rows) n h =
    let parts = and_parts (ltb (length row.1) (suc most)) (list_all (λ row. ltb (length row.1) (suc most)) rows) h in
    cond_both (nat_eq row.0 n) (Some row.1) (first_name rows n) (λ r. IfSome r (λ name. length name ≤ most)) (λ _. omega (arith, ltb-true (length row.1) (suc most) parts.0)) (λ _. first_short most rows n parts.1)

csr_names_test : list_all (λ row. ltb (length row.1) 17) csr_names ≡ true
unfolding csr_names
csr_names_test = refl

csr_name_short : (n : ℕ) → IfSome (csr_name n) (λ name. length name ≤ 16)
unfolding csr_name
csr_name_short n = first_short 16 csr_names n csr_names_test

set_names_test : list_all (λ row. ltb (length row.1) 5) set_names ≡ true
unfolding set_names
set_names_test = refl

set_name_short : (n : ℕ) → IfSome (set_name n) (λ name. length name ≤ 4)
unfolding set_name
set_name_short n = first_short 4 set_names n set_names_test

-- numbers

pub length-hex : (count n : ℕ) → length (hex count n) ≡ count
unfolding hex
length-hex zero n = refl
length-hex (suc count) n = omega (arith, length-append (hex count (n / 16)) (hex_digit (n % 16) ∷ []), length-hex count (n / 16))

digits_short : (k n : ℕ) → n < 16 ^ suc k → n < 2 ^ 32 → length (digits 16 false n) ≤ suc k
digits_short zero n fits small = omega (arith, ap length (digits_last false n (omega arith)))
digits_short (suc k) n fits small = ⊎_elim
    (λ l. omega (arith, ap length (digits_last false n l)))
    (λ l. omega (arith, ap length (digits_step false n l (omega (arith, small))), length-append (digits 16 false (n / 16)) (hex_digit (n % 16) ∷ []), digits_short k (n / 16) (omega arith) (omega arith)))
    (cases_lt n 16)

-- a value of thirty bits at most
record IsSmall (v : ℤ) : Type 0 where
  low : negsuc 1073741823 ≤ℤ v
  high : v ≤ℤ pos 1073741823

signed_short : (v : ℤ) → IsSmall v → length (signed_decimal v) ≤ 11
signed_short (pos n) h = length_signed_le 10 (pos n) (omega (arith, ints, h.high)) (omega (arith, ints, h.high))
signed_short (negsuc n) h = length_signed_le 10 (negsuc n) (omega (arith, ints, h.low)) (omega (arith, ints, h.low))

magnitude_small : (v : ℤ) → IsSmall v → unsigned_abs v < 2 ^ 32
magnitude_small (pos n) h = omega (arith, ints, h.high)
magnitude_small (negsuc n) h = omega (arith, ints, h.low)

hexadecimal_short : (n : ℕ) → n < 2 ^ 32 → length (hexadecimal n) ≤ 10
hexadecimal_short n h = omega (arith, digits_short 7 n (omega arith) h)

-- the fields of an instruction

least_test : (s : Shape) → int_le (negsuc 1073741823) (limits_of s).least ≡ true
unfolding layout_of
least_test Upper = refl
least_test _ = refl

greatest_test : (s : Shape) → int_le (limits_of s).greatest (pos 1073741823) ≡ true
unfolding layout_of
greatest_test Upper = refl
greatest_test _ = refl

value_small : (o : Op) (f : Fields) → Fits o f → IsSmall f.value
value_small o f h =
    let within = in_limits (limits_of (shape_of o)) f.value h.value in
    record {
      low = omega (arith, ints, within.low, least_test (shape_of o));
      high = omega (arith, ints, within.high, greatest_test (shape_of o));
    }

class_below : (c : RegisterClass) (n : ℕ) → IsTrue (is_in c n) → n < 32
class_below Absent n h = omega (arith, eqb-true n 0 h)
class_below Any n h = ltb-true n 32 h
class_below NotZero n h = ltb-true n 32 (and_parts (ltb 0 n) (ltb n 32) h).1
class_below NotSp n h = ltb-true n 32 (and_parts (ltb 0 n) (ltb n 32) (and_parts (ltb 0 n && ltb n 32) (not (n == 2)) h).0).1
class_below Prime n h = omega (arith, ltb-true n 16 (and_parts (nat_le 8 n) (ltb n 16) h).1)
class_below Set n h = omega (arith, ltb-true n 16 (and_parts (ltb 0 n) (ltb n 16) h).1)

-- operands

-- the most bytes of an operand
abbrev most_text : Slot → ℕ
most_text slot.Rd = 4
most_text slot.Rs1 = 4
most_text slot.Rs2 = 4
most_text slot.StackPointer = 4
most_text slot.Immediate = 11
most_text slot.SourceImmediate = 2
most_text slot.Target = 10
most_text slot.Memory = 17
most_text slot.StackMemory = 17
most_text slot.Base = 6
most_text slot.MemoryOrRegister = 17
most_text slot.MemoryOrAddress = 17
most_text slot.Csr = 16
most_text slot.Predecessors = 4
most_text slot.Successors = 4
most_text slot.Address = 0
most_text slot.AddressThroughRd = 0
most_text slot.Constant = 0

-- the most bytes of operands with what stands before each
abbrev most_texts : List Slot → ℕ
most_texts [] = 0
most_texts (s ∷ ss) = 2 + (most_text s + most_texts ss)

immediate_short : (s : Shape) (v : ℤ) → IsSmall v → length (immediate_text s v) ≤ 11
immediate_short Upper v h = omega (arith, hexadecimal_short (unsigned_abs v) (magnitude_small v h))
immediate_short CUpper v h = omega (arith, hexadecimal_short (unsigned_abs v) (magnitude_small v h))
immediate_short _ v h = signed_short v h

base_short : (base : ℕ) → length (base_text base) ≤ 6
base_short base = omega (arith, length-append (register_name base) (codes ")"), register_short base)

memory_short : (v : ℤ) (base : ℕ) → IsSmall v → length (memory_text v base) ≤ 17
memory_short v base h =
    omega (arith, length-append (signed_decimal v) (base_text base), signed_short v h, base_short base)

csr_short : (name : Option (List ℕ)) (n : ℕ) → IfSome name (λ name. length name ≤ 16) → length (csr_text name n) ≤ 16
csr_short None n h = omega (arith, length-hex 3 n)
csr_short (Some name) n h = h

set_short : (name : Option (List ℕ)) → IfSome name (λ name. length name ≤ 4) → length (set_text name) ≤ 4
set_short None h = omega arith
set_short (Some name) h = h

operand_short : (a : ℕ) (s : Shape) (f : Fields) (slot : Slot) → f.rs1 < 32 → IsSmall f.value → length (operand_text a s f slot) ≤ most_text slot
operand_short a s f slot.Rd r v = register_short f.rd
operand_short a s f slot.Rs1 r v = register_short f.rs1
operand_short a s f slot.Rs2 r v = register_short f.rs2
operand_short a s f slot.StackPointer r v = register_short 2
operand_short a s f slot.Immediate r v = immediate_short s f.value v
operand_short a s f slot.SourceImmediate r v = length-decimal-le 2 f.rs1 (omega arith) (omega arith) (omega arith)
operand_short a s f slot.Target r v = omega (arith, length-hex 8 (target_of a f.value))
operand_short a s f slot.Memory r v = memory_short f.value f.rs1 v
operand_short a s f slot.StackMemory r v = memory_short f.value 2 v
operand_short a s f slot.Base r v = base_short f.rs1
operand_short a s f slot.MemoryOrRegister r v = memory_short f.value f.rs1 v
operand_short a s f slot.MemoryOrAddress r v = memory_short f.value f.rs1 v
operand_short a s f slot.Csr r v = csr_short (csr_name (unsigned_abs f.value)) (unsigned_abs f.value) (csr_name_short (unsigned_abs f.value))
operand_short a s f slot.Predecessors r v = set_short (set_name f.rs1) (set_name_short f.rs1)
operand_short a s f slot.Successors r v = set_short (set_name f.rs2) (set_name_short f.rs2)
operand_short a s f slot.Address r v = omega arith
operand_short a s f slot.AddressThroughRd r v = omega arith
operand_short a s f slot.Constant r v = omega arith

-- whole texts

after_comma_short : (g : Slot → List ℕ) → ((s : Slot) → length (g s) ≤ most_text s) → (slots : List Slot) → length (after_comma (map g slots)) ≤ most_texts slots
after_comma_short g h [] = omega arith
after_comma_short g h (s ∷ ss) = omega (arith, length-append (g s) (after_comma (map g ss)), h s, after_comma_short g h ss)

after_name_short : (g : Slot → List ℕ) → ((s : Slot) → length (g s) ≤ most_text s) → (slots : List Slot) → length (after_name (map g slots)) ≤ most_texts slots
after_name_short g h [] = omega arith
after_name_short g h (s ∷ ss) = omega (arith, length-append (g s) (after_comma (map g ss)), h s, after_comma_short g h ss)

pub name_short : (o : Op) → length (operation_name o) ≤ 14
name_short o = omega (arith, ltb-true (length (operation_name o)) 15 (row_name_test o))

-- a mnemonic and its operands
row_test : (o : Op) → ltb (length (operation_name o) + most_texts (slots_of (shape_of o))) 41 ≡ true
unfolding operation_name row_of slots_of
row_test Lui = refl
row_test _ = refl

-- a row has room for the text of every instruction
pub text_short : (a : ℕ) (o : Op) (f : Fields) → Fits o f → length (instruction_text a o f) ≤ 40
unfolding instruction_text
text_short a o f h =
    let rs1 = class_below (classes_of (shape_of o)).rs1 f.rs1 h.rs1 in
    let each : (slot : Slot) → length (operand_text a (shape_of o) f slot) ≤ most_text slot = λ slot. operand_short a (shape_of o) f slot rs1 (value_small o f h) in
    let operands = map (operand_text a (shape_of o) f) (slots_of (shape_of o)) in
    omega (arith, length-append (operation_name o) (after_name operands), after_name_short (operand_text a (shape_of o) f) each (slots_of (shape_of o)), ltb-true (length (operation_name o) + most_texts (slots_of (shape_of o))) 41 (row_test o))

-- the first operand has room, with the space before it
pub first_fits : (name t rest whole : List ℕ) → (name ++ codes " " ++ t) ++ rest ≡ whole → length whole ≤ 40 → length name + (1 + length t) ≤ 40
first_fits name t rest whole e short =
    omega (arith, ap length e, length-append (name ++ codes " " ++ t) rest, length-append (name ++ codes " ") t, length-append name (codes " "))

-- the next operand has room, with the comma before it
pub next_fits : (g : Slot → List ℕ) (items : List Slot) (i : ℕ) (d : Slot) (out whole : List ℕ) → i < length items → out ++ after_comma (map g (drop i items)) ≡ whole → length whole ≤ 40 → length out + (2 + length (g (get_or items i d))) ≤ 40
next_fits g items i d out whole within so_far short =
    let rest = after_comma (map g (drop (i + 1) items)) in
    let t = g (get_or items i d) in
    let here : out ++ (codes ", " ++ (t ++ rest)) ≡ whole = rw (drop_more items i d within) at so_far in
    omega (arith, ap length here, length-append out (codes ", " ++ (t ++ rest)), length-append t rest)
