-- The encodings of instructions: RISC-V Unprivileged ISA 20191213, chapters 2, 3, 7, 8, 9 and 16.
use Rattle.std.specs.Prelude.{Bool, IsTrue, ◌&&◌, ◌==◌, not, nat_lt, nat_le, int_le, negsuc, Option, Some, None, ◌≡◌, ℕ, ℤ, pos, ◌+◌, ◌*◌, ◌/◌, ◌%◌, ◌^◌, List, [], ◌∷◌, if◌then◌else◌}
use Rattle.std.specs.Int.{cast_unsigned, to_le_bytes, w16, w32}
use Rattle.rv_ops.specs.Limits.{limit_fault}
use Rattle.rv_ops.specs.Table.{shape_of, fixed_of, is_full, classes_of, limits_of, slices_of}
use Rattle.rv_ops.specs.declared.layouts.FieldSlice.{FieldSlice}
use Rattle.rv_code.specs.declared.instruction.Fields.{Fields}
use Rattle.rv_ops.specs.declared.op.Op.{Op}
use Rattle.rv_ops.specs.declared.layouts.Field.{Field}
use Rattle.rv_ops.specs.declared.layouts.Field.TheVariants.{Rd, Rs1, Rs2, Value}
use Rattle.rv_ops.specs.declared.layouts.RegisterClass.{RegisterClass}
use Rattle.rv_ops.specs.declared.layouts.RegisterClass.TheVariants.{Absent, Any, NotZero, NotSp, Prime, Set}
use Rattle.rv_code.specs.declared.word.Word.{Word}
use Rattle.rv_code.specs.declared.word.Word.TheVariants.{Half, Full}

-- a field as a number of 32 bits, a negative value in two's complement
abbrev pub bits_of_field : Field → Fields → ℕ
bits_of_field Rd f = f.rd
bits_of_field Rs1 f = f.rs1
bits_of_field Rs2 f = f.rs2
bits_of_field Value f = cast_unsigned w32 f.value

-- the bits of a slice at their places in the word
abbrev pub bits_of_slice : Fields → FieldSlice → ℕ
bits_of_slice f s = (bits_of_field s.field f / 2 ^ s.field_bit % 2 ^ s.width) * 2 ^ s.word_bit

-- all of them together
abbrev pub bits_of_slices : Fields → List FieldSlice → ℕ
bits_of_slices f [] = 0
bits_of_slices f (s ∷ ss) = bits_of_slice f s + bits_of_slices f ss

-- the fixed bits of the row, and each slice of a field at its place
unfoldable pub encoding_of : Op → Fields → ℕ
encoding_of o f = fixed_of o + bits_of_slices f (slices_of (shape_of o))

-- as a word of thirty-two bits or of sixteen
unfoldable pub word_of : Op → Fields → Word
word_of o f = if is_full o then Full (encoding_of o f) else Half (encoding_of o f)

-- the bytes in memory, the lowest first (RISC-V Unprivileged ISA 20191213, section 1.5)
abbrev pub bytes_of_word : Word → List ℕ
bytes_of_word (Half n) = to_le_bytes w16 n
bytes_of_word (Full n) = to_le_bytes w32 n

-- the registers of a class; x0 stands for a register that the shape lacks, and the number of a register for
-- the bits of a set
abbrev pub is_in : RegisterClass → ℕ → Bool
is_in Absent n = n == 0
is_in Any n = nat_lt n 32
is_in NotZero n = nat_lt 0 n && nat_lt n 32
is_in NotSp n = nat_lt 0 n && nat_lt n 32 && not (n == 2)
is_in Prime n = nat_le 8 n && nat_lt n 16
is_in Set n = nat_lt 0 n && nat_lt n 16

-- the operation takes the fields
pub record Fits (o : Op) (f : Fields) : Type 0 where
  pub rd : IsTrue (is_in (classes_of (shape_of o)).rd f.rd)
  pub rs1 : IsTrue (is_in (classes_of (shape_of o)).rs1 f.rs1)
  pub rs2 : IsTrue (is_in (classes_of (shape_of o)).rs2 f.rs2)
  pub value : limit_fault (limits_of (shape_of o)) f.value ≡ None

-- the fields of `op rd, rs1, rs2`
abbrev pub register_fields : ℕ → ℕ → ℕ → Fields
register_fields rd rs1 rs2 = record { rd = rd; rs1 = rs1; rs2 = rs2; value = pos 0 }

-- the fields of `op rd, rs1, value`
abbrev pub immediate_fields : ℕ → ℕ → ℤ → Fields
immediate_fields rd rs1 v = record { rd = rd; rs1 = rs1; rs2 = 0; value = v }

-- twelve bits with a sign hold the value: -2048 to 2047 (RISC-V Unprivileged ISA 20191213, section 2.3)
abbrev pub is_immediate : ℤ → Bool
is_immediate v = int_le (negsuc 2047) v && int_le v (pos 2047)

-- the instruction `op rd, rs1, value`, if the value is an immediate
abbrev pub immediate_instruction : Op → ℕ → ℕ → ℤ → Option (Op × Fields)
immediate_instruction o rd rs1 v = if is_immediate v then Some (o, immediate_fields rd rs1 v) else None
