-- Reading a word as an instruction of an operation. No public contract cites these definitions: they serve the
-- private steps of decoding.
use denote.Enum.Declared.{tag_of}
use Rattle.std.specs.Prelude.{◌≡◌, ℕ, ℤ, pos, ◌+◌, ◌-◌, ◌*◌, ◌/◌, ◌%◌, ◌^◌, ◌-ℤ◌, List, [], ◌∷◌, Bool, ◌&&◌, ◌||◌, nat_eq, nat_lt, slice_index_or, int_lt, cond, bit_and}
use Rattle.rv_ops.specs.declared.op.Op.{Op}
use Rattle.rv_ops.specs.declared.op.Shape.{Shape}
use Rattle.rv_ops.specs.declared.layouts.Field.{Field}
use Rattle.rv_ops.specs.declared.layouts.Field.TheVariants.{Rd, Rs1, Rs2, Value}
use Rattle.rv_ops.specs.declared.layouts.RegisterClass.{RegisterClass}
use Rattle.rv_ops.specs.declared.layouts.RegisterClass.TheVariants.{Absent, Any, NotZero, NotSp, Prime, Set}
use Rattle.rv_ops.specs.contracts.layouts.Field.{the_type as field_type}
use Rattle.rv_ops.specs.declared.layouts.FieldSlice.{FieldSlice}
use Rattle.rv_ops.specs.declared.layouts.SignExtension.{SignExtension}
use Rattle.rv_ops.specs.Table.{Row, fixed_of, is_full, mask_of, shape_of, classes_of, sign_of, slices_of}
use Rattle.rv_code.specs.declared.instruction.Fields.{Fields}
use Rattle.rv_code.specs.Encoding.{Fits}

-- the bits of a slice at their places in the field, if it is a slice of this one
abbrev pub bits_from_slice : Field → ℕ → FieldSlice → ℕ
bits_from_slice field w s =
    cond (nat_eq (tag_of field_type field) (tag_of field_type s.field)) ((w / 2 ^ s.word_bit % 2 ^ s.width) * 2 ^ s.field_bit) 0

-- the number of a field, in a list of one for each in their order
abbrev pub number_at : Field → List ℕ → ℕ
number_at field numbers = slice_index_or numbers (tag_of field_type field) 0

-- all of them together
abbrev pub gathered : Field → ℕ → List FieldSlice → ℕ
gathered field w [] = 0
gathered field w (s ∷ ss) = bits_from_slice field w s + gathered field w ss

-- the register for which the bits 0 stand
abbrev pub first_of : RegisterClass → ℕ
first_of Absent = 0
first_of Any = 0
first_of NotZero = 0
first_of NotSp = 0
first_of Prime = 8
first_of Set = 0

-- the value for which a number in the word stands
abbrev pub value_of : SignExtension → ℕ → ℤ
value_of s n = cond (int_lt s.greatest (pos n)) (pos n -ℤ s.modulus) (pos n)

-- the fields that a word has by the layout of a shape
unfoldable pub fields_at : Shape → ℕ → Fields
fields_at s w = record {
  rd = first_of (classes_of s).rd + gathered Rd w (slices_of s);
  rs1 = first_of (classes_of s).rs1 + gathered Rs1 w (slices_of s);
  rs2 = first_of (classes_of s).rs2 + gathered Rs2 w (slices_of s);
  value = value_of (sign_of s) (gathered Value w (slices_of s));
}

-- the operation takes the fields that the word has by its shape
abbrev pub IsWordOf : Op → ℕ → Type 0
IsWordOf o w = Fits o (fields_at (shape_of o) w)

-- an operation with its fixed bits and their mask
abbrev pub Code : Type 0
Code = Op × ℕ × ℕ

-- the operation of a row of the table, its fixed bits and their mask
abbrev pub code_of : Row → Code
code_of row = (row.0, row.3, row.4)

-- the fixed bits and the mask are those of the operation, and the word has no more bits than its encodings
abbrev pub is_code_for : ℕ → Code → Bool
is_code_for w c = nat_eq c.1 (fixed_of c.0) && (nat_eq c.2 (mask_of c.0) && (is_full c.0 || nat_lt w (2 ^ 16)))

-- no operation whose fixed bits the word has takes the fields of the word
abbrev pub IsWordOfNone : List Code → ℕ → Type 0
IsWordOfNone [] w = Unit
IsWordOfNone (c ∷ cs) w = (bit_and w c.2 ≡ c.1 → IsWordOf c.0 w → ⊥) × IsWordOfNone cs w

-- the most that a slice can give a field
abbrev pub most_from_slice : Field → FieldSlice → ℕ
most_from_slice field s =
    cond (nat_eq (tag_of field_type field) (tag_of field_type s.field)) (2 ^ s.width * 2 ^ s.field_bit - 2 ^ s.field_bit) 0

-- the most that the slices of a field add up to
abbrev pub reach : Field → List FieldSlice → ℕ
reach field [] = 0
reach field (s ∷ ss) = most_from_slice field s + reach field ss
