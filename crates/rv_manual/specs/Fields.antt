-- The fields of encodings: each stretch of one is a slice of the layout of its shape, or a stretch of fixed bits.
use denote.Enum.Declared.{tag_of}
use Rattle.std.specs.Prelude.{◌≡◌, ℕ, zero, suc, ◌+◌, ◌-◌, ◌*◌, ◌/◌, ◌%◌, ◌^◌, Bool, nat_eq, nat_le, ◌&&◌, List, [], ◌∷◌, map, slice_index_or, Option, Some, None, if◌then◌else◌}
use Rattle.rv_ops.specs.declared.op.Op.{Op}
use Rattle.rv_ops.specs.declared.op.Op.TheVariants.{FenceTso, FenceI, CNop, CMv}
use Rattle.rv_ops.specs.declared.layouts.Field.{Field}
use Rattle.rv_ops.specs.declared.layouts.Field.TheVariants as field
use Rattle.rv_ops.specs.declared.layouts.FieldSlice.{FieldSlice}
use Rattle.rv_ops.specs.contracts.op.Shape.{the_type as shape_type}
use Rattle.rv_ops.specs.Table.{is_full, shape_of, slices_of}
use Rattle.rv_code.specs.declared.instruction.Fields.{Fields}
use Rattle.rv_code.specs.Encoding.{encoding_of}
use Rattle.rv_code.specs.declared.word.Word.{Word}
use Rattle.rv_code.specs.declared.word.Word.TheVariants.{Half, Full}
use Rattle.rv_manual.specs.declared.formats.FieldName.{FieldName}
use Rattle.rv_manual.specs.declared.formats.FieldName.TheVariants as name
use Rattle.rv_manual.specs.declared.formats.FieldNames.{FieldNames}
use Rattle.rv_manual.specs.declared.formats.Stretch.{Stretch}
use Rattle.rv_manual.specs.declared.formats.TheConstants.{FORMATS}
use Rattle.rv_manual.specs.declared.fields.EncodedField.{EncodedField}

-- what the fields of a layout are called, and the stretches of fixed bits
abbrev pub Format : Type 0
Format = FieldNames × (record { now : List Stretch })

-- a format where there is none
abbrev pub no_format : Format
no_format = (record { rd = name.Rd; rs1 = name.Rs1; rs2 = name.Rs2; value = name.Imm; value_bit = 0 }, record { now = [] })

-- the place of the format of an operation: that of its shape, but for those with one of their own
abbrev pub format_number : Op → ℕ
format_number FenceTso = 33
format_number FenceI = 34
format_number CNop = 35
format_number CMv = 36
format_number o = tag_of shape_type (shape_of o)

-- the format of an operation
unfoldable pub format_of : Op → Format
format_of o = slice_index_or FORMATS (format_number o) no_format

-- what a field of the layout is called
abbrev pub name_of_field : FieldNames → Field → FieldName
name_of_field names field.Rd = names.rd
name_of_field names field.Rs1 = names.rs1
name_of_field names field.Rs2 = names.rs2
name_of_field names field.Value = names.value

-- the bit of the field, as it is called, for which bit 0 of the field of the layout stands
abbrev pub first_bit : FieldNames → Field → ℕ
first_bit names field.Rd = 0
first_bit names field.Rs1 = 0
first_bit names field.Rs2 = 0
first_bit names field.Value = names.value_bit

-- the stretch that a slice is
abbrev pub stretch_of_slice : FieldNames → FieldSlice → Stretch
stretch_of_slice names s = record {
  name = name_of_field names s.field;
  field_bit = first_bit names s.field + s.field_bit;
  width = s.width;
  word_bit = s.word_bit;
}

-- a stretch is within 32 bits
abbrev pub is_stretch : Stretch → Bool
is_stretch s = nat_le (s.width + s.word_bit) 32 && (nat_le 1 s.width && nat_le s.width 31)

-- the slice that ends below a bit
abbrev pub slice_below : (end : ℕ) → List FieldSlice → Option FieldSlice
slice_below end [] = None
slice_below end (s ∷ ss) = if nat_eq (s.word_bit + s.width) end then Some s else slice_below end ss

-- the stretch of fixed bits that ends below a bit
abbrev pub fixed_below : (end : ℕ) → List Stretch → Option Stretch
fixed_below end [] = None
fixed_below end (s ∷ ss) = if nat_eq (s.word_bit + s.width) end then Some s else fixed_below end ss

-- the first of two, as the stretch that it is
abbrev pub stretch_or : FieldNames → Option FieldSlice → Option Stretch → Option Stretch
stretch_or names None other = other
stretch_or names (Some s) other = Some (stretch_of_slice names s)

-- the stretch of an operation's encodings that ends below a bit
unfoldable pub stretch_below : Op → (end : ℕ) → Option Stretch
stretch_below o end =
    stretch_or (format_of o).0 (slice_below end (slices_of (shape_of o))) (fixed_below end (format_of o).1.now)

-- a stretch before others, if there is one
abbrev pub before : Option Stretch → List Stretch → List Stretch
before None ss = ss
before (Some s) ss = s ∷ ss

-- the stretches that end below the bits from one on, down to bit 0
abbrev pub stretches_below : Op → (end : ℕ) → List Stretch
stretches_below o zero = []
stretches_below o (suc n) = before (stretch_below o (suc n)) (stretches_below o n)

-- how many bits the encodings of an operation have
abbrev pub size_of : Op → ℕ
size_of o = if is_full o then 32 else 16

-- the stretches of an operation's encodings, from the highest bit on
unfoldable pub stretches_of : Op → List Stretch
stretches_of o = stretches_below o (size_of o)

-- the field that a stretch of a word is
abbrev pub field_of : (word : ℕ) → Stretch → EncodedField
field_of word s = record { stretch = s; bits = word / 2 ^ s.word_bit % 2 ^ s.width }

-- the fields of an instruction, from the highest bit on
unfoldable pub fields_of : Op → Fields → List EncodedField
fields_of o f = map (field_of (encoding_of o f)) (stretches_of o)

-- fields one after another, each of which ends where the one before it begins, from below a bit down to bit 0
abbrev pub covers : (end : ℕ) → List EncodedField → Bool
covers end [] = nat_eq end 0
covers end (f ∷ fs) = nat_le 1 f.stretch.width && (nat_eq (f.stretch.width + f.stretch.word_bit) end && covers f.stretch.word_bit fs)

-- the bits of some fields at their places, together
abbrev pub bits_together : List EncodedField → ℕ
bits_together [] = 0
bits_together (f ∷ fs) = f.bits * 2 ^ f.stretch.word_bit + bits_together fs

-- the bits of some stretches
abbrev pub bits_of_stretches : List Stretch → ℕ
bits_of_stretches [] = 0
bits_of_stretches (s ∷ ss) = (2 ^ s.width - 1) * 2 ^ s.word_bit + bits_of_stretches ss

-- a number of so many bytes is the word
abbrev pub IsWord : (number size : ℕ) → Word → Type 0
IsWord number size (Half n) = (size ≡ 2) × (n ≡ number)
IsWord number size (Full n) = (size ≡ 4) × (n ≡ number)
