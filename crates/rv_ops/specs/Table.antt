-- The table of the operations and the layouts of their encodings, as contracts see them.
use denote.Enum.Declared.{tag_of}
use Rattle.std.specs.Prelude.{◌≡◌, ℕ, pos, ◌%◌, Bool, true, List, [], map, nat_eq, slice_index_or, Option}
use Rattle.std.specs.Str.{str_eq_ignore_ascii_case}
use Rattle.rv_ops.specs.Names.{first_named}
use Rattle.rv_ops.specs.declared.value_limits.Limits.{Limits}
use Rattle.rv_ops.specs.declared.op.Op.{Op}
use Rattle.rv_ops.specs.declared.op.Op.TheVariants as op
use Rattle.rv_ops.specs.declared.op.Shape.{Shape}
use Rattle.rv_ops.specs.declared.op.Shape.TheVariants as shape
use Rattle.rv_ops.specs.declared.layouts.Classes.{Classes}
use Rattle.rv_ops.specs.declared.layouts.FieldSlice.{FieldSlice}
use Rattle.rv_ops.specs.declared.layouts.RegisterClass.TheVariants.{Absent}
use Rattle.rv_ops.specs.declared.layouts.SignExtension.{SignExtension}
use Rattle.rv_ops.specs.contracts.op.Op.{the_type as op_type}
use Rattle.rv_ops.specs.contracts.op.Shape.{the_type as shape_type}
use Rattle.rv_ops.specs.declared.layouts.TheConstants.{LAYOUTS}
use Rattle.rv_ops.specs.declared.table.TheConstants.{TABLE}

-- an operation with its mnemonic, its shape, its fixed bits and their mask
abbrev pub Row : Type 0
Row = Op × (record { now : List ℕ }) × Shape × ℕ × ℕ

-- the place of an operation in the table, which is in the order of the operations
abbrev pub number_of : Op → ℕ
number_of o = tag_of op_type o

-- a row where there is none
abbrev pub no_row : Row
no_row = (op.Lui, record { now = [] }, shape.Upper, 0, 0)

-- the row of an operation
unfoldable pub row_of : Op → Row
row_of o = slice_index_or TABLE (number_of o) no_row

-- the mnemonic of an operation, in lower case
unfoldable pub operation_name : Op → List ℕ
operation_name o = (row_of o).1.now

-- the shape of an operation's instructions
abbrev pub shape_of : Op → Shape
shape_of o = (row_of o).2

-- the bits of its encodings that no field fills
abbrev pub fixed_of : Op → ℕ
fixed_of o = (row_of o).3

-- which bits of its encodings are fixed
abbrev pub mask_of : Op → ℕ
mask_of o = (row_of o).4

-- whether encodings with these fixed bits have 32 bits: the low two bits of a shorter one are not 11
-- (RISC-V Unprivileged ISA 20191213, section 1.5)
abbrev pub is_full_code : ℕ → Bool
is_full_code fixed = nat_eq (fixed % 4) 3

-- whether the encodings of an operation have 32 bits
abbrev pub is_full : Op → Bool
is_full o = is_full_code (fixed_of o)

-- the operation and the mnemonic of each row
unfoldable pub operation_names : List (Op × List ℕ)
operation_names = map (λ row. (row.0, row.1.now)) TABLE

-- the operation that has the mnemonic, in either letter case
unfoldable pub operation_named : List ℕ → Option Op
operation_named text = first_named operation_names text

-- the text is the mnemonic of the operation, in either letter case
abbrev pub IsNameOfOperation : Op → List ℕ → Type 0
IsNameOfOperation o text = str_eq_ignore_ascii_case (operation_name o) text ≡ true

-- a shape with the classes of its registers, the limits and the sign of its value, and the slices of its fields
abbrev pub Layout : Type 0
Layout = Shape × Classes × Limits × SignExtension × (record { now : List FieldSlice })

-- a layout where there is none
abbrev pub no_layout : Layout
no_layout = (
  shape.Upper,
  record { rd = Absent; rs1 = Absent; rs2 = Absent },
  record { least = pos 0; greatest = pos 0; multiple = 1; gap_first = pos 0; gap_last = pos 0 },
  record { greatest = pos 0; modulus = pos 0 },
  record { now = [] },
)

-- the layout of a shape: the table is in the order of the shapes
unfoldable pub layout_of : Shape → Layout
layout_of s = slice_index_or LAYOUTS (tag_of shape_type s) no_layout

-- the registers that the fields of a shape may be
abbrev pub classes_of : Shape → Classes
classes_of s = (layout_of s).1

-- the limits of a shape's value
abbrev pub limits_of : Shape → Limits
limits_of s = (layout_of s).2

-- the sign of a shape's value
abbrev pub sign_of : Shape → SignExtension
sign_of s = (layout_of s).3

-- the slices of the fields that fill a shape's encodings
abbrev pub slices_of : Shape → List FieldSlice
slices_of s = (layout_of s).4.now
