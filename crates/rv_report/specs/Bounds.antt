-- The values that an operand may have. (docs/LANGUAGE.md, Faults of values)
use Rattle.std.specs.Prelude.{ℕ, ℤ, pos, negsuc, int_le, Bool, ◌&&◌, List, [], ◌++◌, codes, if◌then◌else◌}
use Rattle.rv_ops.specs.declared.value_limits.Limits.{Limits}
use Rattle.rv_ops.specs.Table.{limits_of, shape_of}
use Rattle.rv_ops.specs.declared.op.Shape.{Shape}
use Rattle.rv_ops.specs.declared.op.Shape.TheVariants as shape
use Rattle.rv_stmt.specs.declared.operand.AlignmentUnit.TheVariants.{Bytes, Exponent}
use Rattle.rv_stmt.specs.declared.operand.DataWidth.TheVariants.{Byte, Half, Word}
use Rattle.rv_stmt.specs.declared.operand.Role.{Role}
use Rattle.rv_stmt.specs.declared.operand.Role.TheVariants.{Immediate, SourceImmediate, Target, PairTarget, Constant, Data, Size, FillByte, Alignment, Definition}
use Rattle.rv_stmt.specs.declared.statement.Body.{Body}
use Rattle.rv_stmt.specs.declared.statement.Body.TheVariants.{Instr, Pseudo}
use Rattle.rv_show.specs.declared.numbers.Notation.{Notation}
use Rattle.rv_show.specs.declared.numbers.Notation.TheVariants.{Decimal, Hexadecimal}
use Rattle.rv_show.specs.Numbers.{number_text}

-- all values from one to another
abbrev pub between : ℤ → ℤ → Limits
between least greatest =
    record { least = least; greatest = greatest; multiple = 1; gap_first = pos 1; gap_last = pos 0 }

-- those of 32 bits, with a sign or without
abbrev pub word : Limits
word = between (negsuc 0x7FFFFFFF) (pos 0xFFFFFFFF)

-- those that the operation of a body takes
abbrev pub limits_of_body : Body → Limits
limits_of_body (Instr i) = limits_of (shape_of i.op)
limits_of_body (Pseudo i) = limits_of (shape_of i.op)
limits_of_body body = word

-- those that an operand takes in its role
abbrev pub limits_in : Body → Role → Limits
limits_in body Immediate = limits_of_body body
limits_in body Target = limits_of_body body
limits_in body SourceImmediate = between (pos 0) (pos 31)
limits_in body (Data Byte) = between (negsuc 0x7F) (pos 0xFF)
limits_in body (Data Half) = between (negsuc 0x7FFF) (pos 0xFFFF)
limits_in body (Data Word) = word
limits_in body Constant = word
limits_in body Size = between (pos 0) (pos 65536)
limits_in body FillByte = between (negsuc 0x7F) (pos 0xFF)
limits_in body (Alignment Exponent) = between (pos 0) (pos 12)
limits_in body (Alignment Bytes) = between (pos 1) (pos 4096)
limits_in body PairTarget = word
limits_in body Definition = word

-- the value is from the least to the greatest
abbrev pub is_within : Limits → ℤ → Bool
is_within l value = int_le l.least value && int_le value l.greatest

-- How values are written

-- the upper 20 bits of a number are written in hexadecimal
abbrev pub notation_of : Shape → Notation
notation_of shape.Upper = Hexadecimal
notation_of shape.CUpper = Hexadecimal
notation_of s = Decimal

abbrev pub notation_of_body : Body → Notation
notation_of_body (Instr i) = notation_of (shape_of i.op)
notation_of_body (Pseudo i) = notation_of (shape_of i.op)
notation_of_body body = Decimal

-- how an operand's values are written, by its role
abbrev pub notation_in : Body → Role → Notation
notation_in body Immediate = notation_of_body body
notation_in body role = Decimal

-- from a value to another
unfoldable pub from_to : Notation → ℤ → ℤ → List ℕ
from_to notation first last = number_text notation first ++ (codes " to " ++ number_text notation last)

-- the values that are left out, if there are any
unfoldable pub gap_text : Notation → ℤ → ℤ → List ℕ
gap_text notation first last =
    if int_le first last then codes ", not " ++ (if int_le last first then number_text notation first else from_to notation first last) else []

unfoldable pub limits_text : Notation → Limits → List ℕ
limits_text notation l = from_to notation l.least l.greatest ++ gap_text notation l.gap_first l.gap_last
