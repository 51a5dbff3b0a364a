-- The shapes of lines, by their statements and the constants that they see. (docs/LANGUAGE.md, Layout)
use Rattle.std.specs.Prelude.{ℕ, ℤ, pos, negsuc, ◌^◌, unsigned_abs, ◌&&◌, int_le, Bool, true, false, List, [], ◌∷◌, Option, Some, None, Result, Ok, Err, if◌then◌else◌}
use Rattle.std.specs.Ordering.{int_eq}
use Rattle.rv_text.specs.declared.faults.Fault.{Fault}
use Rattle.rv_text.specs.declared.faults.FaultNumber.TheVariants.{Range}
use Rattle.rv_text.specs.declared.lexeme.Span.{Span}
use Rattle.rv_expr.specs.declared.faults.ValueFault.{ValueFault}
use Rattle.rv_expr.specs.declared.faults.ValueFault.TheVariants.{NotConstant}
use Rattle.rv_expr.specs.Faults.{line_fault}
use Rattle.rv_expr.specs.Value.{Environment, value_of}
use Rattle.rv_code.specs.declared.instruction.Fields.{Fields}
use Rattle.rv_stmt.specs.declared.operand.AlignmentUnit.{AlignmentUnit}
use Rattle.rv_stmt.specs.declared.operand.AlignmentUnit.TheVariants as unit
use Rattle.rv_stmt.specs.declared.operand.Operand.{Operand}
use Rattle.rv_stmt.specs.declared.operand.OperandValue.{OperandValue}
use Rattle.rv_stmt.specs.declared.operand.OperandValue.TheVariants.{Plain}
use Rattle.rv_stmt.specs.declared.operand.Role.{Role}
use Rattle.rv_stmt.specs.declared.operand.Role.TheVariants as role
use Rattle.rv_stmt.specs.declared.statement.Body.{Body}
use Rattle.rv_stmt.specs.declared.statement.Body.TheVariants as body
use Rattle.rv_stmt.specs.declared.statement.Instruction.{Instruction}
use Rattle.rv_stmt.specs.Data.{data_size}
use Rattle.rv_stmt.specs.Draft.{fields}
use Rattle.rv_stmt.specs.Expansion.{instructions_of, size_of_instructions}
use Rattle.rv_stmt.specs.ValueParts.{signed_word}
use Rattle.rv_layout.specs.declared.measured.Measured.{Measured}
use Rattle.rv_layout.specs.declared.measured.Measured.TheVariants.{Bytes, Align, Switch, Nothing, Faulty}

-- Constants

abbrev pub or_not_constant : Option ℤ → Result ℤ ValueFault
or_not_constant None = Err NotConstant
or_not_constant (Some z) = Ok z

-- what a constant may hold: numbers, and the names that are constants themselves
abbrev pub constants : (List ℕ → Option ℤ) → Environment
constants constant_of = record {
  symbol = λ name. or_not_constant (constant_of name);
  local = λ number direction. Err NotConstant;
  here = Err NotConstant;
  paired_high = λ label. Err NotConstant;
}

-- an operand that has to be a constant, since the size of its line follows from it
abbrev pub is_size : Role → Bool
is_size role.Constant = true
is_size role.Size = true
is_size (role.Alignment u) = true
is_size role = false

-- the size operand: the first of these
abbrev pub size_operand : List Operand → Option Operand
size_operand [] = None
size_operand (o ∷ os) = if is_size o.role then Some o else size_operand os

abbrev pub value_of_constant : Environment → OperandValue → Result ℤ ValueFault
value_of_constant given (Plain e) = value_of given e
value_of_constant given v = Err NotConstant

-- the value of an operand, or its fault
abbrev pub value_at : Span → Result ℤ ValueFault → Result ℤ Fault
value_at span (Ok z) = Ok z
value_at span (Err fault) = Err (record { number = line_fault fault; span = span })

-- the constant that an operand is, or the first fault of its value, at the operand
abbrev pub constant_of_operand : Environment → Operand → Result ℤ Fault
constant_of_operand given o = value_at o.span (value_of_constant given o.value)

-- Sizes

-- a register can be loaded with a number from -2 ^ 31 to 2 ^ 32 - 1
abbrev pub is_loadable : ℤ → Bool
is_loadable z = int_le (negsuc 0x7FFFFFFF) z && int_le z (pos 0xFFFFFFFF)

-- the fields of an instruction with a value, of which they hold 32 bits with a sign
abbrev pub with_value : ℤ → Fields → Fields
with_value v f = fields f.rd f.rs1 f.rs2 (signed_word v)

-- how many bytes load a constant
abbrev pub load_size : Instruction → ℤ → Option ℕ
load_size i z =
    if is_loadable z
    then Some (size_of_instructions (instructions_of i (with_value z i.fields)))
    else None

-- how many bytes are filled: 0 to 65,536
abbrev pub fill_size : ℤ → Option ℕ
fill_size z = if int_le (pos 0) z && int_le z (pos 65536) then Some (unsigned_abs z) else None

-- the exponents of the powers of two from 1 to 4096
abbrev pub exponents : List ℕ
exponents = 0 ∷ 1 ∷ 2 ∷ 3 ∷ 4 ∷ 5 ∷ 6 ∷ 7 ∷ 8 ∷ 9 ∷ 10 ∷ 11 ∷ 12 ∷ []

-- the first of some exponents whose power of two a number is
abbrev pub exponent_among : List ℕ → ℤ → Option ℕ
exponent_among [] z = None
exponent_among (e ∷ es) z = if int_eq z (pos (2 ^ e)) then Some e else exponent_among es z

-- the exponent of an alignment to 1 to 4096 bytes
abbrev pub alignment_exponent : AlignmentUnit → ℤ → Option ℕ
alignment_exponent unit.Bytes z = exponent_among exponents z
alignment_exponent unit.Exponent z = if int_le (pos 0) z && int_le z (pos 12) then Some (unsigned_abs z) else None

-- an alignment's operand says what its number is
abbrev pub exponent_by_role : Role → ℤ → Option ℕ
exponent_by_role (role.Alignment u) z = alignment_exponent u z
exponent_by_role role z = None

-- Shapes

abbrev pub bytes_or_range : Span → Option ℕ → Measured
bytes_or_range span (Some n) = Bytes n
bytes_or_range span None = Faulty (record { number = Range; span = span })

abbrev pub align_or_range : Span → Option ℕ → Measured
align_or_range span (Some e) = Align e
align_or_range span None = Faulty (record { number = Range; span = span })

-- the shape that a constant gives, or the fault in its place
abbrev pub shape_by : (ℤ → Measured) → Result ℤ Fault → Measured
shape_by shape (Ok z) = shape z
shape_by shape (Err fault) = Faulty fault

-- the instructions that a line stands for: those of its fields, with the constant where it loads one
abbrev pub shape_of_instructions : Environment → Instruction → Option Operand → Measured
shape_of_instructions given i None = Bytes (size_of_instructions (instructions_of i i.fields))
shape_of_instructions given i (Some o) =
    shape_by (λ z. bytes_or_range o.span (load_size i z)) (constant_of_operand given o)

abbrev pub shape_of_fill : Environment → Option Operand → Measured
shape_of_fill given None = Nothing
shape_of_fill given (Some o) = shape_by (λ z. bytes_or_range o.span (fill_size z)) (constant_of_operand given o)

abbrev pub shape_of_alignment : Environment → Option Operand → Measured
shape_of_alignment given None = Nothing
shape_of_alignment given (Some o) =
    shape_by (λ z. align_or_range o.span (exponent_by_role o.role z)) (constant_of_operand given o)

-- the shape of a line with this body, where names have these constants
abbrev pub shape_of : (List ℕ → Option ℤ) → Body → Measured
shape_of constant_of body.Empty = Nothing
shape_of constant_of (body.Instr i) = shape_of_instructions (constants constant_of) i (size_operand i.operands)
shape_of constant_of (body.Pseudo i) = shape_of_instructions (constants constant_of) i (size_operand i.operands)
shape_of constant_of (body.Emit d) = Bytes (data_size d.content)
shape_of constant_of (body.Fill d) = shape_of_fill (constants constant_of) (size_operand d.operands)
shape_of constant_of (body.Align d) = shape_of_alignment (constants constant_of) (size_operand d.operands)
shape_of constant_of (body.Switch s) = Switch s
shape_of constant_of (body.Equ d) = Nothing
shape_of constant_of body.Ignored = Nothing
shape_of constant_of (body.Faulty fault) = Faulty fault

-- how many expressions are computed for the shape: that of the size operand, unless it has a modifier
abbrev pub count_of_value : OperandValue → ℕ
count_of_value (Plain e) = 1
count_of_value value = 0

abbrev pub count_of_operand : Option Operand → ℕ
count_of_operand None = 0
count_of_operand (Some o) = count_of_value o.value

abbrev pub size_operands : Body → ℕ
size_operands (body.Instr i) = count_of_operand (size_operand i.operands)
size_operands (body.Pseudo i) = count_of_operand (size_operand i.operands)
size_operands (body.Fill d) = count_of_operand (size_operand d.operands)
size_operands (body.Align d) = count_of_operand (size_operand d.operands)
size_operands body = 0
