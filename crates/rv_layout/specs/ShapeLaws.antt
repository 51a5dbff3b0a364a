-- Shapes are within the limits, and a size operand is an operand.
use Rattle.std.proofs.Common.{◌≡◌, ℕ, ℤ, ◌≤◌, ◌^◌, Bool, true, false, List, [], ◌∷◌, suc, length, Option, Some, None, Result, Ok, Err, leb, if◌then◌else◌, arith, refl}
use Rattle.std.specs.Prelude.{pos, negsuc, ◌&&◌}
use Rattle.std.specs.Ordering.{int_eq}
use Rattle.std.proofs.lemmas.Bool.{leb-true, and_parts}
use Rattle.rv_text.specs.declared.faults.Fault.{Fault}
use Rattle.rv_text.specs.declared.lexeme.Span.{Span}
use Rattle.rv_expr.specs.Value.{Environment}
use Rattle.rv_ops.specs.Table.{is_full}
use Rattle.rv_stmt.specs.declared.expansion.Instructions.{Instructions}
use Rattle.rv_stmt.specs.declared.expansion.Instructions.TheVariants.{One, Two}
use Rattle.rv_stmt.specs.declared.operand.AlignmentUnit.{AlignmentUnit}
use Rattle.rv_stmt.specs.declared.operand.AlignmentUnit.TheVariants as unit
use Rattle.rv_stmt.specs.declared.operand.Operand.{Operand}
use Rattle.rv_stmt.specs.declared.operand.OperandValue.{OperandValue}
use Rattle.rv_stmt.specs.declared.operand.OperandValue.TheVariants.{Plain}
use Rattle.rv_stmt.specs.declared.operand.Role.{Role}
use Rattle.rv_stmt.specs.declared.operand.Role.TheVariants.{Immediate, SourceImmediate, Target, PairTarget, Constant, Data, Size, FillByte, Alignment, Definition}
use Rattle.rv_stmt.specs.declared.statement.Body.{Body}
use Rattle.rv_stmt.specs.declared.statement.Body.TheVariants as body
use Rattle.rv_stmt.specs.declared.statement.Instruction.{Instruction}
use Rattle.rv_stmt.specs.Expansion.{instructions_of, size_of_instructions}
use Rattle.rv_stmt.specs.Statement.{operands_of, data_size_of}
use Rattle.rv_layout.specs.declared.measured.Measured.{Measured}
use Rattle.rv_layout.specs.Places.{IsLimited}
use Rattle.rv_layout.specs.Shapes.{constants, is_size, size_operand, constant_of_operand, is_loadable, with_value, load_size, fill_size, exponents, exponent_among, alignment_exponent, exponent_by_role, bytes_or_range, align_or_range, shape_by, shape_of_instructions, shape_of_fill, shape_of_alignment, shape_of, count_of_value, count_of_operand, size_operands}

-- a number, where there is one, is at most a bound
abbrev AtMost : ℕ → Option ℕ → Type 0
AtMost bound None = Unit {0}
AtMost bound (Some n) = n ≤ bound

guarded : (b : Bool) (bound n : ℕ) → (b ≡ true → n ≤ bound) → AtMost bound (if b then Some n else None)
guarded true bound n h = h refl
guarded false bound n h = tt

-- how many bytes instructions have

word_small : (b : Bool) → (if b then 4 else 2) ≤ 4
word_small true = omega arith
word_small false = omega arith

instructions_small : (is : Instructions) → size_of_instructions is ≤ 65536
instructions_small (One i) = omega (arith, word_small (is_full i.op))
instructions_small (Two i j) = omega (arith, word_small (is_full i.op), word_small (is_full j.op))

load_small : (i : Instruction) (z : ℤ) → AtMost 65536 (load_size i z)
load_small i z =
    guarded (is_loadable z) 65536
    (size_of_instructions (instructions_of i (with_value z i.fields)))
    (λ h. instructions_small (instructions_of i (with_value z i.fields)))

-- what fills and alignments take

fill_small : (z : ℤ) → AtMost 65536 (fill_size z)
fill_small (pos n) = guarded (leb 0 n && leb n 65536) 65536 n (λ h. leb-true n 65536 (and_parts (leb 0 n) (leb n 65536) h).1)
fill_small (negsuc n) = tt

abbrev AreSmall : List ℕ → Type 0
AreSmall [] = Unit {0}
AreSmall (e ∷ es) = (e ≤ 12) × AreSmall es

chosen : (b : Bool) (e : ℕ) (o : Option ℕ) → e ≤ 12 → AtMost 12 o → AtMost 12 (if b then Some e else o)
chosen true e o h k = h
chosen false e o h k = k

among_small : (es : List ℕ) (z : ℤ) → AreSmall es → AtMost 12 (exponent_among es z)
among_small [] z h = tt
among_small (e ∷ es) z h = chosen (int_eq z (pos (2 ^ e))) e (exponent_among es z) h.0 (among_small es z h.1)

exponents_small : AreSmall exponents
exponents_small =
    (omega arith, (omega arith, (omega arith, (omega arith, (omega arith, (omega arith, (omega arith, (omega arith, (omega arith, (omega arith, (omega arith, (omega arith, (omega arith, tt)))))))))))))

alignment_small : (u : AlignmentUnit) (z : ℤ) → AtMost 12 (alignment_exponent u z)
alignment_small unit.Bytes z = among_small exponents z exponents_small
alignment_small unit.Exponent (pos n) = guarded (leb 0 n && leb n 12) 12 n (λ h. leb-true n 12 (and_parts (leb 0 n) (leb n 12) h).1)
alignment_small unit.Exponent (negsuc n) = tt

role_small : (role : Role) (z : ℤ) → AtMost 12 (exponent_by_role role z)
role_small (Alignment u) z = alignment_small u z
role_small Immediate z = tt
role_small SourceImmediate z = tt
role_small Target z = tt
role_small PairTarget z = tt
role_small Constant z = tt
role_small (Data w) z = tt
role_small Size z = tt
role_small FillByte z = tt
role_small Definition z = tt

-- shapes

bytes_limited : (span : Span) (o : Option ℕ) → AtMost 65536 o → IsLimited (bytes_or_range span o)
bytes_limited span None h = tt
bytes_limited span (Some n) h = h

align_limited : (span : Span) (o : Option ℕ) → AtMost 12 o → IsLimited (align_or_range span o)
align_limited span None h = tt
align_limited span (Some n) h = h

shape_by_limited : (shape : ℤ → Measured) (r : Result ℤ Fault) → ((z : ℤ) → IsLimited (shape z)) → IsLimited (shape_by shape r)
shape_by_limited shape (Ok z) h = h z
shape_by_limited shape (Err fault) h = tt

instructions_limited : (given : Environment) (i : Instruction) (o : Option Operand) → IsLimited (shape_of_instructions given i o)
instructions_limited given i None = instructions_small (instructions_of i i.fields)
instructions_limited given i (Some o) =
    shape_by_limited (λ z. bytes_or_range o.span (load_size i z)) (constant_of_operand given o)
    (λ z. bytes_limited o.span (load_size i z) (load_small i z))

fill_limited : (given : Environment) (o : Option Operand) → IsLimited (shape_of_fill given o)
fill_limited given None = tt
fill_limited given (Some o) =
    shape_by_limited (λ z. bytes_or_range o.span (fill_size z)) (constant_of_operand given o)
    (λ z. bytes_limited o.span (fill_size z) (fill_small z))

alignment_limited : (given : Environment) (o : Option Operand) → IsLimited (shape_of_alignment given o)
alignment_limited given None = tt
alignment_limited given (Some o) =
    shape_by_limited (λ z. align_or_range o.span (exponent_by_role o.role z)) (constant_of_operand given o)
    (λ z. align_limited o.span (exponent_by_role o.role z) (role_small o.role z))

pub limited : (constant_of : List ℕ → Option ℤ) (b : Body) → data_size_of b ≤ 2 ^ 16 → IsLimited (shape_of constant_of b)
limited constant_of body.Empty h = tt
limited constant_of (body.Instr i) h = instructions_limited (constants constant_of) i (size_operand i.operands)
limited constant_of (body.Pseudo i) h = instructions_limited (constants constant_of) i (size_operand i.operands)
limited constant_of (body.Emit d) h = omega (arith, h)
limited constant_of (body.Fill d) h = fill_limited (constants constant_of) (size_operand d.operands)
limited constant_of (body.Align d) h = alignment_limited (constants constant_of) (size_operand d.operands)
limited constant_of (body.Switch s) h = tt
limited constant_of (body.Equ d) h = tt
limited constant_of body.Ignored h = tt
limited constant_of (body.Faulty fault) h = tt

-- size operands

one_value : (v : OperandValue) → count_of_value v ≤ 1
one_value (Plain e) = omega arith
one_value v = omega arith

one : (o : Option Operand) → count_of_operand o ≤ 1
one None = omega arith
one (Some o) = one_value o.value

pub at_most_one : (b : Body) → size_operands b ≤ 1
at_most_one body.Empty = omega arith
at_most_one (body.Instr i) = one (size_operand i.operands)
at_most_one (body.Pseudo i) = one (size_operand i.operands)
at_most_one (body.Emit d) = omega arith
at_most_one (body.Fill d) = one (size_operand d.operands)
at_most_one (body.Align d) = one (size_operand d.operands)
at_most_one (body.Switch s) = omega arith
at_most_one (body.Equ d) = omega arith
at_most_one body.Ignored = omega arith
at_most_one (body.Faulty fault) = omega arith

-- where the first operand may be the one, and the others have no more than so many
first_or : (b : Bool) (o : Operand) (rest : Option Operand) (n : ℕ) → count_of_operand rest ≤ n → count_of_operand (if b then Some o else rest) ≤ suc n
first_or true o rest n h = let few = one_value o.value in omega (arith, few)
first_or false o rest n h = omega (arith, h)

-- the size operand is among the operands
pub among : (os : List Operand) → count_of_operand (size_operand os) ≤ length os
among [] = omega arith
among (o ∷ os) = first_or (is_size o.role) o (size_operand os) (length os) (among os)

pub among_operands : (b : Body) → size_operands b ≤ length (operands_of b)
among_operands body.Empty = omega arith
among_operands (body.Instr i) = among i.operands
among_operands (body.Pseudo i) = among i.operands
among_operands (body.Emit d) = omega arith
among_operands (body.Fill d) = among d.operands
among_operands (body.Align d) = among d.operands
among_operands (body.Switch s) = omega arith
among_operands (body.Equ d) = omega arith
among_operands body.Ignored = omega arith
among_operands (body.Faulty fault) = omega arith
