-- The code of a line has at most 65,536 bytes.
use Rattle.std.proofs.Common.{◌≡◌, ℕ, ℤ, ◌+◌, ◌≤◌, Bool, true, false, List, [], ◌∷◌, ◌++◌, length, Some, None, Result, Ok, Err, leb, if◌then◌else◌, arith, refl}
use Rattle.std.specs.Prelude.{pos, negsuc, ◌&&◌, ok_or}
use Rattle.std.proofs.lemmas.Bool.{leb-true, and_parts, true≢false}
use Rattle.std.proofs.lemmas.List.{length-append, length-replicate}
use Rattle.rv_text.specs.declared.faults.Fault.{Fault}
use Rattle.rv_text.specs.declared.faults.FaultNumber.TheVariants.{Range}
use Rattle.rv_text.specs.declared.lexeme.Span.{Span}
use Rattle.rv_ops.specs.Table.{is_full, shape_of, limits_of}
use Rattle.rv_code.specs.declared.instruction.Fields.{Fields}
use Rattle.rv_layout.specs.declared.measured.Measured.{Measured}
use Rattle.rv_layout.specs.declared.measured.Measured.TheVariants.{Bytes, Align, Switch, Nothing, Faulty}
use Rattle.rv_layout.specs.Shapes.{fill_size, value_at}
use Rattle.rv_stmt.specs.declared.directive.DataContent.{DataContent}
use Rattle.rv_stmt.specs.declared.directive.DataContent.TheVariants as content
use Rattle.rv_stmt.specs.declared.expansion.Instructions.{Instructions}
use Rattle.rv_stmt.specs.declared.expansion.Instructions.TheVariants.{One, Two}
use Rattle.rv_stmt.specs.declared.operand.Operand.{Operand}
use Rattle.rv_stmt.specs.declared.statement.Body.{Body}
use Rattle.rv_stmt.specs.declared.statement.Body.TheVariants as body
use Rattle.rv_stmt.specs.declared.statement.Instruction.{Instruction}
use Rattle.rv_stmt.specs.Data.{data_width, values_size, data_size}
use Rattle.rv_stmt.specs.Expansion.{expansion_of, instructions_of, is_constant_load, size_of_instructions}
use Rattle.rv_stmt.specs.Readings.{and_then}
use Rattle.rv_stmt.specs.Statement.{data_size_of}
use Rattle.rv_fix.specs.Code.{faulty_size, bytes_of_fields, code_or_zeros, code_of_data, code_of_count, code_of_fill, code_of_value, code_of_definition, code_of_body, code_of}
use Rattle.rv_fix.specs.Data.{in_width, low_bytes, with_values, fill_count, fill_byte}
use Rattle.rv_fix.specs.Filling.{filled}
use Rattle.rv_fix.specs.Limits.{is_alignment}
use Rattle.rv_fix.specs.Reports.{at_span, made_of}
use Rattle.rv_fix.specs.Values.{Entry}
use Rattle.rv_fix.proofs.Sizes.{length_instructions, length_low}

-- Instructions

word_small : (full : Bool) → (if full then 4 else 2) ≤ 4
word_small true = omega arith
word_small false = omega arith

instructions_small : (is : Instructions) → size_of_instructions is ≤ 65536
instructions_small (One i) = omega (arith, word_small (is_full i.op))
instructions_small (Two i j) = omega (arith, word_small (is_full i.op), word_small (is_full j.op))

none_or : (none : Bool) (n : ℕ) → n ≤ 65536 → (if none then 0 else n) ≤ 65536
none_or true n h = omega arith
none_or false n h = h

fields_small : (i : Instruction) (r : Result Fields Fault) → length (code_or_zeros (faulty_size i) (bytes_of_fields i r)).payload ≤ 65536
fields_small i (Ok f) = omega (arith, length_instructions (instructions_of i f), instructions_small (instructions_of i f))
fields_small i (Err fault) =
    let few = none_or (is_constant_load (expansion_of i.operands)) (size_of_instructions (instructions_of i i.fields)) (instructions_small (instructions_of i i.fields)) in
    omega (arith, length-replicate {A = ℕ} (faulty_size i) 0, few)

-- Data

value_small : (n : ℕ) (r : Result ℤ Fault) (then_ : ℤ → Result (List ℕ) Fault) → ((v : ℤ) → length (code_or_zeros n (then_ v)).payload ≤ n) → length (code_or_zeros n (and_then r then_)).payload ≤ n
value_small n (Ok v) then_ others = others v
value_small n (Err fault) then_ others = omega (arith, length-replicate {A = ℕ} n 0)

values_small : (n : ℕ) (os : List Operand) (es : List Entry) (bs : List ℕ) → length bs + values_size os ≤ n → length (code_or_zeros n (with_values os es bs)).payload ≤ n
values_small n [] es bs h = omega (arith, h)
values_small n (o ∷ os) [] bs h = omega (arith, h)
values_small n (o ∷ os) (e ∷ es) bs h =
    value_small n (made_of o e (in_width o.role)) (λ v. with_values os es (bs ++ low_bytes (data_width o.role) v))
    (λ v.
    let low = low_bytes (data_width o.role) v in
    values_small n os es (bs ++ low) (omega (arith, h, length-append bs low, length_low o.role v)))

data_small : (c : DataContent) (es : List Entry) → length (code_of_data c es).payload ≤ data_size c
data_small (content.Values os) es = values_small (values_size os) os es [] (omega arith)
data_small (content.Bytes bs) es = omega arith

-- Equal bytes

-- a number of bytes, where it has no fault
abbrev IsCount : Result ℕ Fault → Type 0
IsCount (Ok n) = n ≤ 65536
IsCount (Err fault) = Unit {0}

size_small : (within : Bool) (span : Span) (n : ℕ) → (within ≡ true → n ≤ 65536) → IsCount (at_span span (ok_or (if within then Some n else None) Range))
size_small true span n h = h refl
size_small false span n h = tt

counted : (span : Span) (v : ℤ) → IsCount (at_span span (ok_or (fill_size v) Range))
counted span (pos n) = size_small (leb 0 n && leb n 65536) span n (λ h. leb-true n 65536 (and_parts (leb 0 n) (leb n 65536) h).1)
counted span (negsuc n) = tt

count_small : (o : Operand) (e : Entry) → IsCount (fill_count o e)
count_small o (Ok v) = counted o.span v
count_small o (Err fault) = tt

byte_small : (n : ℕ) (byte : Result ℕ Fault) → n ≤ 65536 → length (code_of_count (Ok n) byte).payload ≤ 65536
byte_small n (Ok b) h = omega (arith, length-replicate n b, h)
byte_small n (Err fault) h = omega (arith, length-replicate {A = ℕ} n 0, h)

equal_small : (count byte : Result ℕ Fault) → IsCount count → length (code_of_count count byte).payload ≤ 65536
equal_small (Ok n) byte h = byte_small n byte h
equal_small (Err fault) byte h = omega arith

fill_small : (os : List Operand) (es : List Entry) → length (code_of_fill os es).payload ≤ 65536
fill_small [] es = omega arith
fill_small (o ∷ os) [] = omega arith
fill_small (o ∷ os) (e ∷ es) = equal_small (fill_count o e) (fill_byte os es) (count_small o e)

-- Definitions

nothing_small : (r : Result ℤ Fault) → length (code_of_value r (λ v. [])).payload ≤ 65536
nothing_small (Ok v) = omega arith
nothing_small (Err fault) = omega arith

definition_small : (os : List Operand) (es : List Entry) → length (code_of_definition os es).payload ≤ 65536
definition_small [] es = omega arith
definition_small (o ∷ os) [] = omega arith
definition_small (o ∷ os) (e ∷ es) = nothing_small (value_at o.span e)

-- Lines

body_small : (b : Body) (es : List Entry) → data_size_of b ≤ 65536 → is_alignment b ≡ false → length (code_of_body b es).payload ≤ 65536
body_small body.Empty es d a = omega arith
body_small (body.Instr i) es d a = fields_small i (filled (limits_of (shape_of i.op)) i.operands es i.fields)
body_small (body.Pseudo i) es d a = fields_small i (filled (limits_of (shape_of i.op)) i.operands es i.fields)
body_small (body.Emit e) es d a = omega (arith, data_small e.content es, d)
body_small (body.Fill f) es d a = fill_small f.operands es
body_small (body.Align f) es d a = absurd (true≢false a)
body_small (body.Switch s) es d a = omega arith
body_small (body.Equ f) es d a = definition_small f.operands es
body_small body.Ignored es d a = omega arith
body_small (body.Faulty fault) es d a = omega arith

pub code_small : (shape : Measured) (b : Body) (es : List Entry) → data_size_of b ≤ 65536 → is_alignment b ≡ false → length (code_of shape b es).payload ≤ 65536
code_small (Faulty fault) b es d a = omega arith
code_small (Bytes n) b es d a = body_small b es d a
code_small (Align e) b es d a = body_small b es d a
code_small (Switch s) b es d a = body_small b es d a
code_small Nothing b es d a = body_small b es d a
