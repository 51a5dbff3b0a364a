-- How many bytes codes have.
use Rattle.std.proofs.Common.{◌≡◌, ℕ, ℤ, ◌+◌, Bool, true, false, List, [], ◌∷◌, ◌++◌, length, Result, Ok, Err, arith, refl, ◌∙◌}
use Rattle.std.proofs.lemmas.List.{length-append, length-replicate}
use Rattle.std.specs.Prelude.{cond}
use Rattle.rv_text.specs.declared.faults.Fault.{Fault}
use Rattle.rv_ops.specs.Table.{is_full, shape_of, limits_of}
use Rattle.rv_ops.specs.declared.op.Op.{Op}
use Rattle.rv_code.specs.declared.instruction.Fields.{Fields}
use Rattle.rv_code.specs.declared.word.Word.TheVariants.{Half, Full}
use Rattle.rv_code.specs.Encoding.{word_of, bytes_of_word, encoding_of}
use Rattle.rv_stmt.specs.declared.directive.DataContent.{DataContent}
use Rattle.rv_stmt.specs.declared.directive.DataContent.TheVariants.{Values, Bytes}
use Rattle.rv_stmt.specs.declared.expansion.Instructions.{Instructions}
use Rattle.rv_stmt.specs.declared.expansion.Instructions.TheVariants.{One, Two}
use Rattle.rv_stmt.specs.declared.operand.DataWidth.TheVariants.{Byte, Half as HalfWidth, Word}
use Rattle.rv_stmt.specs.declared.operand.Operand.{Operand}
use Rattle.rv_stmt.specs.declared.operand.Role.{Role}
use Rattle.rv_stmt.specs.declared.operand.Role.TheVariants as role
use Rattle.rv_stmt.specs.declared.statement.Instruction.{Instruction}
use Rattle.rv_stmt.specs.Data.{data_width, values_size, data_size}
use Rattle.rv_stmt.specs.Expansion.{expansion_of, instructions_of, is_constant_load, size_of_word, size_of_instructions}
use Rattle.rv_stmt.specs.Readings.{and_then}
use Rattle.rv_stmt.specs.Statement.{operands_of_content}
use Rattle.rv_fix.specs.Code.{bytes_of_instruction, bytes_of_instructions, faulty_size, bytes_of_fields, code_or_zeros, code_of_instruction, code_of_data, code_of_count, code_of_fill}
use Rattle.rv_fix.specs.Data.{in_width, low_bytes, with_values, fill_count, fill_byte}
use Rattle.rv_fix.specs.Filling.{filled}
use Rattle.rv_fix.specs.Reports.{made_of}
use Rattle.rv_fix.specs.Values.{Entry}

-- Instructions

sized : (full : Bool) (n : ℕ) → length (bytes_of_word (cond full (Full n) (Half n))) ≡ cond full 4 2
sized true n = refl
sized false n = refl

length_word : (o : Op) (f : Fields) → length (bytes_of_word (word_of o f)) ≡ size_of_word o
unfolding word_of
length_word o f = sized (is_full o) (encoding_of o f)

pub length_instructions : (is : Instructions) → length (bytes_of_instructions is) ≡ size_of_instructions is
length_instructions (One i) = length_word i.op i.fields
length_instructions (Two i j) =
    let a = length_word i.op i.fields in
    let b = length_word j.op j.fields in
    omega (arith, length-append (bytes_of_instruction i) (bytes_of_instruction j), a, b)

-- the line has as many bytes with any fields
abbrev SizesAreOne : Instruction → Type 0
SizesAreOne i = (f g : Fields) → size_of_instructions (instructions_of i f) ≡ size_of_instructions (instructions_of i g)

length_fields : (i : Instruction) (r : Result Fields Fault) → SizesAreOne i → is_constant_load (expansion_of i.operands) ≡ false → length (code_or_zeros (faulty_size i) (bytes_of_fields i r)).payload ≡ size_of_instructions (instructions_of i i.fields)
length_fields i (Ok f) same e = length_instructions (instructions_of i f) ∙ same f i.fields
length_fields i (Err fault) same e = length-replicate (faulty_size i) 0 ∙ rw e refl

pub length_of_instruction : (i : Instruction) (es : List Entry) → SizesAreOne i → is_constant_load (expansion_of i.operands) ≡ false → length (code_of_instruction i es).payload ≡ size_of_instructions (instructions_of i i.fields)
length_of_instruction i es same e = length_fields i (filled (limits_of (shape_of i.op)) i.operands es i.fields) same e

length_ok : (i : Instruction) (r : Result Fields Fault) (f : Fields) → r ≡ Ok f → length (code_or_zeros (faulty_size i) (bytes_of_fields i r)).payload ≡ size_of_instructions (instructions_of i f)
length_ok i r f e = rw e (length_instructions (instructions_of i f))

pub length_of_filled : (i : Instruction) (es : List Entry) (f : Fields) → filled (limits_of (shape_of i.op)) i.operands es i.fields ≡ Ok f → length (code_of_instruction i es).payload ≡ size_of_instructions (instructions_of i f)
length_of_filled i es f e = length_ok i (filled (limits_of (shape_of i.op)) i.operands es i.fields) f e

-- Data

pub length_low : (r : Role) (v : ℤ) → length (low_bytes (data_width r) v) ≡ data_width r
length_low (role.Data Byte) v = refl
length_low (role.Data HalfWidth) v = refl
length_low (role.Data Word) v = refl
length_low role.Immediate v = refl
length_low role.SourceImmediate v = refl
length_low role.Target v = refl
length_low role.PairTarget v = refl
length_low role.Constant v = refl
length_low role.Size v = refl
length_low role.FillByte v = refl
length_low (role.Alignment u) v = refl
length_low role.Definition v = refl

-- the value first, and then the others
length_next : (n : ℕ) (os : List Operand) (es : List Entry) (bs : List ℕ) (role : Role) (r : Result ℤ Fault) → ((v : ℤ) → length (code_or_zeros n (with_values os es (bs ++ low_bytes (data_width role) v))).payload ≡ n) → length (code_or_zeros n (and_then r (λ v. with_values os es (bs ++ low_bytes (data_width role) v)))).payload ≡ n
length_next n os es bs role (Err fault) others = length-replicate n 0
length_next n os es bs role (Ok v) others = others v

length_values : (n : ℕ) (os : List Operand) (es : List Entry) (bs : List ℕ) → length es ≡ length os → n ≡ length bs + values_size os → length (code_or_zeros n (with_values os es bs)).payload ≡ n
length_values n [] es bs h e = omega (arith, e)
length_values n (o ∷ os) [] bs h e = absurd (omega (arith, h))
length_values n (o ∷ os) (x ∷ es) bs h e =
    length_next n os es bs o.role (made_of o x (in_width o.role))
    (λ v.
    let low = low_bytes (data_width o.role) v in
    length_values n os es (bs ++ low) (omega (arith, h)) (omega (arith, length-append bs low, length_low o.role v, e)))

pub length_of_data : (c : DataContent) (es : List Entry) → length es ≡ length (operands_of_content c) → length (code_of_data c es).payload ≡ data_size c
length_of_data (Values os) es h = length_values (values_size os) os es [] h (omega arith)
length_of_data (Bytes bs) es h = refl

-- Equal bytes

length_count : (n : ℕ) (byte : Result ℕ Fault) → length (code_of_count (Ok n) byte).payload ≡ n
length_count n (Ok b) = length-replicate n b
length_count n (Err fault) = length-replicate n 0

length_of_count : (n : ℕ) (count byte : Result ℕ Fault) → count ≡ Ok n → length (code_of_count count byte).payload ≡ n
length_of_count n count byte e = rw e (length_count n byte)

pub length_of_fill : (o : Operand) (os : List Operand) (x : Entry) (es : List Entry) (n : ℕ) → fill_count o x ≡ Ok n → length (code_of_fill (o ∷ os) (x ∷ es)).payload ≡ n
length_of_fill o os x es n e = length_of_count n (fill_count o x) (fill_byte os es) e
