-- The code of a line holds bytes.
use Rattle.std.proofs.Common.{ℕ, ℤ, pos, negsuc, zero, suc, ◌/◌, ◌%◌, ◌^◌, ◌<◌, Bool, true, false, List, [], ◌∷◌, ◌++◌, replicate, Result, Ok, Err, arith}
use Rattle.std.specs.Int.{Width, byte_at, bytes_low_first, byte_len, to_le_bytes, w16, w32}
use Rattle.std.specs.List.{repeat}
use Rattle.std.proofs.lemmas.Nat.{mod_below}
use Rattle.rv_text.specs.declared.faults.Fault.{Fault}
use Rattle.rv_text.specs.declared.lexeme.Span.{Span}
use Rattle.rv_ops.specs.Table.{shape_of, limits_of}
use Rattle.rv_code.specs.Encoding.{bytes_of_word, word_of}
use Rattle.rv_code.specs.declared.word.Word.{Word}
use Rattle.rv_code.specs.declared.word.Word.TheVariants.{Half, Full}
use Rattle.rv_stmt.specs.declared.directive.DataContent.{DataContent}
use Rattle.rv_stmt.specs.declared.directive.DataContent.TheVariants.{Values, Bytes}
use Rattle.rv_stmt.specs.declared.expansion.Instructions.{Instructions}
use Rattle.rv_stmt.specs.declared.expansion.Instructions.TheVariants.{One, Two}
use Rattle.rv_stmt.specs.declared.operand.Operand.{Operand}
use Rattle.rv_stmt.specs.declared.statement.Body.{Body}
use Rattle.rv_stmt.specs.declared.statement.Body.TheVariants as body
use Rattle.rv_stmt.specs.declared.statement.Instruction.{Instruction}
use Rattle.rv_stmt.specs.Data.{data_width, values_size}
use Rattle.rv_stmt.specs.Expansion.{instructions_of}
use Rattle.rv_stmt.specs.Readings.{Reading, and_then}
use Rattle.rv_stmt.specs.ValueParts.{word_bits}
use Rattle.rv_layout.specs.declared.measured.Measured.{Measured}
use Rattle.rv_layout.specs.declared.measured.Measured.TheVariants.{Faulty}
use Rattle.rv_layout.specs.Shapes.{value_at}
use Rattle.rv_fix.specs.declared.coded.Coded.{Coded}
use Rattle.rv_fix.specs.Code.{code_or_zeros, bytes_of_instructions, faulty_size, bytes_of_fields, code_of_instruction, code_of_data, code_of_count, code_of_fill, code_of_value, code_of_alignment, code_of_definition, code_of_body, code_of}
use Rattle.rv_fix.specs.Data.{in_width, low_bytes, with_values, fill_count, fill_byte}
use Rattle.rv_fix.specs.Filling.{filled}
use Rattle.rv_fix.specs.Padding.{padding}
use Rattle.rv_fix.specs.Reports.{made_of, ranged, at_span}
use Rattle.rv_fix.specs.Values.{Entry}
use Rattle.rv_files.specs.Segments.{AreBytes}
use Rattle.rv_files.proofs.Bytes.{bytes_none, bytes_cons, bytes_append, bytes_take}
use Rattle.rv_files.proofs.Outcomes.{Holds, then_holds}
use Rattle.rv_files.proofs.RegularBodies.{IsRegular}

-- Numbers as bytes

byte_below : (i n : ℕ) → byte_at i n < 256
byte_below zero n = mod_below n 256 (omega arith)
byte_below (suc i) n = mod_below (n / 256 ^ suc i) 256 (omega arith)

low_first : (i k n : ℕ) → AreBytes (bytes_low_first i k n)
low_first i zero n = bytes_none
low_first i (suc k) n = bytes_cons (byte_at i n) (bytes_low_first (suc i) k n) (byte_below i n) (low_first (suc i) k n)

little_endian : (w : Width) (n : ℕ) → AreBytes (to_le_bytes w n)
little_endian w n = low_first 0 (byte_len w) n

pub bytes_replicate : (n b : ℕ) → b < 256 → AreBytes (replicate n b)
bytes_replicate zero b h = bytes_none
bytes_replicate (suc n) b h = bytes_cons b (replicate n b) h (bytes_replicate n b h)

bytes_repeat : (n : ℕ) (bs : List ℕ) → AreBytes bs → AreBytes (repeat n bs)
bytes_repeat zero bs h = bytes_none
bytes_repeat (suc n) bs h = bytes_append bs (repeat n bs) h (bytes_repeat n bs h)

pub padding_bytes : (in_code : Bool) (n : ℕ) → AreBytes (padding in_code n)
padding_bytes false n = bytes_replicate n 0 (omega arith)
padding_bytes true n =
    bytes_append (replicate (n % 2) 0) (repeat (n / 2 % 2) compressed_nop ++ repeat (n / 4) nop) (bytes_replicate (n % 2) 0 (omega arith))
    (bytes_append (repeat (n / 2 % 2) compressed_nop) (repeat (n / 4) nop) (bytes_repeat (n / 2 % 2) compressed_nop short) (bytes_repeat (n / 4) nop long))
  where
    compressed_nop : List ℕ
    compressed_nop = 0x01 ∷ 0x00 ∷ []

    nop : List ℕ
    nop = 0x13 ∷ 0x00 ∷ 0x00 ∷ 0x00 ∷ []

    zeros : (k : ℕ) → AreBytes (replicate k 0)
    zeros k = bytes_replicate k 0 (omega arith)

    short : AreBytes (0x01 ∷ 0x00 ∷ [])
    short = bytes_cons 0x01 (0x00 ∷ []) (omega arith) (zeros 1)

    long : AreBytes (0x13 ∷ 0x00 ∷ 0x00 ∷ 0x00 ∷ [])
    long = bytes_cons 0x13 (0x00 ∷ 0x00 ∷ 0x00 ∷ []) (omega arith) (zeros 3)

-- Codes

abbrev HoldsBytes : Coded → Type 0
HoldsBytes c = AreBytes c.payload

zeros_bytes : (n : ℕ) (r : Result (List ℕ) Fault) → Holds AreBytes r → HoldsBytes (code_or_zeros n r)
zeros_bytes n (Ok bs) h = h
zeros_bytes n (Err fault) h = bytes_replicate n 0 (omega arith)

word_bytes : (w : Word) → AreBytes (bytes_of_word w)
word_bytes (Half n) = little_endian w16 n
word_bytes (Full n) = little_endian w32 n

instructions_bytes : (is : Instructions) → AreBytes (bytes_of_instructions is)
instructions_bytes (One i) = word_bytes (word_of i.op i.fields)
instructions_bytes (Two i j) = bytes_append (bytes_of_word (word_of i.op i.fields)) (bytes_of_word (word_of j.op j.fields)) (word_bytes (word_of i.op i.fields)) (word_bytes (word_of j.op j.fields))

instruction_bytes : (i : Instruction) (es : List Entry) → HoldsBytes (code_of_instruction i es)
instruction_bytes i es =
    let f = filled (limits_of (shape_of i.op)) i.operands es i.fields in
    zeros_bytes (faulty_size i) (bytes_of_fields i f) (then_holds AreBytes f _ (λ g. instructions_bytes (instructions_of i g)))

values_bytes : (os : List Operand) (es : List Entry) (bs : List ℕ) → AreBytes bs → Holds AreBytes (with_values os es bs)
values_bytes [] es bs h = h
values_bytes (o ∷ os) [] bs h = h
values_bytes (o ∷ os) (e ∷ es) bs h =
    then_holds AreBytes (made_of o e (in_width o.role)) _
    (λ v. values_bytes os es (bs ++ low_bytes (data_width o.role) v) (bytes_append bs (low_bytes (data_width o.role) v) h (bytes_take (data_width o.role) (to_le_bytes w32 (word_bits v)) (little_endian w32 (word_bits v)))))

abbrev IsByte : ℕ → Type 0
IsByte b = b < 256

fill_byte_below : (os : List Operand) (es : List Entry) → Holds IsByte (fill_byte os es)
fill_byte_below [] es = omega arith
fill_byte_below (o ∷ os) [] = omega arith
fill_byte_below (o ∷ os) (e ∷ es) = then_holds IsByte (value_at o.span e) _ (λ v. ranged_below (ranged (negsuc 127) (pos 255) v))
  where
    ranged_below : (x : Reading ℤ) → Holds IsByte (at_span o.span (and_then x (λ v. Ok (word_bits v % 2 ^ 8))))
    ranged_below (Ok v) = mod_below (word_bits v) (2 ^ 8) (omega arith)
    ranged_below (Err number) = tt

count_bytes : (n : Result ℕ Fault) (byte : Result ℕ Fault) → Holds IsByte byte → HoldsBytes (code_of_count n byte)
count_bytes (Err fault) byte h = bytes_none
count_bytes (Ok n) (Err fault) h = bytes_replicate n 0 (omega arith)
count_bytes (Ok n) (Ok b) h = bytes_replicate n b h

fill_bytes : (os : List Operand) (es : List Entry) → HoldsBytes (code_of_fill os es)
fill_bytes [] es = bytes_none
fill_bytes (o ∷ os) [] = bytes_none
fill_bytes (o ∷ os) (e ∷ es) = count_bytes (fill_count o e) (fill_byte os es) (fill_byte_below os es)

value_bytes : {A : Type 0} (v : Result A Fault) (f : A → List ℕ) → ((x : A) → AreBytes (f x)) → HoldsBytes (code_of_value v f)
value_bytes (Ok x) f h = h x
value_bytes (Err fault) f h = bytes_none

alignment_bytes : (os : List Operand) (es : List Entry) → HoldsBytes (code_of_alignment os es)
alignment_bytes [] es = bytes_none
alignment_bytes (o ∷ os) [] = bytes_none
alignment_bytes (o ∷ os) (e ∷ es) = value_bytes (value_at o.span e) (λ v. padding true (word_bits v)) (λ v. padding_bytes true (word_bits v))

definition_bytes : (os : List Operand) (es : List Entry) → HoldsBytes (code_of_definition os es)
definition_bytes [] es = bytes_none
definition_bytes (o ∷ os) [] = bytes_none
definition_bytes (o ∷ os) (e ∷ es) = value_bytes (value_at o.span e) (λ v. []) (λ v. bytes_none)

data_bytes : (c : DataContent) (es : List Entry) (name : Span) → IsRegular AreBytes (body.Emit (record { name = name; content = c })) → HoldsBytes (code_of_data c es)
data_bytes (Values os) es name h = zeros_bytes (values_size os) (with_values os es []) (values_bytes os es [] bytes_none)
data_bytes (Bytes bs) es name h = h

body_bytes : (b : Body) (es : List Entry) → IsRegular AreBytes b → HoldsBytes (code_of_body b es)
body_bytes body.Empty es h = bytes_none
body_bytes (body.Instr i) es h = instruction_bytes i es
body_bytes (body.Pseudo i) es h = instruction_bytes i es
body_bytes (body.Emit d) es h = data_bytes d.content es d.name h
body_bytes (body.Fill d) es h = fill_bytes d.operands es
body_bytes (body.Align d) es h = alignment_bytes d.operands es
body_bytes (body.Switch s) es h = bytes_none
body_bytes (body.Equ d) es h = definition_bytes d.operands es
body_bytes body.Ignored es h = bytes_none
body_bytes (body.Faulty fault) es h = bytes_none

pub code_bytes : (shape : Measured) (b : Body) (es : List Entry) → IsRegular AreBytes b → HoldsBytes (code_of shape b es)
code_bytes (Faulty fault) b es h = bytes_none
code_bytes shape b es h = body_bytes b es h
