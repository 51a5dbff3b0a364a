-- The rows of bytes with which no instruction begins: `.half` or `.byte`, and one number in hexadecimal digits.
use Rattle.std.proofs.Common.{◌≡◌, ℕ, pos, negsuc, ◌<◌, ◌^◌, true, List, [], ◌∷◌, ◌++◌, take, Some, sym, refl, ap, ◌∙◌, arith}
use Rattle.std.specs.Int.{to_le_bytes, w32}
use Rattle.std.specs.Prelude.{◌&&◌, codes, int_le}
use Rattle.std.proofs.lemmas.List.{append-nil}
use Rattle.std.proofs.lemmas.Bool.Decides.{nat_tests}
use Rattle.std.proofs.lemmas.Int.{ints}
use Rattle.rv_text.specs.Numbers.{number_of}
use Rattle.rv_expr.specs.Tree.{Number}
use Rattle.rv_stmt.specs.declared.directive.DataContent.TheVariants.{Values}
use Rattle.rv_stmt.specs.declared.directives.DirectiveKind.TheVariants as kind
use Rattle.rv_stmt.specs.declared.operand.DataWidth.{DataWidth}
use Rattle.rv_stmt.specs.declared.operand.DataWidth.TheVariants.{Byte, Half}
use Rattle.rv_stmt.specs.declared.operand.OperandValue.TheVariants.{Plain}
use Rattle.rv_stmt.specs.declared.operand.Role.TheVariants as role
use Rattle.rv_stmt.specs.declared.operand_count.OperandCount.TheVariants.{AtLeast}
use Rattle.rv_stmt.specs.declared.runs.Run.{Run}
use Rattle.rv_stmt.specs.declared.statement.Body.{Body}
use Rattle.rv_stmt.specs.declared.statement.Body.TheVariants.{Emit}
use Rattle.rv_stmt.specs.declared.statement.Stmt.{Stmt}
use Rattle.rv_stmt.specs.DirectiveBodies as directives
use Rattle.rv_stmt.specs.Directives.{directive_named, directive_names}
use Rattle.rv_stmt.specs.Statement.{statement_of}
use Rattle.rv_stmt.specs.ValueParts.{word_bits}
use Rattle.rv_fix.specs.Alone.{code_of_body_at, uses_names}
use Rattle.rv_fix.specs.Code.{code}
use Rattle.rv_dis.specs.Assembling.{Assembles}
use Rattle.rv_dis.specs.Rows.{half_row, byte_row}
use Rattle.rv_dis.specs.Text.{hexadecimal_of}
use Rattle.rv_dis.proofs.Cutting.{run_at}
use Rattle.rv_dis.proofs.FieldValues.{bits_are}
use Rattle.rv_dis.proofs.NamedLine.{AreOperands, unlabelled, directive_line}
use Rattle.rv_dis.proofs.Numerals.{number_hex}
use Rattle.rv_dis.proofs.Operands.{number_piece, number_is_operand}

half_named : directive_named (codes ".half") ≡ Some (record { count = AtLeast 1; kind = kind.Data Half })
unfolding directive_named directive_names
half_named = refl

byte_named : directive_named (codes ".byte") ≡ Some (record { count = AtLeast 1; kind = kind.Data Byte })
unfolding directive_named directive_names
byte_named = refl

-- where the number stands after a name of five bytes
abbrev number_run : List ℕ → Run
number_run text = run_at 5 6 (number_piece text)

-- the data of one number
abbrev one_number : DataWidth → List ℕ → ℕ → Body
one_number w text n =
    Emit (record { name = record { from = 0; to = 5 }; content = Values (record { value = Plain (Number (pos n)); role = role.Data w; span = (number_run text).span } ∷ []) })

number_read : (w : DataWidth) (text : List ℕ) (n : ℕ) → number_of text ≡ Some n → directives.body_of_form (record { count = AtLeast 1; kind = kind.Data w }) (record { from = 0; to = 5 }) (number_run text ∷ []) ≡ one_number w text n
number_read w text n e = rw e refl

number_operands : (text : List ℕ) (n : ℕ) → number_of text ≡ Some n → AreOperands (number_piece text ∷ [])
number_operands text n e =
    let h = number_is_operand n text e in
    record { plain = (h.plain, tt); whole = (h.whole, tt); some = (h.some, tt) }

half_line : (text : List ℕ) (n : ℕ) → number_of text ≡ Some n → statement_of (codes ".half " ++ text) ≡ unlabelled (one_number Half text n)
half_line text n e =
    ap (λ t. statement_of (codes ".half " ++ t)) (sym (append-nil text))
    ∙ directive_line (codes ".half") (number_piece text ∷ []) refl (number_operands text n e) _ refl half_named refl
    ∙ ap unlabelled (number_read Half text n e)

byte_line : (text : List ℕ) (n : ℕ) → number_of text ≡ Some n → statement_of (codes ".byte " ++ text) ≡ unlabelled (one_number Byte text n)
byte_line text n e =
    ap (λ t. statement_of (codes ".byte " ++ t)) (sym (append-nil text))
    ∙ directive_line (codes ".byte") (number_piece text ∷ []) refl (number_operands text n e) _ refl byte_named refl
    ∙ ap unlabelled (number_read Byte text n e)

-- it is held by its width, and its bytes are those of the row
half_in_width : (n : ℕ) → n < 2 ^ 16 → (int_le (negsuc 32767) (pos n) && int_le (pos n) (pos 65535)) ≡ true
half_in_width n small = grind (arith, nat_tests)

byte_in_width : (n : ℕ) → n < 2 ^ 8 → (int_le (negsuc 127) (pos n) && int_le (pos n) (pos 255)) ≡ true
byte_in_width n small = grind (arith, nat_tests)

bits : (n : ℕ) → n < 2 ^ 16 → word_bits (pos n) ≡ n
bits n small = bits_are (pos n) (record { low = omega (arith, ints); high = omega (arith, ints) })

half_code : (a n : ℕ) (text : List ℕ) → n < 2 ^ 16 → code_of_body_at a (one_number Half text n) ≡ code (take 2 (to_le_bytes w32 n))
half_code a n text small = rw (half_in_width n small) (ap (λ k. code (take 2 (to_le_bytes w32 k))) (bits n small))

byte_code : (a n : ℕ) (text : List ℕ) → n < 2 ^ 8 → code_of_body_at a (one_number Byte text n) ≡ code (take 1 (to_le_bytes w32 n))
byte_code a n text small =
    rw (byte_in_width n small) (ap (λ k. code (take 1 (to_le_bytes w32 k))) (bits n (omega arith)))

-- the rows assemble to their bytes
pub half_assembles : (a n : ℕ) → n < 2 ^ 16 → Assembles (half_row a n)
half_assembles a n small =
    let text = hexadecimal_of 4 n in
    let line = half_line text n (number_hex 4 n (omega arith) (omega arith) (omega arith)) in
    record {
      nameless = ap (λ (s : Stmt). uses_names s.body) line;
      code = ap (λ (s : Stmt). code_of_body_at a s.body) line ∙ half_code a n text small;
    }

pub byte_assembles : (a n : ℕ) → n < 2 ^ 8 → Assembles (byte_row a n)
byte_assembles a n small =
    let text = hexadecimal_of 2 n in
    let line = byte_line text n (number_hex 2 n (omega arith) (omega arith) (omega arith)) in
    record {
      nameless = ap (λ (s : Stmt). uses_names s.body) line;
      code = ap (λ (s : Stmt). code_of_body_at a s.body) line ∙ byte_code a n text small;
    }
