-- Where names stand among the tokens of a line. (docs/EDITORS.md, Names)
use Rattle.std.specs.Prelude.{ℕ, ◌+◌, ◌-◌, ◌^◌, ◌==◌, ◌&&◌, not, min, bytes_eq, Bool, true, false, List, codes, if◌then◌else◌}
use Rattle.rv_text.specs.declared.lexeme.TokenKind.{TokenKind}
use Rattle.rv_text.specs.declared.lexeme.TokenKind.TheVariants as kind
use Rattle.rv_language.specs.declared.name_uses.Expected.{Expected}
use Rattle.rv_language.specs.declared.name_uses.Expected.TheVariants.{Statement, Operand, Sign, Modifier, Base}
use Rattle.rv_language.specs.declared.typed.Typed.{Typed}

abbrev pub is_statement : Expected → Bool
is_statement Statement = true
is_statement expected = false

abbrev pub is_operand : Expected → Bool
is_operand Operand = true
is_operand expected = false

abbrev pub is_sign : Expected → Bool
is_sign Sign = true
is_sign expected = false

-- what may come after a sign
abbrev pub after_sign : Expected → (sign : List ℕ) → Expected
after_sign expected sign =
    if bytes_eq sign (codes ":") then Statement
    else (if bytes_eq sign (codes ")") then Sign
    else (if bytes_eq sign (codes "(") && is_sign expected then Base
    else (if bytes_eq sign (codes "%") && is_operand expected then Modifier
    else Operand)))

-- and after an identifier: an operand follows the name of a statement or of a modifier
abbrev pub after_identifier : Expected → Expected
after_identifier Statement = Operand
after_identifier Modifier = Operand
after_identifier expected = Sign

-- and after a token
abbrev pub expected_after : Expected → TokenKind → (text : List ℕ) → Expected
expected_after expected kind.Punctuation text = after_sign expected text
expected_after expected kind.Identifier text = after_identifier expected
expected_after expected kind text = Sign

-- an identifier or a local label in an operand is the name of a symbol or of a label; `.` is neither
abbrev pub is_name : Expected → TokenKind → (text : List ℕ) → Bool
is_name expected kind.Identifier text = is_operand expected && not (bytes_eq text (codes "."))
is_name expected kind.Local text = is_operand expected
is_name expected kind text = false

-- what stands before a place in a line: what may come there, the name of the statement, the number of the operand, from 0 on, and how many
-- parentheses are open
pub record Before : Type 0 where
  pub expected : Expected
  pub statement : List ℕ
  pub operand : ℕ
  pub depth : ℕ

abbrev pub before_of : Typed → Before
before_of typed = record { expected = typed.expected; statement = typed.statement.now; operand = typed.operand; depth = typed.depth }

-- nothing
abbrev pub at_beginning : Before
at_beginning = record { expected = Statement; statement = codes ""; operand = 0; depth = 0 }

-- A comma between parentheses is in an operand.
abbrev pub parts_operands : Before → (text : List ℕ) → Bool
parts_operands before text = bytes_eq text (codes ",") && before.depth == 0

-- one more, as far as a count of so many bits goes, which no line reaches
abbrev pub one_more : (bits : ℕ) → ℕ → ℕ
one_more bits n = min (n + 1) (2 ^ bits - 1)

-- the number of the operand with a token more
abbrev pub operand_with : Before → (text : List ℕ) → ℕ
operand_with before text = if parts_operands before text then one_more 64 before.operand else before.operand

abbrev pub depth_with : Before → (text : List ℕ) → ℕ
depth_with before text =
    if bytes_eq text (codes "(") then one_more 32 before.depth
    else (if bytes_eq text (codes ")") then before.depth - 1 else before.depth)

-- The name of a statement is what stands where one is expected.
abbrev pub statement_with : Before → (text : List ℕ) → List ℕ
statement_with before text = if is_statement before.expected then text else before.statement

-- what stands before a place with a token more
unfoldable pub with_token : Before → TokenKind → (text : List ℕ) → Before
with_token before kind text = record {
  expected = expected_after before.expected kind text;
  statement = statement_with before text;
  operand = operand_with before text;
  depth = depth_with before text;
}
