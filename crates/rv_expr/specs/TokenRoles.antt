-- What a token is in an expression. (docs/LANGUAGE.md, Expressions)
use Rattle.std.specs.Prelude.{ℕ, ◌-◌, ◌^◌, pos, ◌==◌, ◌&&◌, Bool, false, nat_lt, List, [], ◌∷◌, length, take, Option, Some, None, option_map, option_and_then, slice_index, if◌then◌else◌}
use Rattle.rv_text.specs.declared.lexeme.TokenKind.{TokenKind}
use Rattle.rv_text.specs.declared.lexeme.TokenKind.TheVariants as kinds
use Rattle.rv_text.specs.Lexing.{SpelledToken}
use Rattle.rv_text.specs.Numbers.{number_of, digits_number}
use Rattle.rv_text.specs.Strings.{escaped_at}
use Rattle.rv_expr.specs.declared.tree.BinaryOp.{BinaryOp}
use Rattle.rv_expr.specs.declared.tree.BinaryOp.TheVariants.{Mul, Div, Rem, Shl, Shr, And, Or, Xor, Add, Sub}
use Rattle.rv_expr.specs.declared.tree.Direction.{Direction}
use Rattle.rv_expr.specs.declared.tree.Direction.TheVariants.{Back, Forward}
use Rattle.rv_expr.specs.declared.tree.UnaryOp.{UnaryOp}
use Rattle.rv_expr.specs.declared.tree.UnaryOp.TheVariants.{Neg, Not}
use Rattle.rv_expr.specs.Tree.{Tree, Number, Symbol, Local, Here}

-- `.`, or a symbol
abbrev pub identifier_operand : List ℕ → Tree
identifier_operand [] = Symbol []
identifier_operand (c ∷ []) = if c == 0x2E then Here else Symbol (c ∷ [])
identifier_operand (c ∷ d ∷ cs) = Symbol (c ∷ d ∷ cs)

-- `b` or `f`
abbrev pub direction : ℕ → Option Direction
direction c = if c == 0x62 then Some Back else (if c == 0x66 then Some Forward else None)

-- decimal digits, of a value below 2 ^ 16, as that of every local label is
abbrev pub label_number : List ℕ → Option ℕ
label_number digits =
    option_and_then (λ n. if nat_lt n (2 ^ 16) then Some n else None) (digits_number 10 digits)

-- a number, and then the direction
abbrev pub local_operand : List ℕ → Option Tree
local_operand text =
    let n = length text - 1 in
    option_and_then
    (λ d. option_map (λ number. Local number d) (label_number (take n text)))
    (direction (slice_index text n))

-- the operand that a token is by itself
abbrev pub operand_text : TokenKind → List ℕ → Option Tree
operand_text kinds.Identifier text = Some (identifier_operand text)
operand_text kinds.Number text = option_map (λ n. Number (pos n)) (number_of text)
operand_text kinds.Local text = local_operand text
operand_text kinds.Char text = option_map (λ p. Number (pos p.0)) (escaped_at text 1)
operand_text kinds.Str text = None
operand_text kinds.Punctuation text = None

-- `-` and `~`
abbrev pub unary_operator : List ℕ → Option UnaryOp
unary_operator [] = None
unary_operator (c ∷ []) = if c == 0x2D then Some Neg else (if c == 0x7E then Some Not else None)
unary_operator (c ∷ d ∷ cs) = None

-- `*`, `/`, `%`, `&`, `|`, `^`, `+`, `-`, `<<` and `>>`
abbrev pub binary_operator : List ℕ → Option BinaryOp
binary_operator [] = None
binary_operator (c ∷ []) =
    if c == 0x2A then Some Mul
    else (if c == 0x2F then Some Div
    else (if c == 0x25 then Some Rem
    else (if c == 0x26 then Some And
    else (if c == 0x7C then Some Or
    else (if c == 0x5E then Some Xor
    else (if c == 0x2B then Some Add
    else (if c == 0x2D then Some Sub
    else None)))))))
binary_operator (c ∷ d ∷ []) =
    if c == 0x3C && d == 0x3C then Some Shl else (if c == 0x3E && d == 0x3E then Some Shr else None)
binary_operator (c ∷ d ∷ e ∷ cs) = None

-- the text is this one byte
abbrev pub is_byte : ℕ → List ℕ → Bool
is_byte b [] = false
is_byte b (c ∷ []) = c == b
is_byte b (c ∷ d ∷ cs) = false

-- what a token is: an operand; the operator that it is before an operand, and the one that it is between two, neither
-- where it is no part of an expression; or a parenthesis
pub data TokenRole : Type 0 where
  Operand : Tree → TokenRole
  Operator : (unary : Option UnaryOp) (binary : Option BinaryOp) → TokenRole
  Open : TokenRole
  Close : TokenRole

-- `(`, `)`, or another sign
abbrev pub token_role_of_punctuation : List ℕ → TokenRole
token_role_of_punctuation text =
    if is_byte 0x28 text then Open
    else (if is_byte 0x29 text then Close
    else Operator (unary_operator text) (binary_operator text))

abbrev pub token_role_of_operand : Option Tree → TokenRole
token_role_of_operand None = Operator None None
token_role_of_operand (Some e) = Operand e

abbrev pub token_role_of_text : TokenKind → List ℕ → TokenRole
token_role_of_text kinds.Identifier text = token_role_of_operand (operand_text kinds.Identifier text)
token_role_of_text kinds.Number text = token_role_of_operand (operand_text kinds.Number text)
token_role_of_text kinds.Local text = token_role_of_operand (operand_text kinds.Local text)
token_role_of_text kinds.Char text = token_role_of_operand (operand_text kinds.Char text)
token_role_of_text kinds.Str text = token_role_of_operand (operand_text kinds.Str text)
token_role_of_text kinds.Punctuation text = token_role_of_punctuation text

abbrev pub token_role : SpelledToken → TokenRole
token_role p = token_role_of_text p.kind p.text
