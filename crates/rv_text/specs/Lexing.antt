-- The tokens of a line.
use Rattle.std.specs.Prelude.{ℕ, zero, suc, ◌+◌, ◌-◌, Bool, false, ◌||◌, ◌&&◌, ◌==◌, List, [], ◌∷◌, length, take, map, Option, Some, None, is_some, slice_range, All, ◌≤◌, if◌then◌else◌}
use Rattle.std.specs.Char.{is_ascii_digit, is_ascii_alphanumeric}
use Rattle.std.specs.List.{prefix_len}
use Rattle.rv_text.specs.declared.lexeme.Token.{Token}
use Rattle.rv_text.specs.declared.faults.Fault.{Fault}
use Rattle.rv_text.specs.declared.faults.FaultNumber.TheVariants.{BadByte, BadNumber, BadString}
use Rattle.rv_text.specs.declared.lexeme.Span.{Span}
use Rattle.rv_text.specs.declared.lexeme.TokenKind.{TokenKind}
use Rattle.rv_text.specs.declared.lexeme.TokenKind.TheVariants.{Identifier, Number, Local, Str, Char, Punctuation}
use Rattle.rv_text.specs.declared.lexeme.Prefix.{Prefix}
use Rattle.rv_text.specs.declared.lexeme.Prefix.TheVariants.{Whitespace, Comment, Lexeme, Wrong}
use Rattle.rv_text.specs.Bytes.{is_whitespace, is_identifier_start, is_identifier_byte, is_punctuation_byte}
use Rattle.rv_text.specs.Numbers.{number_of, is_local}
use Rattle.rv_text.specs.Strings.{string_len, char_len}

-- the bytes begin with these two
abbrev pub begins : ℕ → ℕ → List ℕ → Bool
begins x y [] = false
begins x y (a ∷ []) = false
begins x y (a ∷ b ∷ bs) = a == x && b == y

-- `#` or `//`
abbrev pub begins_comment : List ℕ → Bool
begins_comment [] = false
begins_comment (b ∷ bs) = b == 0x23 || begins 0x2F 0x2F (b ∷ bs)

-- `<<` or `>>`
abbrev pub begins_shift : List ℕ → Bool
begins_shift bs = begins 0x3C 0x3C bs || begins 0x3E 0x3E bs

-- the longest run of digits and letters, which is a number, a local label or wrong
abbrev pub numeral : List ℕ → Prefix
numeral bs =
    let n = prefix_len is_ascii_alphanumeric bs in
    if is_some (number_of (take n bs)) then Lexeme Number n
    else (if is_local (take n bs) then Lexeme Local n
    else Wrong BadNumber n)

-- a quote and what stands after it, up to the closing quote: `len` is how many bytes that is, where it is right
abbrev pub quoted : TokenKind → Option ℕ → ℕ → Prefix
quoted kind (Some n) left = Lexeme kind (n + 1)
quoted kind None left = Wrong BadString left

-- what some bytes begin with: each token is the longest that begins there
abbrev pub prefix : List ℕ → Prefix
prefix [] = Comment
prefix (b ∷ bs) =
    if is_whitespace b then Whitespace
    else (if begins_comment (b ∷ bs) then Comment
    else (if is_identifier_start b then Lexeme Identifier (prefix_len is_identifier_byte (b ∷ bs))
    else (if is_ascii_digit b then numeral (b ∷ bs)
    else (if b == 0x22 then quoted Str (string_len 0 bs) (length (b ∷ bs))
    else (if b == 0x27 then quoted Char (char_len bs) (length (b ∷ bs))
    else (if begins_shift (b ∷ bs) then Lexeme Punctuation 2
    else (if is_punctuation_byte b then Lexeme Punctuation 1
    else Wrong BadByte 1)))))))

-- the tokens of a line, and the lexical fault at which they end
pub record Lexed : Type 0 where
  pub tokens : List Token
  pub fault : Option Fault

-- what stands at a place joins what follows it; `rest k` is what follows when k more bytes are taken
abbrev pub with_rest : Prefix → ℕ → (ℕ → Lexed) → Lexed
with_rest Whitespace at rest = rest 0
with_rest Comment at rest = record { tokens = []; fault = None }
with_rest (Lexeme kind n) at rest = record {
  tokens = record { kind = kind; span = record { from = at; to = at + n } } ∷ (rest (n - 1)).tokens;
  fault = (rest (n - 1)).fault;
}
with_rest (Wrong number n) at rest =
    record { tokens = []; fault = Some (record { number = number; span = record { from = at; to = at + n } }) }

-- the bytes from a place on, of which the first `taken` belong to the token before
abbrev pub tokens_from : ℕ → ℕ → List ℕ → Lexed
tokens_from at taken [] = record { tokens = []; fault = None }
tokens_from at (suc taken) (b ∷ bs) = tokens_from (at + 1) taken bs
tokens_from at zero (b ∷ bs) = with_rest (prefix (b ∷ bs)) at (λ taken. tokens_from (at + 1) taken bs)

-- the tokens of a line
abbrev pub tokens_of : List ℕ → Lexed
tokens_of line = tokens_from 0 0 line

-- the bytes of a line that a span covers
abbrev pub text_at : List ℕ → Span → List ℕ
text_at line span = slice_range line span.from span.to

-- a line with its tokens
pub record LexedLine : Type 0 where
  pub line : List ℕ
  pub tokens : List Token
  pub fault : Option Fault

-- each span is a range of the line
abbrev pub SpansFit : List ℕ → List Token → Type 0
SpansFit line tokens = All (λ t. (t.span.from ≤ t.span.to) × (t.span.to ≤ length line)) tokens

-- a line as it is read
abbrev pub lexed_line : List ℕ → LexedLine
lexed_line line = record { line = line; tokens = (tokens_of line).tokens; fault = (tokens_of line).fault }

-- what some bytes begin with has at least one byte, and no more than there are
abbrev pub FitsIn : ℕ → Prefix → Type 0
FitsIn len Whitespace = 1 ≤ len
FitsIn len Comment = Unit {0}
FitsIn len (Lexeme kind n) = (1 ≤ n) × (n ≤ len)
FitsIn len (Wrong number n) = (1 ≤ n) × (n ≤ len)

-- a token with its text
pub record SpelledToken : Type 0 where
  pub kind : TokenKind
  pub text : List ℕ
  pub span : Span

-- the tokens of a line with their texts
abbrev pub spelled_tokens : LexedLine → List SpelledToken
spelled_tokens l = map (λ t. record { kind = t.kind; text = text_at l.line t.span; span = t.span }) l.tokens

-- how many bytes the texts of tokens have together
abbrev pub bytes_of_tokens : List SpelledToken → ℕ
bytes_of_tokens [] = 0
bytes_of_tokens (p ∷ ps) = length p.text + bytes_of_tokens ps
