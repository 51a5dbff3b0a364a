-- Examples of the definitions, computed.
use Rattle.std.specs.Prelude.{◌≡◌, ℕ, List, [], ◌∷◌, ◌++◌, None, Some, false, codes, refl}
use Rattle.rv_text.specs.declared.faults.FaultNumber.{FaultNumber}
use Rattle.rv_text.specs.declared.faults.FaultNumber.TheVariants.{BadByte, BadNumber, BadString}
use Rattle.rv_text.specs.declared.lexeme.Token.{Token}
use Rattle.rv_text.specs.declared.lexeme.TokenKind.{TokenKind}
use Rattle.rv_text.specs.declared.lexeme.TokenKind.TheVariants.{Identifier, Number, Punctuation, Local, Str, Char}
use Rattle.rv_text.specs.declared.lexeme.Prefix.TheVariants.{Lexeme, Wrong}
use Rattle.rv_text.specs.Lexing.{Lexed, prefix, tokens_of}
use Rattle.rv_text.specs.Numbers.{number_of, is_local_number}
use Rattle.rv_text.specs.Rows.{hex}
use Rattle.rv_text.specs.Strings.{escaped_at}

abbrev token : TokenKind → ℕ → ℕ → Token
token kind from to = record { kind = kind; span = record { from = from; to = to } }

abbrev right : List Token → Lexed
right tokens = record { tokens = tokens; fault = None }

abbrev wrong : List Token → FaultNumber → ℕ → ℕ → Lexed
wrong tokens number from to =
    record { tokens = tokens; fault = Some (record { number = number; span = record { from = from; to = to } }) }

-- whole lines
line_plain : tokens_of (codes "addi a0, a0, 1 # x")
    ≡ right (token Identifier 0 4 ∷ token Identifier 5 7 ∷ token Punctuation 7 8 ∷ token Identifier 9 11 ∷ token Punctuation 11 12 ∷ token Number 13 14 ∷ [])
line_plain = refl

line_large : tokens_of (codes "  li a0, -9223372036854775808")
    ≡ wrong (token Identifier 2 4 ∷ token Identifier 5 7 ∷ token Punctuation 7 8 ∷ token Punctuation 9 10 ∷ []) BadNumber 10 29
line_large = refl

line_kinds : tokens_of (codes ".byte 'A', \"a\\\"b\", 1f, 0b1, 08, 0")
    ≡ wrong (token Identifier 0 5 ∷ token Char 6 9 ∷ token Punctuation 9 10 ∷ token Str 11 17 ∷ token Punctuation 17 18 ∷ token Local 19 21 ∷ token Punctuation 21 22 ∷ token Number 23 26 ∷ token Punctuation 26 27 ∷ []) BadNumber 28 30
line_kinds = refl

-- a comment may hold any byte, and a string and a character may hold what begins one
line_comments : tokens_of (codes "\"#\" '#' '\"' 8//2" ++ 0 ∷ 255 ∷ [])
    ≡ right (token Str 0 3 ∷ token Char 4 7 ∷ token Char 8 11 ∷ token Number 12 13 ∷ [])
line_comments = refl

-- a comment does not end a string that has no end
line_open : tokens_of (codes "a \"b # c") ≡ wrong (token Identifier 0 1 ∷ []) BadString 2 8
line_open = refl

line_slash : tokens_of (codes "8/ /2") ≡ right (token Number 0 1 ∷ token Punctuation 1 2 ∷ token Punctuation 3 4 ∷ token Number 4 5 ∷ [])
line_slash = refl

line_shift : tokens_of (codes "<<< >>>=") ≡ right (token Punctuation 0 2 ∷ token Punctuation 2 3 ∷ token Punctuation 4 6 ∷ token Punctuation 6 7 ∷ token Punctuation 7 8 ∷ [])
line_shift = refl

-- a tab, a form feed, a carriage return and a space are whitespace; a vertical tab is not
line_whitespace : tokens_of (9 ∷ 12 ∷ 13 ∷ 32 ∷ codes "a" ++ 11 ∷ 98 ∷ []) ≡ wrong (token Identifier 4 5 ∷ []) BadByte 5 6
line_whitespace = refl

line_high : tokens_of (97 ∷ 200 ∷ []) ≡ wrong (token Identifier 0 1 ∷ []) BadByte 1 2
line_high = refl

line_empty : tokens_of [] ≡ right []
line_empty = refl

-- a run of digits and letters ends at `_`, `.` and `$`
run_underscore : tokens_of (codes "1_000") ≡ right (token Number 0 1 ∷ token Identifier 1 5 ∷ [])
run_underscore = refl

run_dot : tokens_of (codes "1.5") ≡ right (token Number 0 1 ∷ token Identifier 1 3 ∷ [])
run_dot = refl

-- words with dots
identifier_dot : tokens_of (codes ".4") ≡ right (token Identifier 0 2 ∷ [])
identifier_dot = refl

identifier_here : tokens_of (codes ".+4") ≡ right (token Identifier 0 1 ∷ token Punctuation 1 2 ∷ token Number 2 3 ∷ [])
identifier_here = refl

identifier_within : tokens_of (codes "x.y x-.y ..") ≡ right (token Identifier 0 3 ∷ token Identifier 4 5 ∷ token Punctuation 5 6 ∷ token Identifier 6 8 ∷ token Identifier 9 11 ∷ [])
identifier_within = refl

-- numbers, local labels, and neither
number_zero : prefix (codes "0") ≡ Lexeme Number 1
number_zero = refl

number_octal : prefix (codes "00") ≡ Lexeme Number 2
number_octal = refl

number_octal_zeros : prefix (codes "000") ≡ Lexeme Number 3
number_octal_zeros = refl

number_binary : prefix (codes "0b0") ≡ Lexeme Number 3
number_binary = refl

number_hex : prefix (codes "0x1b") ≡ Lexeme Number 4
number_hex = refl

number_hex_either : number_of (codes "0XaF") ≡ Some 175
number_hex_either = refl

number_greatest : number_of (codes "9223372036854775807") ≡ Some 9223372036854775807
number_greatest = refl

number_binary_upper : number_of (codes "0B101") ≡ Some 5
number_binary_upper = refl

number_octal_value : number_of (codes "0777") ≡ Some 511
number_octal_value = refl

number_none : number_of [] ≡ None
number_none = refl

local_zero_back : prefix (codes "0b") ≡ Lexeme Local 2
local_zero_back = refl

local_zero_ahead : prefix (codes "0f") ≡ Lexeme Local 2
local_zero_ahead = refl

local_long : prefix (codes "1234b") ≡ Lexeme Local 5
local_long = refl

local_number_long : is_local_number (codes "12345") ≡ false
local_number_long = refl

local_number_zeros : is_local_number (codes "00") ≡ false
local_number_zeros = refl

neither_binary : prefix (codes "0b2") ≡ Wrong BadNumber 3
neither_binary = refl

neither_float : prefix (codes "0f0") ≡ Wrong BadNumber 3
neither_float = refl

neither_both : prefix (codes "1bf") ≡ Wrong BadNumber 3
neither_both = refl

neither_upper : prefix (codes "1B") ≡ Wrong BadNumber 2
neither_upper = refl

neither_zero : prefix (codes "01b") ≡ Wrong BadNumber 3
neither_zero = refl

neither_zeros : prefix (codes "00b") ≡ Wrong BadNumber 3
neither_zeros = refl

neither_long : prefix (codes "12345b") ≡ Wrong BadNumber 6
neither_long = refl

neither_octal : prefix (codes "08") ≡ Wrong BadNumber 2
neither_octal = refl

neither_hex : prefix (codes "0x") ≡ Wrong BadNumber 2
neither_hex = refl

neither_hex_upper : prefix (codes "0X") ≡ Wrong BadNumber 2
neither_hex_upper = refl

neither_exponent : prefix (codes "1e5") ≡ Wrong BadNumber 3
neither_exponent = refl

neither_large : prefix (codes "9223372036854775808") ≡ Wrong BadNumber 19
neither_large = refl

-- characters, and what is none, which is wrong up to the end of the line
char_quote : prefix (codes "'\"'") ≡ Lexeme Char 3
char_quote = refl

char_whitespace : prefix (codes "' '") ≡ Lexeme Char 3
char_whitespace = refl

char_slash : prefix (codes "'/'") ≡ Lexeme Char 3
char_slash = refl

char_octal : prefix (codes "'\\101'") ≡ Lexeme Char 6
char_octal = refl

char_escaped_quote : prefix (codes "'\\''") ≡ Lexeme Char 4
char_escaped_quote = refl

char_two : prefix (codes "'ab'") ≡ Wrong BadString 4
char_two = refl

char_none : prefix (codes "''") ≡ Wrong BadString 2
char_none = refl

char_quotes : prefix (codes "'''") ≡ Wrong BadString 3
char_quotes = refl

char_four_digits : prefix (codes "'\\1011' # x") ≡ Wrong BadString 11
char_four_digits = refl

char_tab : prefix (0x27 ∷ 9 ∷ 0x27 ∷ []) ≡ Wrong BadString 3
char_tab = refl

char_high : prefix (0x27 ∷ 200 ∷ 0x27 ∷ []) ≡ Wrong BadString 3
char_high = refl

-- strings: a tab and a byte above 0x7E may stand there, and an escape of a value above 255 may not
string_empty : prefix (codes "\"\"") ≡ Lexeme Str 2
string_empty = refl

string_any : prefix (0x22 ∷ 9 ∷ 200 ∷ 0x27 ∷ 0x22 ∷ []) ≡ Lexeme Str 5
string_any = refl

string_large : prefix (codes "\"\\400\"") ≡ Wrong BadString 6
string_large = refl

string_hex : prefix (codes "\"\\x41\"") ≡ Wrong BadString 6
string_hex = refl

string_eight : prefix (codes "\"\\8\"") ≡ Wrong BadString 4
string_eight = refl

string_backslash : prefix (codes "\"\\") ≡ Wrong BadString 2
string_backslash = refl

string_escaped_end : prefix (codes "\"\\\"") ≡ Wrong BadString 3
string_escaped_end = refl

-- the bytes that are spelled, and where the next spelling begins
spelled_octal : escaped_at (codes "'\\101'") 1 ≡ Some (65, 5)
spelled_octal = refl

spelled_three_digits : escaped_at (codes "\"\\1234\"") 1 ≡ Some (0x53, 5)
spelled_three_digits = refl

spelled_after : escaped_at (codes "\"\\1234\"") 5 ≡ Some (0x34, 6)
spelled_after = refl

spelled_end : escaped_at (codes "\"\\1234\"") 6 ≡ None
spelled_end = refl

spelled_past_end : escaped_at (codes "\"\\1234\"") 7 ≡ None
spelled_past_end = refl

spelled_other_quote : escaped_at (codes "'\"'") 1 ≡ Some (0x22, 2)
spelled_other_quote = refl

spelled_apostrophe : escaped_at (codes "\"'\"") 1 ≡ Some (0x27, 2)
spelled_apostrophe = refl

spelled_letters : escaped_at (codes "\"\\f\"") 1 ≡ Some (12, 3)
spelled_letters = refl

-- numbers in output text
hex_address : hex 8 0x80001000 ≡ codes "80001000"
unfolding hex
hex_address = refl

hex_byte : hex 2 0x10a ≡ codes "0a"
unfolding hex
hex_byte = refl
