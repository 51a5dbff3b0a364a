-- The messages of lexical faults.
use Rattle.std.specs.Prelude.{ℕ, zero, suc, ◌-◌, ◌==◌, ◌||◌, List, [], ◌∷◌, ◌++◌, length, take, drop, slice_index, codes, if◌then◌else◌}
use Rattle.std.specs.Char.{is_digit}
use Rattle.std.specs.List.{prefix_len}
use Rattle.std.specs.Option.{option_map_or}
use Rattle.rv_text.specs.Strings.{spelled}
use Rattle.rv_show.specs.Characters.{size_of_first}
use Rattle.rv_show.specs.Digits.{upper_hex}
use Rattle.rv_show.specs.Texts.{about}
use Rattle.rv_report.specs.declared.advice.Topic.TheVariants.{Character}
use Rattle.rv_report.specs.Advice.{advice}

-- Bytes

-- what is written in the place of the character that some bytes begin with
abbrev pub byte_help : (byte : ℕ) → (rest : List ℕ) → List ℕ
byte_help byte rest =
    if byte == 0 || (byte == 0xFE || byte == 0xFF) then codes "; is the file in UTF-16? save it in UTF-8"
    else advice Character (take (size_of_first rest) rest)

unfoldable pub bad_byte : (byte : ℕ) → (rest : List ℕ) → List ℕ
bad_byte byte rest =
    codes "byte 0x" ++ (upper_hex byte ++ (codes " begins nothing of the language" ++ byte_help byte rest))

-- Numbers

-- the base that the beginning of a number tells
abbrev pub base_after_zero : List ℕ → ℕ
base_after_zero [] = 10
base_after_zero (c ∷ cs) =
    if c == 0x78 || c == 0x58 then 16 else (if c == 0x62 || c == 0x42 then 2 else 8)

abbrev pub base_of : List ℕ → ℕ
base_of [] = 10
base_of (c ∷ cs) = if c == 0x30 then base_after_zero cs else 10

-- what stands behind `0x` or `0b`, and all of any other number
abbrev pub digits_of : (base : ℕ) → List ℕ → List ℕ
digits_of base text = if base == 16 || base == 2 then drop 2 text else text

-- the first byte that is no digit of the base, and what follows it
abbrev pub from_first_wrong : (base : ℕ) → List ℕ → List ℕ
from_first_wrong base digits = drop (prefix_len (λ c. is_digit c base) digits) digits

abbrev pub no_digit : (base : ℕ) → List ℕ
no_digit base =
    if base == 16 then codes " is not a hexadecimal digit"
    else (if base == 2 then codes " is not a binary digit"
    else (if base == 8 then codes " is not an octal digit, and a number with a leading 0 is octal"
    else codes " is not a decimal digit, and a name does not begin with a digit"))

abbrev pub number_help : (base : ℕ) → (digits wrong : List ℕ) → List ℕ
number_help base digits [] =
    if length digits == 0 then codes "; digits are missing" else codes "; the greatest number is 0x7FFFFFFFFFFFFFFF"
number_help base digits (c ∷ cs) = about (codes "; ") (c ∷ []) (no_digit base)

unfoldable pub number_wrong : (base : ℕ) → (digits : List ℕ) → List ℕ
number_wrong base digits = number_help base digits (from_first_wrong base digits)

unfoldable pub bad_number : List ℕ → List ℕ
bad_number text = about [] text (codes " is not a number") ++ number_wrong (base_of text) (digits_of (base_of text) text)

-- Strings

-- some bytes from the first place on at which neither a byte nor an escape begins; the first `taken` belong to the one before
abbrev pub unspelled_after : (quote taken : ℕ) → List ℕ → List ℕ
unspelled_after quote taken [] = []
unspelled_after quote (suc taken) (b ∷ bs) = unspelled_after quote taken bs
unspelled_after quote zero (b ∷ bs) =
    if b == quote then b ∷ bs else option_map_or (λ s. unspelled_after quote (s.len - 1) bs) (spelled (b ∷ bs)) (b ∷ bs)

-- the rest of a string or character from the first such place on, after the opening quotation mark
abbrev pub unspelled : List ℕ → List ℕ
unspelled text = unspelled_after (slice_index text 0) 0 (drop 1 text)

-- what is wrong where neither a byte nor an escape begins
abbrev pub string_stopped : List ℕ → List ℕ
string_stopped [] = codes "the closing quotation mark is missing"
string_stopped (b ∷ bs) =
    if b == 0x5C then about [] (take 2 (b ∷ bs)) (codes " is not an escape: '\\\\' is a backslash, and octal escapes end at '\\377'")
    else codes "a character is one byte of ASCII; a string stands in double quotation marks"

unfoldable pub bad_string : List ℕ → List ℕ
bad_string text = string_stopped (unspelled text)
