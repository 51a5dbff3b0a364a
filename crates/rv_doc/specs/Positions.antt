-- Positions as the language server protocol counts them: lines from 0 on, and columns in the units of an encoding.
-- (LSP 3.17, Text Documents and Position)
use Rattle.std.specs.Prelude.{ℕ, zero, suc, ◌+◌, ◌-◌, ◌&&◌, nat_lt, nat_le, ◌==◌, List, [], ◌∷◌, length, slice_index, take, min, Bool, if◌then◌else◌}
use Rattle.std.specs.List.{slice_split}
use Rattle.rv_doc.specs.declared.encoding.Encoding.{Encoding}
use Rattle.rv_doc.specs.declared.encoding.Encoding.TheVariants.{Utf8, Utf16}
use Rattle.rv_doc.specs.declared.position.Position.{Position}

-- the lines of a text: the parts between its line breaks, 0x0A, of which the last may be empty
abbrev pub lines_of : (text : List ℕ) → List (List ℕ)
lines_of text = slice_split (λ byte. byte == 10) text

-- a byte goes on a character of UTF-8
abbrev pub goes_on : (byte : ℕ) → Bool
goes_on byte = nat_le 128 byte && nat_lt byte 192

-- how many columns a byte adds: in UTF-16 a character counts at its first byte, as two halves where it has four bytes
abbrev pub units : Encoding → (byte : ℕ) → ℕ
units Utf8 byte = 1
units Utf16 byte = if goes_on byte then 0 else (if nat_lt byte 240 then 1 else 2)

-- the column behind some bytes of a line
abbrev pub columns : Encoding → List ℕ → ℕ
columns encoding [] = 0
columns encoding (byte ∷ bytes) = units encoding byte + columns encoding bytes

-- how many bytes of a line stand before a column: that many as it has room for, so that a column within a character is where the character
-- begins, and one behind the line its end
abbrev pub before_column : Encoding → (line : List ℕ) → (column : ℕ) → ℕ
before_column encoding [] column = 0
before_column encoding (byte ∷ bytes) column =
    if nat_lt column (units encoding byte) then 0 else suc (before_column encoding bytes (column - units encoding byte))

-- how many bytes the first lines have, with their line breaks
abbrev pub size_of_lines : (lines : List (List ℕ)) → (count : ℕ) → ℕ
size_of_lines lines zero = 0
size_of_lines [] (suc count) = 0
size_of_lines (line ∷ lines) (suc count) = length line + 1 + size_of_lines lines count

-- a line by its number, or an empty one behind the last
abbrev pub line_at : (lines : List (List ℕ)) → (number : ℕ) → List ℕ
line_at [] number = []
line_at (line ∷ lines) zero = line
line_at (line ∷ lines) (suc number) = line_at lines number

-- a line without the 0x0D that belongs to its end, in which no position is
abbrev pub without_return : (line : List ℕ) → List ℕ
without_return line = if slice_index line (length line - 1) == 13 then take (length line - 1) line else line

-- where a line begins: behind those before it, or at the end of the text if there are fewer
abbrev pub line_start : (text : List ℕ) → (number : ℕ) → ℕ
line_start text number = min (length text) (size_of_lines (lines_of text) number)

-- how many bytes of a text stand before a position
abbrev pub offset : Encoding → (text : List ℕ) → Position → ℕ
offset encoding text position =
    line_start text position.line
    + before_column encoding (without_return (line_at (lines_of text) position.line)) position.character
