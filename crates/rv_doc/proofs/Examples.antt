-- Worked positions and changes.
use Rattle.std.proofs.Common.{◌≡◌, ℕ, List, [], ◌∷◌, refl, codes, Some, None}
use Rattle.rv_doc.specs.declared.encoding.Encoding.TheVariants.{Utf8, Utf16}
use Rattle.rv_doc.specs.declared.position.Position.{Position}
use Rattle.rv_doc.specs.Positions.{before_column, columns, line_start, lines_of, offset}
use Rattle.rv_doc.specs.Edits.{Change, text_after, text_after_all, spliced}

abbrev at : (line character : ℕ) → Position
at line character = record { line = line; character = character }

abbrev change : (line character to_line to_character : ℕ) → List ℕ → Change
change line character to_line to_character text = record { range = Some (record { start = at line character; end = at to_line to_character }); text = text }

-- U+00E4 and U+1F600 between two letters: 2 and 4 bytes, 1 and 2 halves of UTF-16
abbrev letters : List ℕ
letters = 0x61 ∷ 0xC3 ∷ 0xA4 ∷ 0xF0 ∷ 0x9F ∷ 0x98 ∷ 0x80 ∷ 0x62 ∷ []

halves : columns Utf16 letters ≡ 5
halves = refl

bytes : columns Utf8 letters ≡ 8
bytes = refl

behind_two_halves : before_column Utf16 letters 4 ≡ 7
behind_two_halves = refl

-- a column between the halves is where the character begins
between_halves : before_column Utf16 letters 3 ≡ 3
between_halves = refl

byte_column : before_column Utf8 letters 7 ≡ 7
byte_column = refl

behind_the_end : before_column Utf16 letters 99 ≡ 8
behind_the_end = refl

second_line : line_start (codes "nop\r\nadd\n") 1 ≡ 5
second_line = refl

-- what stands behind the last line break is a line
last_line : line_start (codes "nop\r\nadd\n") 2 ≡ 9
last_line = refl

no_such_line : line_start (codes "nop\r\nadd\n") 7 ≡ 9
no_such_line = refl

-- a column behind the end of a line is its end, before the 0x0D
clamped : offset Utf16 (codes "nop\r\nadd\n") (at 0 99) ≡ 3
clamped = refl

-- a 0x0D within a line ends none
lone_return : offset Utf16 (codes "a\rb\nc") (at 0 2) ≡ 2
lone_return = refl

typed : text_after Utf16 (codes "nop\r\nadd\n") (change 0 3 0 3 (codes " # a")) ≡ codes "nop # a\r\nadd\n"
typed = refl

joined : text_after Utf8 (codes "a\nb\nc") (change 0 1 1 0 []) ≡ codes "ab\nc"
joined = refl

-- a range that ends before it begins is empty
backwards : text_after Utf8 (codes "abcd") (change 0 3 0 1 (codes "x")) ≡ codes "abcxd"
backwards = refl

whole : text_after Utf8 (codes "abcd") (record { range = None; text = codes "x" }) ≡ codes "x"
whole = refl

-- the second change of a message counts in what the first one left
both : text_after_all Utf8 (codes "a\nb") (change 0 0 0 0 (codes "x\n") ∷ (change 2 0 2 1 (codes "c") ∷ [])) ≡ codes "x\na\nc"
both = refl

lines : lines_of (codes "a\r\nb\n") ≡ codes "a\r" ∷ (codes "b" ∷ ([] ∷ []))
lines = refl

no_bytes : lines_of [] ≡ [] ∷ []
no_bytes = refl

-- one line in the place of two
fewer : spliced (lines_of (codes "a\nb\nc\nd")) 1 2 (lines_of (codes "x")) ≡ lines_of (codes "a\nx\nd")
fewer = refl
