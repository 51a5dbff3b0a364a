-- How the bytes of a line are shown: each character in one column, a tab up to the next multiple of 8, and a dot for each
-- byte that is part of no character, of a control character, or of one that changes the direction of text.
use Rattle.std.specs.Prelude.{ℕ, zero, suc, ◌+◌, ◌-◌, ◌%◌, ◌==◌, nat_le, nat_lt, Bool, not, ◌&&◌, ◌||◌, List, [], ◌∷◌, ◌++◌, drop, Option, Some, None, replicate, codes, if◌then◌else◌}
use Rattle.bstr.specs.Utf8.{decoded}
use Rattle.rv_show.specs.declared.characters.Place.{Place}

-- a character that is no control character (Unicode Standard, section 23.1: those below 0x20 and from 0x7F to 0x9F)
abbrev pub is_no_control : ℕ → Bool
is_no_control c = nat_le 0x20 c && (nat_lt c 0x7F || nat_le 0xA0 c)

-- a character that changes the direction of those after it (Unicode Standard Annex 9, section 2: the property Bidi_Control)
abbrev pub turns_text : ℕ → Bool
turns_text c =
    c == 0x61C || (nat_le 0x200E c && nat_le c 0x200F) || (nat_le 0x202A c && nat_le c 0x202E) || (nat_le 0x2066 c && nat_le c 0x2069)

-- a character that is shown as it is
abbrev pub is_visible : ℕ → Bool
is_visible c = is_no_control c && not (turns_text c)

-- how many bytes such a character has, and 0 for any other and for none
abbrev pub visible_size : Option ℕ → ℕ → ℕ
visible_size None size = 0
visible_size (Some c) size = if is_visible c then size else 0

-- how many bytes the character has that begins some bytes, if it is one that is shown
abbrev pub size_of_first : List ℕ → ℕ
size_of_first bytes = visible_size (decoded bytes).char (decoded bytes).size

-- how many columns the character takes that begins with a byte
abbrev pub width : (column byte : ℕ) → ℕ
width column byte = if byte == 9 then 8 - column % 8 else 1

-- how many bytes of a character are left behind the first of some bytes; where none is left before it, a character begins
abbrev pub left_after : (left : ℕ) → List ℕ → ℕ
left_after left [] = left
left_after left (b ∷ bs) = if left == 0 then size_of_first (b ∷ bs) - 1 else left - 1

-- the column behind the first of some bytes: a character counts where it begins
abbrev pub column_after : Place → List ℕ → ℕ
column_after place [] = place.column
column_after place (b ∷ bs) = if place.left == 0 then place.column + width place.column b else place.column

-- the place behind the first of some bytes
abbrev pub next : Place → List ℕ → Place
next place bytes = record { column = column_after place bytes; left = left_after place.left bytes }

-- the first of some bytes that begin with a character, or a dot
abbrev pub byte_or_dot : List ℕ → ℕ
byte_or_dot [] = 46
byte_or_dot (b ∷ bs) = if size_of_first (b ∷ bs) == 0 then 46 else b

-- what is shown for the first of some bytes
abbrev pub cell : Place → List ℕ → List ℕ
cell place [] = []
cell place (b ∷ bs) =
    if place.left == 0 then (if b == 9 then replicate (8 - place.column % 8) 32 else byte_or_dot (b ∷ bs) ∷ []) else b ∷ []

-- what is shown for some bytes
abbrev pub shown_from : Place → List ℕ → List ℕ
shown_from place [] = []
shown_from place (b ∷ bs) = cell place (b ∷ bs) ++ shown_from (next place (b ∷ bs)) bs

-- the first of some bytes in the name of a file
abbrev pub byte_in_name : (left : ℕ) → List ℕ → ℕ
byte_in_name left [] = 46
byte_in_name left (b ∷ bs) = if left == 0 then byte_or_dot (b ∷ bs) else b

-- the name of a file as it is shown, where so many bytes of a character are left; what is shown stays when it is shown again
abbrev pub shown_name : (left : ℕ) → List ℕ → List ℕ
shown_name left [] = []
shown_name left (b ∷ bs) = byte_in_name left (b ∷ bs) ∷ shown_name (left_after left (b ∷ bs)) bs

-- the column behind so many bytes
abbrev pub column_behind : Place → ℕ → List ℕ → ℕ
column_behind place n [] = place.column
column_behind place zero (b ∷ bs) = place.column
column_behind place (suc n) (b ∷ bs) = column_behind (next place (b ∷ bs)) n bs

abbrev pub start : Place
start = record { column = 0; left = 0 }

-- the column of a byte of a line
abbrev pub column_of : List ℕ → ℕ → ℕ
column_of line byte = column_behind start byte line

-- Parts of a line in a message

-- the first of some bytes, where a tab is one space
abbrev pub byte_in_message : (left : ℕ) → List ℕ → ℕ
byte_in_message left [] = 46
byte_in_message left (b ∷ bs) =
    if left == 0 then (if b == 9 then 32 else byte_or_dot (b ∷ bs)) else b

-- so many characters of some bytes, and dots where there are more
abbrev pub abridged : (room left : ℕ) → List ℕ → List ℕ
abridged room left [] = []
abridged room left (b ∷ bs) =
    if left == 0 && room == 0 then codes "..."
    else byte_in_message left (b ∷ bs) ∷ abridged (if left == 0 then room - 1 else room) (left_after left (b ∷ bs)) bs

-- at most 40 characters
abbrev pub excerpt : List ℕ → List ℕ
excerpt bytes = abridged 40 0 bytes

-- the same from a place on, with dots where bytes stand before it
abbrev pub excerpt_from : (place : ℕ) → List ℕ → List ℕ
excerpt_from place bytes = if place == 0 then excerpt bytes else codes "..." ++ excerpt (drop place bytes)
