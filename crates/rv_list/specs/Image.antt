-- The image of a text: for each section a row with its name, its base and its size, and after it the rows of its bytes,
-- sixteen to a row.
use Rattle.std.specs.Prelude.{ℕ, ◌+◌, ◌*◌, ◌/◌, ◌==◌, List, [], ◌∷◌, ◌++◌, length, take, drop, get_or, codes, decimal, if◌then◌else◌}
use Rattle.std.specs.List.{flat_map}
use Rattle.rv_text.specs.Rows.{hex}
use Rattle.rv_layout.specs.Sections.{sections, section_number}
use Rattle.rv_list.specs.declared.view.SectionPlace.{SectionPlace}
use Rattle.rv_list.specs.Joined.{joined}
use Rattle.rv_list.specs.Shown.{Shown, ShownLine, from_lines, shows_bytes}

-- a byte in a row: a space and its digits
abbrev pub byte_text : ℕ → List ℕ
byte_text byte = codes " " ++ hex 2 byte

-- a row of bytes, after the address of the first
unfoldable pub byte_row : (address : ℕ) → List ℕ → List ℕ
byte_row address bytes = hex 8 address ++ (codes ":" ++ (flat_map byte_text bytes ++ codes "\n"))

-- row number k of a stretch of bytes, from 0 on: it has sixteen bytes from 16 k on, or what is left
abbrev pub byte_row_at : (start : ℕ) → List ℕ → (k : ℕ) → List ℕ
byte_row_at start bytes k = byte_row (start + 16 * k) (take 16 (drop (16 * k) bytes))

-- how many rows so many bytes fill, the last perhaps in part
abbrev pub row_count : ℕ → ℕ
row_count size = (size + 15) / 16

-- all rows of a stretch of bytes, the first at the address `start`
unfoldable pub byte_rows : (start : ℕ) → List ℕ → List ℕ
byte_rows start bytes = joined (byte_row_at start bytes) (row_count (length bytes))

-- the sections by their numbers
unfoldable pub section_names : List (List ℕ)
section_names = codes ".text.init" ∷ codes ".text" ∷ codes ".rodata" ∷ codes ".data" ∷ codes ".sdata" ∷ codes ".bss" ∷ []

unfoldable pub section_name : (t : ℕ) → List ℕ
section_name t = get_or section_names t []

-- the row of a section
unfoldable pub section_row : (name : List ℕ) → SectionPlace → List ℕ
section_row name place =
    name ++ (codes " 0x" ++ (hex 8 place.base ++ (codes " " ++ (decimal place.size ++ codes "\n"))))

-- the bytes that a line has in section number t
abbrev pub bytes_in : (t : ℕ) → ShownLine → List ℕ
bytes_in t line = if section_number line.place.section == t then line.code.payload else []

-- the bytes of section number t: those of the lines in it
unfoldable pub section_bytes : Shown → (t : ℕ) → List ℕ
section_bytes shown t = from_lines shown (λ i line. bytes_in t line)

-- the row of section number t, and those of its bytes where they are shown
unfoldable pub section_text : Shown → (t : ℕ) → List ℕ
section_text shown t =
    section_row (section_name t) (shown.section t)
    ++ (if shows_bytes t then byte_rows (shown.section t).base (section_bytes shown t) else [])

unfoldable pub image_text : Shown → List ℕ
image_text shown = joined (section_text shown) sections
