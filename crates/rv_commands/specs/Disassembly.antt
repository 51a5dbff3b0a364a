-- The disassembly of the bytes of the sections of code.
use Rattle.std.specs.Prelude.{◌≡◌, ℕ, ◌*◌, List, [], ◌∷◌, ◌++◌, length, codes}
use Rattle.std.specs.List.{flat_map}
use Rattle.rv_text.specs.Rows.{hex}
use Rattle.rv_stmt.specs.declared.section.Sect.{Sect}
use Rattle.rv_layout.specs.Sections.{code_sections, section_number}
use Rattle.rv_dis.specs.declared.row.DisRow.{DisRow}
use Rattle.rv_dis.specs.Rows.{Shows}
use Rattle.rv_list.specs.Image.{section_bytes}
use Rattle.rv_list.specs.Shown.{Shown}
use Rattle.rv_store.specs.Shown.{shown_of}
use Rattle.rv_program.specs.Text.{Text}
use Rattle.rv_commands.specs.Pages.{numbered}

-- a row: its address, its number with two digits for each byte, and its text
unfoldable pub disassembly_row : DisRow → List ℕ
disassembly_row row =
    hex 8 row.address ++ (codes " " ++ (hex (2 * row.len) row.value ++ (codes " " ++ (row.text ++ codes "\n"))))

-- how many rows there are, and then the rows
unfoldable pub disassembly_text : List DisRow → List ℕ
disassembly_text rows = numbered (codes "dis ") (length rows) ++ flat_map disassembly_row rows

-- the rows show the bytes of a section from its base on
abbrev pub ShowsSection : Shown → Sect → List DisRow → Type 0
ShowsSection shown s rows =
    Shows (shown.section (section_number s)).base (section_bytes shown (section_number s)) rows

-- the rows show the bytes of these sections, one after another, each by itself
pub data ShowsSections (shown : Shown) : List Sect → List DisRow → Type 0 where
  no_sections : ShowsSections shown [] []
  next_section : (s : Sect) (rows : List DisRow) (ss : List Sect) (more : List DisRow) → ShowsSection shown s rows → ShowsSections shown ss more → ShowsSections shown (s ∷ ss) (rows ++ more)

-- The answer is the rows that show the bytes of the sections of code.
pub record IsDisassembly (text : Text) (answer : List ℕ) : Type 0 where
  pub rows : List DisRow
  pub shows : ShowsSections (shown_of text) code_sections rows
  pub is : answer ≡ disassembly_text rows
