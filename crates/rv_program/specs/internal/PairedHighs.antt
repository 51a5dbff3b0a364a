-- What `%pcrel_lo` of a label takes, by the high halves on the lines of a text and their places.
use Rattle.std.specs.Prelude.{◌≡◌, ℕ, ◌-◌, ◌<◌, ◌==◌, Bool, not, ◌&&◌, List, length, get_or, Option, ok_or, Err}
use Rattle.rv_expr.specs.declared.faults.ValueFault.TheVariants.{NoPartner}
use Rattle.rv_stmt.specs.Readings.{and_then}
use Rattle.rv_layout.specs.Sections.{section_number, sections}
use Rattle.rv_fix.specs.Values.{Entry}
use Rattle.rv_list.specs.declared.view.LinePlace.{LinePlace}
use Rattle.rv_program.specs.Program.{first_line}
use Rattle.rv_program.specs.internal.TextRows.{no_place}

-- what a row of high halves holds for a line
abbrev pub high_in : List Entry → (line : ℕ) → Entry
high_in highs line = get_or highs (line - 1) (Err NoPartner)

-- what is held for a section
abbrev pub next_in : List Entry → (section : ℕ) → Entry
next_in next section = get_or next section (Err NoPartner)

abbrev pub section_in : List LinePlace → (line : ℕ) → ℕ
section_in places line = section_number (get_or places (line - 1) no_place).section

-- a line that lies there is in the section, and has bytes
abbrev pub has_bytes_there : (section : ℕ) → LinePlace → Bool
has_bytes_there section place = section_number place.section == section && not (place.size == 0)

abbrev pub has_bytes_by : List LinePlace → (section line : ℕ) → Bool
has_bytes_by places section line = has_bytes_there section (get_or places (line - 1) no_place)

-- the first line with bytes in the section of a line, from this one on
abbrev pub next_with_bytes_in : List LinePlace → (line : ℕ) → Option ℕ
next_with_bytes_in places line =
    first_line (has_bytes_by places (section_in places line)) (line - 1) (length places - (line - 1))

-- its high half
abbrev pub paired_high_in : List LinePlace → List Entry → (line : ℕ) → Entry
paired_high_in places highs line = and_then (ok_or (next_with_bytes_in places line) NoPartner) (high_in highs)

-- of each section, that of the first line with bytes after line i
abbrev pub AreNext : List LinePlace → List Entry → (i : ℕ) → List Entry → Type 0
AreNext places highs i next =
    (t : ℕ) → t < sections
    → next_in next t ≡ and_then (ok_or (first_line (has_bytes_by places t) i (length places - i)) NoPartner) (high_in highs)
