-- Where the sections end after some lines, line by line. (docs/LANGUAGE.md, Layout)
use Rattle.std.specs.Prelude.{◌≡◌, ℕ, ◌+◌, ◌-◌, ◌<◌, true, List, [], ◌∷◌, ◌++◌, length, map, set, slice_index, take}
use Rattle.std.specs.List.{range_with_len}
use Rattle.rv_stmt.specs.declared.section.Sect.TheVariants.{Text}
use Rattle.rv_layout.specs.declared.measured.Measured.{Measured}
use Rattle.rv_layout.specs.Places.{section_after, section_through, size_at, section_of, line_size_of, section_end_of, section_base_of, base_from, address_of, is_base, AreLimited}
use Rattle.rv_layout.specs.Sections.{sections, section_number}
use Rattle.rv_store.specs.declared.ends.Ends.{Ends}
use Rattle.rv_store.specs.declared.places.Reached.{Reached}
use Rattle.rv_list.specs.declared.view.LinePlace.{LinePlace}
use Rattle.rv_program.specs.Program.{for_lines}

-- a number for each section, in their order
abbrev pub by_section : (ℕ → ℕ) → List ℕ
by_section f = map f (range_with_len 0 sections)

-- after some lines: the section of the next one, and the offset at which each section ends
abbrev pub ends_of : List Measured → Ends
ends_of ms = record { section = section_through Text ms; offsets = by_section (section_end_of ms) }

-- the offset at which section number `t` ends
abbrev pub end_in : Ends → (t : ℕ) → ℕ
end_in ends t = slice_index ends.offsets t

-- the address at which section number `t` begins
abbrev pub base_by_ends : (base : ℕ) → Ends → (t : ℕ) → ℕ
base_by_ends base ends t = base_from base (end_in ends) t

-- the offset of the next line
abbrev pub next_offset : Ends → ℕ
next_offset ends = slice_index ends.offsets (section_number ends.section)

-- after one more line
abbrev pub ends_after : Ends → Measured → Ends
ends_after ends m = record {
  section = section_after ends.section m;
  offsets = set ends.offsets (section_number ends.section) (next_offset ends + size_at (next_offset ends) m);
}

-- before a line that lies there
abbrev pub ends_before : Ends → LinePlace → Ends
ends_before ends place = record {
  section = place.section;
  offsets = set ends.offsets (section_number place.section) (slice_index ends.offsets (section_number place.section) - place.size);
}

-- the ends where that of the next line's section stands apart
abbrev pub ends_at : Reached → Ends
ends_at r = record { section = r.ends.section; offsets = set r.ends.offsets (section_number r.ends.section) r.offset }

-- the place of the next line, where the sections begin at these addresses
abbrev pub next_place : (bases : List ℕ) → Ends → Measured → LinePlace
next_place bases ends m = record {
  section = ends.section;
  address = slice_index bases (section_number ends.section) + next_offset ends;
  size = size_at (next_offset ends) m;
}

-- the place of line `i`
abbrev pub place_by_shapes : (base : ℕ) → List Measured → (i : ℕ) → LinePlace
place_by_shapes base ms i = record { section = section_of ms i; address = address_of base ms i; size = line_size_of ms i }

-- the sections of a text whose lines have these shapes begin at these addresses
abbrev pub AreBases : (base : ℕ) → List Measured → (bases : List ℕ) → Type 0
AreBases base ms bases = (t : ℕ) → t < sections → slice_index bases t ≡ section_base_of base ms t

-- a line of this shape stands behind lines of these shapes, after which the sections end at the one ends, and with it at the others
pub record IsBehind (m : Measured) (before total : Ends) (ms : List Measured) : Type 0 where
  pub few : length ms < 16384
  pub limited : AreLimited (ms ++ m ∷ [])
  pub first : before ≡ ends_of ms
  pub all : total ≡ ends_of (ms ++ m ∷ [])

-- the first i lines of these shapes were gone past
abbrev pub IsReached : List Measured → (i : ℕ) → Reached → Type 0
IsReached ms i r = ends_at r ≡ ends_of (take i ms)

-- where the first of these lines lie, where the sections begin at these addresses
abbrev pub ArePlaced : (base : ℕ) → (bases : List ℕ) → List Measured → List LinePlace → Type 0
ArePlaced base bases ms row =
    is_base base ≡ true → AreBases base ms bases → row ≡ for_lines (place_by_shapes base ms) (length row)
