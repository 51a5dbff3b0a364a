-- Where the lines of a text lie. (docs/LANGUAGE.md, Layout)
use Rattle.std.specs.Prelude.{ℕ, List, length}
use Rattle.rv_stmt.specs.declared.section.Sect.{Sect}
use Rattle.rv_layout.specs.declared.measured.Measured.{Measured}
use Rattle.rv_layout.specs.Places.{section_of, line_size_of, section_end_of, section_base_of, address_of}
use Rattle.rv_layout.specs.Shapes.{shape_of}
use Rattle.rv_list.specs.declared.view.LinePlace.{LinePlace}
use Rattle.rv_program.specs.Constants.{constant_of}
use Rattle.rv_program.specs.Program.{Program, body_at, for_lines}

abbrev pub shape_at : Program → (i : ℕ) → Measured
shape_at program i = shape_of (constant_of program i) (body_at program i)

abbrev pub shapes_of : Program → List Measured
shapes_of program = for_lines (shape_at program) (length program)

abbrev pub section_at : Program → (i : ℕ) → Sect
section_at program i = section_of (shapes_of program) i

abbrev pub address_at : (base : ℕ) → Program → (i : ℕ) → ℕ
address_at base program i = address_of base (shapes_of program) i

-- how many bytes a line has
abbrev pub size_at : Program → (i : ℕ) → ℕ
size_at program i = line_size_of (shapes_of program) i

abbrev pub place_at : (base : ℕ) → Program → (i : ℕ) → LinePlace
place_at base program i =
    record { section = section_at program i; address = address_at base program i; size = size_at program i }

-- the address at which section number t begins, and the offset at which it ends
abbrev pub section_base_at : (base : ℕ) → Program → (t : ℕ) → ℕ
section_base_at base program t = section_base_of base (shapes_of program) t

abbrev pub section_end_at : Program → (t : ℕ) → ℕ
section_end_at program t = section_end_of (shapes_of program) t
