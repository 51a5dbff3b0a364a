-- The sections of names. (docs/LANGUAGE.md, Sections)
use Rattle.std.specs.Prelude.{ℕ, List, [], ◌∷◌, length, take, map, Option, Some, None, Bool, bytes_eq, if◌then◌else◌}
use Rattle.rv_stmt.specs.declared.section.Sect.{Sect}
use Rattle.rv_stmt.specs.declared.section.TheConstants.{SECTION_NAMES}

-- a name begins with a text
abbrev pub begins_with : List ℕ → List ℕ → Bool
begins_with text name = bytes_eq text (take (length text) name)

-- what stands beside the first of the texts that the name begins with
abbrev pub first_beginning : List (List ℕ × Sect) → List ℕ → Option Sect
first_beginning [] name = None
first_beginning (row ∷ rows) name = if begins_with row.0 name then Some row.1 else first_beginning rows name

-- the texts with their sections
unfoldable pub section_names : List (List ℕ × Sect)
section_names = map (λ row. (row.0.now, row.1)) SECTION_NAMES

-- the section of a name
unfoldable pub section_named : List ℕ → Option Sect
section_named name = first_beginning section_names name
