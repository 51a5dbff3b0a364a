-- Where names are defined after an edit: where they were, on the lines as they move, but for what the edit takes out or puts in.
use Rattle.std.specs.Prelude.{ℕ, ◌+◌, ◌-◌, ◌^◌, ◌==◌, nat_lt, min, Bool, false, List, drop, if◌then◌else◌}
use Rattle.rv_stmt.specs.Statement.{statement_of}
use Rattle.rv_list.specs.declared.view.DefinitionPlace.{DefinitionPlace}
use Rattle.rv_list.specs.declared.view.DefinitionPlace.TheVariants.{Nowhere, Label as ByLabel, Equ}
use Rattle.rv_program.specs.internal.Defining.{Definitions}
use Rattle.rv_program.specs.Definitions.{place_in_statement, first_place}
use Rattle.rv_program.specs.Edits.{place_of_edit}
use Rattle.rv_program.specs.Program.{program_of}
use Rattle.rv_program.specs.Text.{Edit, Insert, Delete, Replace}

-- a definition on this line
abbrev pub is_on : (line : ℕ) → DefinitionPlace → Bool
is_on line Nowhere = false
is_on line (ByLabel l index) = l == line
is_on line (Equ l) = l == line

-- a definition that an edit takes out with its line
abbrev pub takes_out : Edit → DefinitionPlace → Bool
takes_out (Insert place line) defined = false
takes_out (Delete place) defined = is_on place defined
takes_out (Replace place line) defined = is_on place defined

-- where a line stands after an edit that does not take it out; numbers of lines have 32 bits
abbrev pub line_after_edit : Edit → (j : ℕ) → ℕ
line_after_edit (Insert place line) j = if nat_lt j place then j else min (j + 1) (2 ^ 32 - 1)
line_after_edit (Delete place) j = if nat_lt j place then j else j - 1
line_after_edit (Replace place line) j = j

-- a definition on a line that moves
abbrev pub moved_place : (to : ℕ → ℕ) → DefinitionPlace → DefinitionPlace
moved_place to Nowhere = Nowhere
moved_place to (ByLabel line index) = ByLabel (to line) index
moved_place to (Equ line) = Equ (to line)

-- a definition after an edit: it moves with its line, or is the one that is found where the edit takes it out
abbrev pub place_after : Edit → (found defined : DefinitionPlace) → DefinitionPlace
place_after edit found defined = if takes_out edit defined then found else moved_place (line_after_edit edit) defined

-- the first definition from the place of an edit on, in the lines after it
abbrev pub found_after : Edit → (after : List (List ℕ)) → Definitions
found_after edit after name = first_place (place_of_edit edit) (program_of (drop (place_of_edit edit - 1) after)) name

-- the definitions of before the edit, after it
abbrev pub kept_after : Edit → (after : List (List ℕ)) → Definitions → Definitions
kept_after edit after before name = place_after edit (found_after edit after name) (before name)

-- what the line defines that an edit puts in
abbrev pub put_in : Edit → Definitions
put_in (Insert place line) name = place_in_statement place (statement_of line) name
put_in (Delete place) name = Nowhere
put_in (Replace place line) name = place_in_statement place (statement_of line) name
