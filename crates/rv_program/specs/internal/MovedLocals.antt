-- The lines of a local label after an edit, by those before it.
use Rattle.std.specs.Prelude.{ℕ, ◌+◌, ◌-◌, ◌^◌, ◌==◌, min, nat_le, nat_lt, Bool, List, [], ◌∷◌, ◌++◌, Option, Some, None, if◌then◌else◌}
use Rattle.std.specs.List.{flat_map}
use Rattle.rv_stmt.specs.LabelNames.{Label}
use Rattle.rv_stmt.specs.Statement.{statement_of}
use Rattle.rv_program.specs.declared.local_row.LocalRow.{LocalRow}
use Rattle.rv_program.specs.Edits.{place_of_edit}
use Rattle.rv_program.specs.internal.Locals.{lines_below}
use Rattle.rv_program.specs.Text.{Edit, Insert, Delete, Replace}

-- the labels of the line that an edit puts in
abbrev pub labels_put_in : Edit → List Label
labels_put_in (Insert place line) = (statement_of line).labels
labels_put_in (Delete place) = []
labels_put_in (Replace place line) = (statement_of line).labels

-- where a line behind the lines that an edit puts in or takes out stands after it
abbrev pub line_moved : Edit → (l : ℕ) → Option ℕ
line_moved (Insert place line) l = if nat_lt l place then None else Some (min (l + 1) (2 ^ 32 - 1))
line_moved (Delete place) l = if nat_le l place then None else Some (l - 1)
line_moved (Replace place line) l = if nat_le l place then None else Some l

abbrev pub one_line : Option ℕ → List ℕ
one_line None = []
one_line (Some l) = l ∷ []

abbrev pub lines_moved : Edit → List ℕ → List ℕ
lines_moved edit lines = flat_map (λ l. one_line (line_moved edit l)) lines

-- the line that an edit puts in, where it has the label
abbrev pub line_put_in : Edit → (labelled : Bool) → List ℕ
line_put_in edit labelled = if labelled then place_of_edit edit ∷ [] else []

-- the lines of a label, with those that an edit puts in: those before the place of the edit stay
abbrev pub row_after : Edit → (put_in : List ℕ) → List ℕ → List ℕ
row_after edit put_in lines = lines_below (place_of_edit edit) lines ++ (put_in ++ lines_moved edit lines)

-- Rows from the first on

-- the lesser of the numbers of two first rows
abbrev pub first_number : List LocalRow → List LocalRow → Option ℕ
first_number [] [] = None
first_number [] (other ∷ others) = Some other.number
first_number (row ∷ rows) [] = Some row.number
first_number (row ∷ rows) (other ∷ others) = Some (min row.number other.number)

-- the rows without the first one, where that is of this number
abbrev pub rows_behind : (number : ℕ) → List LocalRow → List LocalRow
rows_behind number [] = []
rows_behind number (row ∷ rows) = if row.number == number then rows else row ∷ rows
