-- Rows by the lines of a text with an edit made in them.
use Rattle.std.specs.Prelude.{◌+◌, ◌-◌, ◌≤◌, List, length, set, insert, remove}
use Rattle.rv_program.specs.Text.{Edit, Insert, Delete, Replace}

-- there are so many lines that the edit has its place
abbrev pub HasPlace : {A : Type 0} → List A → Edit → Type 0
HasPlace row (Insert place line) = (1 ≤ place) × (place ≤ length row + 1)
HasPlace row (Delete place) = (1 ≤ place) × (place ≤ length row)
HasPlace row (Replace place line) = (1 ≤ place) × (place ≤ length row)

-- what each line had before the edit, and this for the line that it puts in
abbrev pub edited_row : {A : Type 0} → List A → Edit → (new : A) → List A
edited_row row (Insert place line) new = insert row (place - 1) new
edited_row row (Delete place) new = remove row (place - 1)
edited_row row (Replace place line) new = set row (place - 1) new
