-- Where the lines of a text stood before an edit.
use Rattle.std.specs.Prelude.{ℕ, ◌+◌, ◌-◌, ◌==◌, nat_lt, Option, Some, None, if◌then◌else◌}
use Rattle.rv_program.specs.declared.edit.LineEdit.{LineEdit}
use Rattle.rv_program.specs.declared.edit.LineEdit.TheVariants as code
use Rattle.rv_program.specs.declared.edit.ReadEdit.{ReadEdit}
use Rattle.rv_program.specs.declared.edit.ReadEdit.TheVariants as read
use Rattle.rv_program.specs.Text.{Edit, Insert, Delete, Replace}

-- the edit that one of the code is
abbrev pub edit_of : LineEdit → Edit
edit_of (code.Insert place line) = Insert place line.now
edit_of (code.Delete place) = Delete place
edit_of (code.Replace place line) = Replace place line.now

abbrev pub edit_of_read : ReadEdit → Edit
edit_of_read (read.Insert place line) = Insert place line
edit_of_read (read.Delete place) = Delete place
edit_of_read (read.Replace place line) = Replace place line

-- where line k of the text after the edit stood before it; a line that the edit put in stood nowhere
abbrev pub line_before_edit : Edit → (k : ℕ) → Option ℕ
line_before_edit (Insert place line) k =
    if nat_lt k place then Some k else (if k == place then None else Some (k - 1))
line_before_edit (Delete place) k = if nat_lt k place then Some k else Some (k + 1)
line_before_edit (Replace place line) k = if k == place then None else Some k

-- the number of the line that an edit puts in, or before which it takes one out
abbrev pub place_of_edit : Edit → ℕ
place_of_edit (Insert place line) = place
place_of_edit (Delete place) = place
place_of_edit (Replace place line) = place
