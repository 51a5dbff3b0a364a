-- The shape of the line that an edit puts in. It follows from the lines before it, which the edit leaves, so that it is known before
-- the edit is made.
use Rattle.std.specs.Prelude.{◌≡◌, ℕ, nat_le, List, if◌then◌else◌}
use Rattle.rv_stmt.specs.Statement.{statement_of}
use Rattle.rv_layout.specs.declared.measured.Measured.{Measured}
use Rattle.rv_layout.specs.Shapes.{shape_of, size_operands}
use Rattle.rv_program.specs.Constants.{constant_of}
use Rattle.rv_program.specs.Edits.{place_of_edit}
use Rattle.rv_program.specs.Program.{program_of}
use Rattle.rv_program.specs.Text.{Edit, Insert, Delete, Replace}

-- it follows from the constants on the line of that number before the edit
abbrev pub IsNewShape : (lines : List (List ℕ)) → Edit → Measured → Type 0
IsNewShape lines (Insert place line) shape = shape ≡ shape_of (constant_of (program_of lines) place) (statement_of line).body
IsNewShape lines (Delete place) shape = Unit {0}
IsNewShape lines (Replace place line) shape = shape ≡ shape_of (constant_of (program_of lines) place) (statement_of line).body

-- the operands from which it follows
abbrev pub shape_operands : Edit → ℕ
shape_operands (Insert place line) = size_operands (statement_of line).body
shape_operands (Delete place) = 0
shape_operands (Replace place line) = size_operands (statement_of line).body

-- those, if the line is one of the first i
abbrev pub shape_operands_through : Edit → (i : ℕ) → ℕ
shape_operands_through edit i = if nat_le (place_of_edit edit) i then shape_operands edit else 0
