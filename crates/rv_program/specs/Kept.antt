-- Lines that an edit leaves as they were.
use Rattle.std.specs.Prelude.{◌≡◌, ℕ, List, Some}
use Rattle.rv_program.specs.Changes.{program_after}
use Rattle.rv_program.specs.Codes.{values_at, code_at}
use Rattle.rv_program.specs.Edits.{line_before_edit}
use Rattle.rv_program.specs.Layout.{shape_at}
use Rattle.rv_program.specs.Program.{program_of}
use Rattle.rv_program.specs.Text.{Edit}

-- line k of the text after an edit is a line of the text before it, and has the shape, the values and the code that it had
pub record IsKept (base : ℕ) (lines : List (List ℕ)) (edit : Edit) (k : ℕ) : Type 0 where
  pub line : ℕ
  pub before : line_before_edit edit k ≡ Some line
  pub shape : shape_at (program_after lines edit) k ≡ shape_at (program_of lines) line
  pub values : values_at base (program_after lines edit) k ≡ values_at base (program_of lines) line
  pub code : code_at base (program_after lines edit) k ≡ code_at base (program_of lines) line
