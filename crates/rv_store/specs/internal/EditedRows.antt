-- The shapes of a text after an edit, from those before it.
use Rattle.std.specs.Prelude.{ℕ, List, ◌++◌, drop, Option, Some, None}
use Rattle.rv_layout.specs.declared.measured.Measured.{Measured}
use Rattle.rv_program.specs.Edits.{line_before_edit}
use Rattle.rv_program.specs.Layout.{shape_at}
use Rattle.rv_program.specs.Program.{Program, for_lines}
use Rattle.rv_program.specs.Text.{Edit}

-- this shape, or that of the line where it stood
abbrev pub shape_or : (here : Measured) → (stood : ℕ → Measured) → Option ℕ → Measured
shape_or here stood None = here
shape_or here stood (Some j) = stood j

-- that of line k
abbrev pub former_shape : (before after : Program) → Edit → (k : ℕ) → Measured
former_shape before after edit k = shape_or (shape_at after k) (shape_at before) (line_before_edit edit k)

-- the first i lines have their shapes, and the others what they had before
abbrev pub shapes_through : Program → (former : List Measured) → (i : ℕ) → List Measured
shapes_through program former i = for_lines (shape_at program) i ++ drop i former
