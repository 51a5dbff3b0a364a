-- A text that is read and not assembled, and the rows of its first lines.
use Rattle.std.specs.Prelude.{◌≡◌, ℕ, ◌≤◌, true, List, length}
use Rattle.std.specs.List.{AllPass}
use Rattle.rv_layout.specs.Places.{AreLimited, is_base}
use Rattle.rv_program.specs.declared.limits.TheConstants.{MAX_LINES}
use Rattle.rv_program.specs.Layout.{shape_at}
use Rattle.rv_program.specs.Program.{program_of, for_lines}
use Rattle.rv_program.specs.Text.{is_line}
use Rattle.rv_program.specs.internal.Rows.{AreConstants}
use Rattle.rv_store.specs.declared.shapes.ShapeRows.{ShapeRows}

-- the base is a right one, the lines are few and each is one
pub record IsDraft (base : ℕ) (lines : List (List ℕ)) : Type 0 where
  pub based : is_base base ≡ true
  pub lined : AllPass is_line lines
  pub few : length lines ≤ MAX_LINES

-- the shapes of the first i lines, and the constants behind them
pub record AreShapedThrough (lines names : List (List ℕ)) (i : ℕ) (rows : ShapeRows) : Type 0 where
  pub shapes : rows.shapes.items ≡ for_lines (shape_at (program_of lines)) i
  pub limited : AreLimited rows.shapes.items
  pub constants : AreConstants (program_of lines) i names rows.constants.items
