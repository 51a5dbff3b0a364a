-- Edits that take out and put in lines that define nothing: all names stay defined as they are, so no constant changes.
use Rattle.std.specs.Prelude.{◌≡◌, ℕ, ◌≤◌, ◌==◌, Bool, not, ◌&&◌, List, length, Some}
use Rattle.rv_stmt.specs.declared.statement.Stmt.{Stmt}
use Rattle.rv_stmt.specs.Statement.{statement_of}
use Rattle.rv_program.specs.Changes.{program_after}
use Rattle.rv_program.specs.Constants.{constant_through, constant_of}
use Rattle.rv_program.specs.Edits.{line_before_edit}
use Rattle.rv_program.specs.Program.{program_of, statement_at}
use Rattle.rv_program.specs.Text.{Edit, Insert, Delete, Replace, lines_after}
use Rattle.rv_program.specs.Uses.{is_equ}

-- a statement has no label, and is no `.equ`
abbrev pub defines_nothing : Stmt → Bool
defines_nothing s = (length s.labels == 0) && not (is_equ s.body)

-- neither has the line that an edit takes out nor the one that it puts in
abbrev pub changes_no_definition : (lines : List (List ℕ)) → Edit → Bool
changes_no_definition lines (Insert place line) = defines_nothing (statement_of line)
changes_no_definition lines (Delete place) = defines_nothing (statement_at (program_of lines) place)
changes_no_definition lines (Replace place line) = defines_nothing (statement_of line) && defines_nothing (statement_at (program_of lines) place)

-- the constants after an edit are those of before it, on each line that stood and after the last one
pub record KeepsConstants (lines : List (List ℕ)) (edit : Edit) : Type 0 where
  pub on : (k j : ℕ) → 1 ≤ k → line_before_edit edit k ≡ Some j → constant_of (program_after lines edit) k ≡ constant_of (program_of lines) j
  pub all : constant_through (program_after lines edit) (length (lines_after lines edit)) ≡ constant_through (program_of lines) (length lines)
