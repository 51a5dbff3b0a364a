-- A text before an edit, and the rows of the text after it.
use Rattle.std.specs.Prelude.{◌≡◌, ℕ, ◌≤◌, false, List, length, Some, None}
use Rattle.rv_layout.specs.Places.{AreLimited}
use Rattle.rv_program.specs.declared.before.Before.{Before}
use Rattle.rv_program.specs.declared.limits.TheConstants.{MAX_LINES}
use Rattle.rv_program.specs.declared.text_rows.TextRows.{TextRows}
use Rattle.rv_program.specs.Changes.{differs_in_place}
use Rattle.rv_program.specs.Edits.{edit_of, line_before_edit}
use Rattle.rv_program.specs.internal.Rows.{AreShapes, AreHighs}
use Rattle.rv_program.specs.internal.SymbolRows.{AreSymbolRows}
use Rattle.rv_program.specs.Text.{Edit, refusal_of, lines_after}
use Rattle.rv_program.specs.internal.TextRows.{program_in}

abbrev pub base_before : Before → ℕ
base_before before = before.symbols.text.base

abbrev pub lines_before : Before → List (List ℕ)
lines_before before = before.symbols.text.lines.now

abbrev pub edit_on : Before → Edit
edit_on before = edit_of before.edit

-- the rows are those of the text, and the edit is not refused
pub record IsBefore (before : Before) : Type 0 where
  pub symbols : AreSymbolRows before.symbols
  pub shapes : AreShapes (program_in before.symbols.text) before.shapes.now
  pub limited : AreLimited before.shapes.now
  pub highs : AreHighs (base_before before) (program_in before.symbols.text) before.highs.now
  pub few : length (lines_before before) ≤ MAX_LINES
  pub allowed : refusal_of (lines_before before) (edit_on before) ≡ None

-- the rows of the text after the edit, by the same names
pub record IsAfter (before : Before) (after : TextRows) : Type 0 where
  pub base : after.base ≡ base_before before
  pub names : after.names.now ≡ before.symbols.text.names.now
  pub lines : after.lines.now ≡ lines_after (lines_before before) (edit_on before)
  pub few : length after.lines.now ≤ MAX_LINES

-- each line that stood in the text before is where it was, in the section in which it was
abbrev pub AreStill : (before : Before) → (after : TextRows) → Type 0
AreStill before after =
    (line stood : ℕ) → 1 ≤ line → line ≤ length after.lines.now → line_before_edit (edit_on before) line ≡ Some stood
    → differs_in_place (base_before before) (program_in before.symbols.text) (program_in after) line stood ≡ false
