-- The shapes and the constants of a text after an edit, up to a line.
use Rattle.std.proofs.Common.{◌≡◌, ℕ, suc, ℤ, ◌+◌, ◌*◌, ◌<◌, ◌≤◌, false, ◌&&◌, List, [], length, get_or, Option, arith, ap, sym, ◌∙◌}
use Rattle.std.proofs.lemmas.Bool.{or_parts}
use Rattle.std.proofs.lemmas.List.{get_or_default}
use Rattle.rv_stmt.specs.Statement.{statement_of}
use Rattle.rv_layout.specs.declared.measured.Measured.{Measured}
use Rattle.rv_layout.specs.Shapes.{size_operands}
use Rattle.rv_program.specs.declared.before.Before.{Before}
use Rattle.rv_program.specs.declared.mask.Kind.TheVariants.{Shaped}
use Rattle.rv_program.specs.Changes.{program_after}
use Rattle.rv_program.specs.Layout.{shape_at}
use Rattle.rv_program.specs.Program.{program_of, body_at}
use Rattle.rv_program.specs.Text.{lines_after}
use Rattle.rv_program.specs.Uses.{is_sized, is_equ, uses_symbols}
use Rattle.rv_program.specs.internal.Before.{IsBefore, base_before, lines_before, edit_on}
use Rattle.rv_program.specs.internal.LinesWithout.{is_of_kind, AreWithout}
use Rattle.rv_program.specs.internal.NewShapes.{IsNewShape, shape_operands_through}
use Rattle.rv_program.specs.internal.Rows.{AreConstants}
use Rattle.rv_program.specs.internal.Work.{equ_operands, operands_through, work}
use Rattle.rv_program.specs.lemmas.KeptShapes.{body-on}
use Rattle.rv_program.specs.lemmas.NewShapeLaws.{through-next}
use Rattle.rv_program.specs.lemmas.Programs.{kept-past}
use Rattle.rv_program.specs.lemmas.ShapeWork.{operands-next}
use Rattle.rv_program.specs.internal.EditedRows.{edited_row}
use Rattle.rv_store.specs.internal.EditedRows.{shapes_through}
use Rattle.rv_store.proofs.FormerShapes.{former, former-length, former-stays, constants-stay, through-kept}

-- the rows after the first i lines, where so many expressions were computed before them, and so many are now
pub record AreSettled (before : Before) (lines : List (List ℕ)) (shape : Measured) (start i : ℕ) (row : List Measured) (constant_row : List (Option ℤ)) (count : ℕ) : Type 0 where
  pub shapes : row ≡ shapes_through (program_of lines) (edited_row before.shapes.now (edit_on before) shape) i
  pub constants : AreConstants (program_of lines) i before.symbols.text.names.now constant_row
  pub most : count ≤ start + 2 * i
  pub work : count + shape_operands_through (edit_on before) i ≤ start
      + work size_operands (base_before before) (lines_before before) (edit_on before) i
      + operands_through equ_operands (program_after (lines_before before) (edit_on before)) i

module _ (before : Before) (is : IsBefore before) (lines : List (List ℕ)) (after : lines ≡ lines_after (lines_before before) (edit_on before)) (shape : Measured) (new : IsNewShape (lines_before before) (edit_on before) shape) (start : ℕ) (row : List Measured) (constant_row : List (Option ℤ)) (count : ℕ) where
  -- what is computed for one line more
  pub operands-through : (i : ℕ) → operands_through equ_operands (program_after (lines_before before) (edit_on before)) (i + 1) ≡ operands_through equ_operands (program_after (lines_before before) (edit_on before)) i + equ_operands (body_at (program_of lines) (i + 1))
  operands-through i =
      operands-next equ_operands (program_after (lines_before before) (edit_on before)) i
      ∙ ap (λ ls. operands_through equ_operands (program_after (lines_before before) (edit_on before)) i + equ_operands (body_at (program_of ls) (i + 1))) (sym after)

  settled-next : (i : ℕ) → i < length lines → is_of_kind Shaped (body_at (program_of lines) (suc i)) ≡ false → AreSettled before lines shape start i row constant_row count → AreSettled before lines shape start (i + 1) row constant_row count
  settled-next i within none settled =
      let text = get_or lines i [] in
      let read : text ≡ get_or lines i text = get_or_default lines i [] text within in
      let body : (statement_of text).body ≡ body_at (program_of lines) (suc i) = body-on lines i text within read ∙ ap (body_at (program_of lines)) (let e : i + 1 ≡ suc i = omega arith in e) in
      let parts = or_parts (is_sized (statement_of text).body && uses_symbols (statement_of text).body) (is_equ (statement_of text).body) (ap (is_of_kind Shaped) body ∙ none) in
      let other = shape_at (program_of lines) (i + 1) in
      let there : i < length (former before is lines after shape) = omega (arith, within, former-length before is lines after shape) in
      let part = through-next (base_before before) (lines_before before) (edit_on before) is.allowed i in
      let operands = operands-through i in
      record {
        shapes = settled.shapes ∙ through-kept (program_of lines) (former before is lines after shape) i other there (former-stays before is lines after shape new i text other within read parts.0);
        constants = constants-stay lines i text before.symbols.text.names.now constant_row within read parts.1 settled.constants;
        most = omega (arith, settled.most);
        work = omega (arith, settled.work, part, operands);
      }

  -- over lines that have no part in the constants
  pub settled-past : (i j : ℕ) → i ≤ j → j ≤ length lines → AreWithout (is_of_kind Shaped) (program_of lines) i j → AreSettled before lines shape start i row constant_row count → AreSettled before lines shape start j row constant_row count
  settled-past i j up last none =
      kept-past (λ k. AreSettled before lines shape start k row constant_row count) i j up (λ k first below. settled-next k (omega (arith, below, last)) (none.each k first below))
