-- The rows from which the values of lines are computed.
use Rattle.std.specs.Prelude.{ℕ}
use Rattle.rv_stmt.specs.declared.statement.Body.{Body}
use Rattle.rv_program.specs.declared.value_rows.ValueRows.{ValueRows}
use Rattle.rv_program.specs.Program.{Program, body_at}
use Rattle.rv_program.specs.internal.Rows.{AreShapes}
use Rattle.rv_program.specs.internal.SymbolRows.{AreSymbolRows}
use Rattle.rv_program.specs.internal.TextRows.{AreHighsIn, program_in}

abbrev pub base_of : ValueRows → ℕ
base_of rows = rows.symbols.text.base

abbrev pub program_of_rows : ValueRows → Program
program_of_rows rows = program_in rows.symbols.text

abbrev pub body_in : ValueRows → (line : ℕ) → Body
body_in rows line = body_at (program_of_rows rows) line

-- the rows are those of the text
pub record AreValueRows (rows : ValueRows) : Type 0 where
  pub symbols : AreSymbolRows rows.symbols
  pub shapes : AreShapes (program_of_rows rows) rows.shapes.now
  pub highs : AreHighsIn rows.symbols.text rows.highs.now
