-- What the symbols of a text are, by the rows that are kept of it.
use Rattle.std.specs.Prelude.{length}
use Rattle.rv_program.specs.declared.symbol_rows.SymbolRows.{SymbolRows}
use Rattle.rv_program.specs.internal.Rows.{AreConstants}
use Rattle.rv_program.specs.internal.TextRows.{AreTextRows, AreEquValuesIn, program_in}

-- the rows are those of the text
pub record AreSymbolRows (rows : SymbolRows) : Type 0 where
  pub text : AreTextRows rows.text
  pub constants : AreConstants (program_in rows.text) (length rows.text.lines.now) rows.text.names.now rows.constants.now
  pub equ_values : AreEquValuesIn rows.text (length rows.text.lines.now) rows.equ_values.now
