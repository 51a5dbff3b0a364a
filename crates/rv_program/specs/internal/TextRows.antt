-- The rows that are kept of a text, together.
use Rattle.std.specs.Prelude.{ℕ, ◌-◌, List, length, get_or}
use Rattle.rv_expr.specs.Value.{Environment}
use Rattle.rv_stmt.specs.declared.section.Sect.TheVariants.{Text}
use Rattle.rv_fix.specs.Values.{Entry}
use Rattle.rv_list.specs.declared.view.LinePlace.{LinePlace}
use Rattle.rv_program.specs.declared.text_rows.TextRows.{TextRows}
use Rattle.rv_program.specs.Layout.{address_at}
use Rattle.rv_program.specs.Program.{Program, program_of}
use Rattle.rv_program.specs.References.{names_on, symbol_through, no_pairs}
use Rattle.rv_program.specs.internal.Rows.{AreDefinitions, AreEquValues, ArePlaces, AreHighs, AreLocals}

-- what stands past the end
abbrev pub no_place : LinePlace
no_place = record { section = Text; address = 0; size = 0 }

abbrev pub address_in : List LinePlace → (line : ℕ) → ℕ
address_in places line = (get_or places (line - 1) no_place).address

abbrev pub program_in : TextRows → Program
program_in text = program_of text.lines.now

-- the rows are those of the text
pub record AreTextRows (text : TextRows) : Type 0 where
  pub defined : AreDefinitions (program_in text) text.names.now text.definitions.now
  pub placed : ArePlaces text.base (program_in text) text.places.now
  pub located : AreLocals (program_in text) (length (program_in text)) text.locals.now

-- the values of the `.equ`s of the first k lines
abbrev pub AreEquValuesIn : TextRows → (k : ℕ) → List Entry → Type 0
AreEquValuesIn text k row = AreEquValues text.base (program_in text) k text.names.now row

abbrev pub AreHighsIn : TextRows → List Entry → Type 0
AreHighsIn text row = AreHighs text.base (program_in text) row

abbrev pub address_in_text : TextRows → (i : ℕ) → ℕ
address_in_text text i = address_at text.base (program_in text) i

-- what names give in the expressions of line i, where the `.equ`s of the first k lines may be used
abbrev pub references_through : TextRows → (k i : ℕ) → Environment
references_through text k i =
    names_on text.base (program_in text) i (symbol_through text.base (program_in text) k) no_pairs
