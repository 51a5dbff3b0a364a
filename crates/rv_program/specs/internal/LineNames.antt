-- What names give on a line, by the rows that are kept of its text.
use Rattle.std.specs.Prelude.{ℕ, pos, List, Option, Some, None, ok_or, Result, Ok, Err}
use Rattle.rv_expr.specs.declared.faults.ValueFault.{ValueFault}
use Rattle.rv_expr.specs.declared.faults.ValueFault.TheVariants.{Undefined, LaterEqu}
use Rattle.rv_expr.specs.declared.tree.LabelReference.{LabelReference}
use Rattle.rv_expr.specs.declared.tree.LabelReference.TheVariants as reference
use Rattle.rv_expr.specs.Value.{Environment}
use Rattle.rv_stmt.specs.Readings.{and_then}
use Rattle.rv_fix.specs.Values.{Entry}
use Rattle.rv_list.specs.declared.view.DefinitionPlace.{DefinitionPlace}
use Rattle.rv_list.specs.declared.view.DefinitionPlace.TheVariants.{Nowhere}
use Rattle.rv_program.specs.declared.line_names.LineNames.{LineNames}
use Rattle.rv_list.specs.declared.view.LinePlace.{LinePlace}
use Rattle.rv_program.specs.declared.text_rows.TextRows.{TextRows}
use Rattle.rv_program.specs.internal.Locals.{local_line_in}
use Rattle.rv_program.specs.internal.PairedHighs.{high_in}
use Rattle.rv_program.specs.References.{line_of_place, by_definition}
use Rattle.rv_program.specs.internal.Rows.{in_row}
use Rattle.rv_program.specs.internal.TextRows.{address_in}

abbrev pub address_of_found : List LinePlace → Option ℕ → Entry
address_of_found places None = Err Undefined
address_of_found places (Some line) = Ok (pos (address_in places line))

abbrev pub definition_in : TextRows → (name : List ℕ) → DefinitionPlace
definition_in text name = in_row text.names.now text.definitions.now Nowhere name

-- the line of the label that `%pcrel_lo` names on a line
abbrev pub label_line_in : TextRows → (line : ℕ) → LabelReference → Result ℕ ValueFault
label_line_in text line (reference.Symbol name) = line_of_place (definition_in text name)
label_line_in text line (reference.Local number direction) =
    ok_or (local_line_in text.locals.now line number direction) Undefined
label_line_in text line reference.Here = Err Undefined

-- what names give on a line at the address `here`, where the `.equ`s of the first lines may be used: by the values of the `.equ`s, and the
-- high halves that `%pcrel_lo` takes
abbrev pub names_by : TextRows → (equ_values highs : List Entry) → (line usable_equs here : ℕ) → Environment
names_by text equ_values highs line usable_equs here = record {
  symbol = λ name.
      by_definition (address_in text.places.now) usable_equs (definition_in text name) (in_row text.names.now equ_values (Err LaterEqu) name);
  local = λ number direction. address_of_found text.places.now (local_line_in text.locals.now line number direction);
  here = Ok (pos here);
  paired_high = λ label. and_then (label_line_in text line label) (high_in highs);
}

-- what the names of a line give
abbrev pub given_by : LineNames → (here : ℕ) → Environment
given_by given here = names_by given.text given.equ_values.now given.highs.now given.line given.usable_equs here
