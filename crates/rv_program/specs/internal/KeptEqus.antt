-- The values of the `.equ`s of a text after an edit, where some are those that the row of the text before it has.
use Rattle.std.specs.Prelude.{◌≡◌, ℕ, ◌<◌, ◌≤◌, true, false, List, length, Some, None, Err}
use Rattle.rv_expr.specs.declared.faults.ValueFault.TheVariants.{LaterEqu}
use Rattle.rv_fix.specs.Values.{Entry}
use Rattle.rv_list.specs.declared.view.DefinitionPlace.{DefinitionPlace}
use Rattle.rv_list.specs.declared.view.DefinitionPlace.TheVariants.{Nowhere, Label as ByLabel, Equ}
use Rattle.rv_program.specs.declared.before.Before.{Before}
use Rattle.rv_program.specs.declared.text_rows.TextRows.{TextRows}
use Rattle.rv_program.specs.Definitions.{definition_of, equ_line}
use Rattle.rv_program.specs.Edits.{line_before_edit}
use Rattle.rv_program.specs.internal.Before.{base_before, lines_before, edit_on}
use Rattle.rv_program.specs.internal.NameSets.{bucket_of, Marks, has_bucket, brief_of_names, IsOutside}
use Rattle.rv_program.specs.internal.Rows.{in_row}
use Rattle.rv_program.specs.internal.TextRows.{program_in}
use Rattle.rv_program.specs.Layout.{address_at}
use Rattle.rv_program.specs.Program.{Program, body_at}
use Rattle.rv_program.specs.References.{equ_value}
use Rattle.rv_program.specs.Uses.{names_used, uses_address, uses_local_label}

abbrev pub program_before : Before → Program
program_before before = program_in before.symbols.text

-- the value that an `.equ` gave before the edit
abbrev pub former_value : Before → (name : List ℕ) → Entry
former_value before name = equ_value (base_before before) (program_before before) (length (lines_before before)) name

-- a symbol gives what it gave on the lines after the first k, where only the `.equ`s of these may be used: it is defined nowhere, or by a label at the
-- address of the former one, or by the `.equ` that defined it, which has the same value if it is one of these
abbrev pub GivesSame : Before → TextRows → (k : ℕ) → (name : List ℕ) → (place former : DefinitionPlace) → Type 0
GivesSame before text k name Nowhere Nowhere = Unit {0}
GivesSame before text k name (ByLabel line index) (ByLabel stood other) =
    address_at text.base (program_in text) line ≡ address_at (base_before before) (program_before before) stood
GivesSame before text k name (Equ line) (Equ stood) =
    (line_before_edit (edit_on before) line ≡ Some stood)
    × (line ≤ k → equ_value text.base (program_in text) k name ≡ former_value before name)
GivesSame before text k name place former = ⊥

abbrev pub IsSameThrough : Before → TextRows → (k : ℕ) → (name : List ℕ) → Type 0
IsSameThrough before text k name =
    GivesSame before text k name (definition_of (program_in text) name) (definition_of (program_before before) name)

-- an `.equ` that stood before the edit, and defines the symbol, defined it then
abbrev pub IsDefinedAsBefore : Before → TextRows → (name : List ℕ) → Type 0
IsDefinedAsBefore before text name =
    (line stood : ℕ) → definition_of (program_in text) name ≡ Equ line → line_before_edit (edit_on before) line ≡ Some stood
    → definition_of (program_before before) name ≡ Equ stood

-- the row has the values of the `.equ`s of the first k lines, whatever it has for others
abbrev pub HasValuesThrough : TextRows → (k : ℕ) → List Entry → Type 0
HasValuesThrough text k row =
    (name : List ℕ) (line : ℕ) → definition_of (program_in text) name ≡ Equ line → line ≤ k
    → in_row text.names.now row (Err LaterEqu) name ≡ equ_value text.base (program_in text) k name

-- for an `.equ` after the first k lines that stood it has what that gave
abbrev pub HasFormerValues : Before → TextRows → (k : ℕ) → List Entry → Type 0
HasFormerValues before text k row =
    (name : List ℕ) (line stood : ℕ) → definition_of (program_in text) name ≡ Equ line → definition_of (program_before before) name ≡ Equ stood
    → line_before_edit (edit_on before) line ≡ Some stood → k < line
    → in_row text.names.now row (Err LaterEqu) name ≡ former_value before name

-- a symbol that no `.equ` defines has no value
abbrev pub HasNoOthers : TextRows → List Entry → Type 0
HasNoOthers text row =
    (name : List ℕ) → equ_line (definition_of (program_in text) name) ≡ None → in_row text.names.now row (Err LaterEqu) name ≡ Err LaterEqu

-- the row as far as the first k lines, and a set of the symbols that may give something else on the next one
pub record AreValuesAfter (before : Before) (text : TextRows) (k : ℕ) (row : List Entry) (set : Marks) : Type 0 where
  pub known : HasValuesThrough text k row
  pub former : HasFormerValues before text k row
  pub others : HasNoOthers text row
  pub same : (name : List ℕ) → has_bucket set (bucket_of name) ≡ false → IsSameThrough before text k name
  pub defined : (name : List ℕ) → IsDefinedAsBefore before text name
  pub as_many : length row ≡ length text.names.now

-- a line stood before the edit, and what it uses gives what it gave
pub record IsLeft (before : Before) (text : TextRows) (line : ℕ) (set : Marks) : Type 0 where
  pub stood : ℕ
  pub stands : line_before_edit (edit_on before) line ≡ Some stood
  pub names : IsOutside (brief_of_names (names_used (body_at (program_in text) line))) set
  pub address : uses_address (body_at (program_in text) line) ≡ true
      → address_at text.base (program_in text) line ≡ address_at (base_before before) (program_before before) stood
  pub local : uses_local_label (body_at (program_in text) line) ≡ false
