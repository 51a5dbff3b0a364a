-- The symbols of a text. (docs/LANGUAGE.md, Symbols)
use Rattle.std.specs.Prelude.{ℕ, ℤ, List, Option, Some, None}
use Rattle.std.specs.Result.{result_ok}
use Rattle.rv_list.specs.declared.view.DefinitionPlace.{DefinitionPlace}
use Rattle.rv_list.specs.declared.view.DefinitionPlace.TheVariants.{Nowhere, Label as ByLabel, Equ as ByEqu}
use Rattle.rv_store.specs.declared.symbols.SymValue.{SymValue}
use Rattle.rv_store.specs.declared.symbols.SymValue.TheVariants.{Label, Equ}
use Rattle.rv_program.specs.Constants.{defined_value}
use Rattle.rv_program.specs.Definitions.{definition_of}
use Rattle.rv_program.specs.Layout.{address_at}
use Rattle.rv_program.specs.Program.{Program, body_at}
use Rattle.rv_program.specs.References.{references_at}

-- the value of an `.equ` by its line, if it is not faulty
abbrev pub equ_value_at : (base : ℕ) → Program → (line : ℕ) → Option ℤ
equ_value_at base program line = result_ok (defined_value (references_at base program line) (body_at program line))

-- what a symbol is by its definition
abbrev pub symbol_by : (base : ℕ) → Program → DefinitionPlace → Option SymValue
symbol_by base program Nowhere = None
symbol_by base program (ByLabel line index) = Some (Label (address_at base program line))
symbol_by base program (ByEqu line) = Some (Equ (equ_value_at base program line))

abbrev pub symbol_of : (base : ℕ) → Program → (name : List ℕ) → Option SymValue
symbol_of base program name = symbol_by base program (definition_of program name)

-- the value of a symbol that is defined by an `.equ`
abbrev pub equ_value_by : (base : ℕ) → Program → DefinitionPlace → Option ℤ
equ_value_by base program (ByEqu line) = equ_value_at base program line
equ_value_by base program place = None

abbrev pub equ_value_of : (base : ℕ) → Program → (name : List ℕ) → Option ℤ
equ_value_of base program name = equ_value_by base program (definition_of program name)
