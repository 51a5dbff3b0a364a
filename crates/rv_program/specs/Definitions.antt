-- Where the names of a text are defined. (docs/LANGUAGE.md, Symbols)
use Rattle.std.specs.Prelude.{ℕ, ◌+◌, ◌==◌, Bool, true, false, List, [], ◌∷◌, bytes_eq, Option, Some, None, if◌then◌else◌}
use Rattle.rv_stmt.specs.declared.statement.Body.{Body}
use Rattle.rv_stmt.specs.declared.statement.Body.TheVariants.{Equ as EquBody}
use Rattle.rv_stmt.specs.declared.statement.Stmt.{Stmt}
use Rattle.rv_stmt.specs.LabelNames.{Label, LabelName}
use Rattle.rv_stmt.specs.LabelNames as label
use Rattle.rv_list.specs.declared.view.DefinitionPlace.{DefinitionPlace}
use Rattle.rv_list.specs.declared.view.DefinitionPlace.TheVariants.{Nowhere, Label as ByLabel, Equ}
use Rattle.rv_program.specs.Program.{Program}

abbrev pub defines_symbol : LabelName → (name : List ℕ) → Bool
defines_symbol (label.Symbol symbol) name = bytes_eq symbol name
defines_symbol (label.Local number) name = false

-- among the labels of a line, from number `index` on
abbrev pub place_among_labels : (line index : ℕ) → List Label → (name : List ℕ) → DefinitionPlace
place_among_labels line index [] name = Nowhere
place_among_labels line index (l ∷ ls) name =
    if defines_symbol l.name name then ByLabel line index else place_among_labels line (index + 1) ls name

-- by the `.equ` of a line
abbrev pub place_in_body : (line : ℕ) → Body → (name : List ℕ) → DefinitionPlace
place_in_body line (EquBody d) name = if bytes_eq d.symbol name then Equ line else Nowhere
place_in_body line body name = Nowhere

-- the one place, or the other where there is none
abbrev pub or_place : DefinitionPlace → DefinitionPlace → DefinitionPlace
or_place Nowhere other = other
or_place place other = place

-- on a line: its labels come before its `.equ`
abbrev pub place_in_statement : (line : ℕ) → Stmt → (name : List ℕ) → DefinitionPlace
place_in_statement line s name = or_place (place_among_labels line 0 s.labels name) (place_in_body line s.body name)

-- on the first line that defines the name, where the lines are numbered from `line` on
abbrev pub first_place : (line : ℕ) → Program → (name : List ℕ) → DefinitionPlace
first_place line [] name = Nowhere
first_place line (s ∷ ss) name = or_place (place_in_statement line s name) (first_place (line + 1) ss name)

-- the definition of a name: the first one in the text
abbrev pub definition_of : Program → (name : List ℕ) → DefinitionPlace
definition_of program name = first_place 1 program name

-- there is a definition
abbrev pub is_defined : DefinitionPlace → Bool
is_defined Nowhere = false
is_defined place = true

-- it is the `.equ` of this line
abbrev pub is_equ_on : (line : ℕ) → DefinitionPlace → Bool
is_equ_on line (Equ d) = d == line
is_equ_on line place = false

-- the line of the `.equ` that it is
abbrev pub equ_line : DefinitionPlace → Option ℕ
equ_line (Equ line) = Some line
equ_line place = None
