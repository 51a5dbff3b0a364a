-- Definitions of names, joined in the order of the text.
use Rattle.std.specs.Prelude.{◌≡◌, ℕ, nat_le, Bool, true, false, List, [], ◌∷◌, bytes_eq, if◌then◌else◌}
use Rattle.rv_stmt.specs.declared.statement.Body.{Body}
use Rattle.rv_stmt.specs.declared.statement.Body.TheVariants.{Equ as EquBody}
use Rattle.rv_stmt.specs.declared.statement.Stmt.{Stmt}
use Rattle.rv_stmt.specs.LabelNames.{Label, LabelName, Symbol, Local}
use Rattle.rv_list.specs.declared.view.DefinitionPlace.{DefinitionPlace}
use Rattle.rv_list.specs.declared.view.DefinitionPlace.TheVariants.{Nowhere, Label as ByLabel, Equ}
use Rattle.rv_program.specs.Definitions.{defines_symbol, or_place}
use Rattle.rv_program.specs.internal.Rows.{has_number}

-- the definition of each name of a part of the text
abbrev pub Definitions : Type 0
Definitions = (name : List ℕ) → DefinitionPlace

-- one name, and no other
abbrev pub only : (symbol : List ℕ) → DefinitionPlace → Definitions
only symbol place name = if bytes_eq symbol name then place else Nowhere

-- those of a label
abbrev pub of_label : (line index : ℕ) → Label → Definitions
of_label line index l name = if defines_symbol l.name name then ByLabel line index else Nowhere

-- those of one part of the text and then of another
abbrev pub then_also : Definitions → Definitions → Definitions
then_also first second name = or_place (first name) (second name)

-- a definition on this line or before it
abbrev pub is_up_to : (line : ℕ) → DefinitionPlace → Bool
is_up_to line Nowhere = false
is_up_to line (ByLabel l index) = nat_le l line
is_up_to line (Equ l) = nat_le l line

-- the first one of two definitions, the second of which is on this line
abbrev pub or_here : (line : ℕ) → (other here : DefinitionPlace) → DefinitionPlace
or_here line other here = if is_up_to line other then other else or_place here other

-- those of a text, and those of a part of this line
abbrev pub also_on : (line : ℕ) → (others here : Definitions) → Definitions
also_on line others here name = or_here line (others name) (here name)

-- a definition on this line, or none
abbrev pub IsOn : (line : ℕ) → DefinitionPlace → Type 0
IsOn line Nowhere = Unit {0}
IsOn line (ByLabel l index) = l ≡ line
IsOn line (Equ l) = l ≡ line

-- the symbol of a label has a number
abbrev pub IsLabelNumbered : (names : List (List ℕ)) → LabelName → Type 0
IsLabelNumbered names (Symbol symbol) = has_number names symbol ≡ true
IsLabelNumbered names (Local number) = Unit {0}

abbrev pub AreLabelsNumbered : (names : List (List ℕ)) → List Label → Type 0
AreLabelsNumbered names [] = Unit {0}
AreLabelsNumbered names (l ∷ ls) = IsLabelNumbered names l.name × AreLabelsNumbered names ls

-- the symbol of an `.equ` has one
abbrev pub IsBodyNumbered : (names : List (List ℕ)) → Body → Type 0
IsBodyNumbered names (EquBody d) = has_number names d.symbol ≡ true
IsBodyNumbered names body = Unit {0}

-- the names that a statement defines have numbers
abbrev pub IsNumbered : (names : List (List ℕ)) → Stmt → Type 0
IsNumbered names s = AreLabelsNumbered names s.labels × IsBodyNumbered names s.body
