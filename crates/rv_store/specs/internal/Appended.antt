-- A line at the end of a text. Other lines have to do with it by the names that it defines and its local labels alone, where no section
-- moves by it.
use Rattle.std.specs.Prelude.{◌≡◌, ℕ, suc, ◌<◌, ◌≤◌, Bool, true, false, not, ◌&&◌, nat_lt, List, [], ◌∷◌, ◌++◌, length}
use Rattle.std.specs.Option.{is_some}
use Rattle.rv_expr.specs.declared.tree.Direction.TheVariants.{Forward}
use Rattle.rv_stmt.specs.declared.statement.Stmt.{Stmt}
use Rattle.rv_layout.specs.declared.measured.Measured.{Measured}
use Rattle.rv_layout.specs.Places.{section_base_of}
use Rattle.rv_layout.specs.Sections.{sections}
use Rattle.rv_layout.specs.Shapes.{shape_of}
use Rattle.rv_list.specs.declared.view.DefinitionPlace.{DefinitionPlace}
use Rattle.rv_list.specs.declared.view.DefinitionPlace.TheVariants.{Nowhere, Label, Equ}
use Rattle.rv_program.specs.declared.limits.TheConstants.{MAX_LINES}
use Rattle.rv_store.specs.declared.survey.Survey.{Survey}
use Rattle.rv_program.specs.Constants.{constant_through}
use Rattle.rv_program.specs.Definitions.{place_in_statement, definition_of, is_defined}
use Rattle.rv_program.specs.Layout.{shapes_of}
use Rattle.rv_program.specs.Program.{Program, program_of, body_at}
use Rattle.rv_program.specs.References.{among_local, local_line, equ_value}
use Rattle.rv_program.specs.internal.Locals.{lines_with}
use Rattle.rv_program.specs.internal.Rows.{in_row, AreDefinitions, AreConstants, AreEquValues, ArePlaces, AreLocals}
use Rattle.rv_store.specs.internal.Still.{Touched, is_settled, uses_any}

-- a statement at the end of a text defines a name that the text does not
abbrev pub adds : Program → Stmt → (name : List ℕ) → Bool
adds program s name = not (is_defined (definition_of program name)) && is_defined (place_in_statement (suc (length program)) s name)

-- a definition is on a line before this one
abbrev pub is_earlier : (line : ℕ) → DefinitionPlace → Bool
is_earlier line Nowhere = false
is_earlier line (Label l index) = nat_lt l line
is_earlier line (Equ l) = nat_lt l line

-- a row says which names a text defines: its own row does, and that of the text with one more line
abbrev pub TellEarlier : (lines names : List (List ℕ)) → List DefinitionPlace → Type 0
TellEarlier lines names row =
    (name : List ℕ) → is_earlier (suc (length lines)) (in_row names row Nowhere name) ≡ is_defined (definition_of (program_of lines) name)

-- the same by rows that say where names are defined, and the number of its line
abbrev pub adds_by_rows : (names : List (List ℕ)) → List DefinitionPlace → (line : ℕ) → Stmt → (name : List ℕ) → Bool
adds_by_rows names row line s name = not (is_earlier line (in_row names row Nowhere name)) && is_defined (place_in_statement line s name)

-- what it touches: the names that it adds, and local labels from a line on
abbrev pub touches : Program → Stmt → (from : ℕ) → Touched
touches program s from = record { names = adds program s; from = from }

-- each line before this one finds each of its local labels in the text
abbrev pub FindsLocals : Program → Stmt → (from : ℕ) → Type 0
FindsLocals program s from =
    (number i : ℕ) → among_local number s.labels ≡ true → i ≤ length program → i < from → is_some (local_line program i number Forward) ≡ true

-- a statement with which the lines of a text have to do by the names that it adds and its local labels alone: none of them that uses one
-- is settled
pub record IsApart (program : Program) (s : Stmt) (from : ℕ) : Type 0 where
  pub near : FindsLocals program s from
  pub unused : (i : ℕ) → 1 ≤ i → i ≤ length program → is_settled (body_at program i) ≡ true → uses_any (touches program s from) program i ≡ false

-- the shape of a statement at the end of a text
abbrev pub shape_at_end : Program → Stmt → Measured
shape_at_end program s = shape_of (constant_through program (length program)) s.body

-- all sections begin where they began, with a line of this shape at the end
abbrev pub StaySections : (base : ℕ) → Program → Measured → Type 0
StaySections base program shape =
    (t : ℕ) → t < sections → section_base_of base (shapes_of program ++ shape ∷ []) t ≡ section_base_of base (shapes_of program) t

-- Rows

-- the rows by names changed in nothing
pub record AreSameSymbols (old new : Survey) : Type 0 where
  pub definitions : new.definitions ≡ old.definitions
  pub constants : new.constants ≡ old.constants
  pub equ_values : new.equ_values ≡ old.equ_values

-- the rows by lines changed in nothing
pub record AreSameLines (old new : Survey) : Type 0 where
  pub lines : new.lines.items ≡ old.lines.items
  pub shapes : new.shapes.items ≡ old.shapes.items
  pub ends : new.ends ≡ old.ends
  pub places : new.places.items ≡ old.places.items
  pub locals : (number : ℕ) → lines_with new.locals number ≡ lines_with old.locals number
  pub highs : new.highs.items ≡ old.highs.items

-- the rows by names hold where a text defines them, and the constants and the values of the `.equ`s of its first k lines, and no row is
-- longer than there are names
pub record AreSymbols (base : ℕ) (program : Program) (k : ℕ) (names : List (List ℕ)) (s : Survey) : Type 0 where
  pub definitions : AreDefinitions program names s.definitions.items
  pub constants : AreConstants program k names s.constants.items
  pub equ_values : AreEquValues base program k names s.equ_values.items

-- each name has its place in them
pub record HavePlaces (names : List (List ℕ)) (s : Survey) : Type 0 where
  pub definitions : length s.definitions.items ≡ length names
  pub constants : length s.constants.items ≡ length names
  pub equ_values : length s.equ_values.items ≡ length names

-- A line at the end of a text that has nothing to do with it

-- the `.equ`s before it have the values that they have without it
abbrev pub StayEqus : (base : ℕ) (lines : List (List ℕ)) (line : List ℕ) → Type 0
StayEqus base lines line = equ_value base (program_of (lines ++ line ∷ [])) (length lines) ≡ equ_value base (program_of lines) (length lines)

-- the rows by lines are those of the text with the line, and the rows by names still those of the text without it
pub record IsUnsettled (base : ℕ) (lines names : List (List ℕ)) (line : List ℕ) (s : Survey) : Type 0 where
  pub more : s.lines.items ≡ lines ++ line ∷ []
  pub few : length s.lines.items ≤ MAX_LINES
  pub earlier : StayEqus base lines line
  pub symbols : AreSymbols base (program_of lines) (length lines) names s
  pub places : ArePlaces base (program_of s.lines.items) s.places.items
  pub locals : AreLocals (program_of s.lines.items) (length (program_of s.lines.items)) s.locals

-- the rows by names are those of the text with the line, but that its `.equ` has no constant and no value
pub record AreHalfForgotten (base : ℕ) (lines names : List (List ℕ)) (line : List ℕ) (survey : Survey) : Type 0 where
  pub definitions : AreDefinitions (program_of (lines ++ line ∷ [])) names survey.definitions.items
  pub constants : AreConstants (program_of lines) (length lines) names survey.constants.items
  pub equ_values : AreEquValues base (program_of lines) (length lines) names survey.equ_values.items
