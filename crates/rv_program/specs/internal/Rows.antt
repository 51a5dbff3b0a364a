-- What the rows hold that are kept of a text: one value for each name, by the name's number, or one for each line.
use Rattle.std.specs.Prelude.{◌≡◌, ℕ, ℤ, suc, ◌<◌, ◌≤◌, ◌==◌, Bool, List, ◌++◌, length, get_or, position, bytes_eq, Option, Some, None, Err, if◌then◌else◌}
use Rattle.std.specs.Option.{is_some}
use Rattle.rv_expr.specs.declared.faults.ValueFault.TheVariants.{LaterEqu, NoPartner}
use Rattle.rv_layout.specs.declared.measured.Measured.{Measured}
use Rattle.rv_fix.specs.Values.{Entry}
use Rattle.rv_list.specs.declared.view.DefinitionPlace.{DefinitionPlace}
use Rattle.rv_list.specs.declared.view.DefinitionPlace.TheVariants.{Nowhere}
use Rattle.rv_list.specs.declared.view.LinePlace.{LinePlace}
use Rattle.rv_program.specs.declared.local_row.LocalRow.{LocalRow}
use Rattle.rv_program.specs.Constants.{constant_through}
use Rattle.rv_program.specs.Definitions.{definition_of}
use Rattle.rv_program.specs.internal.Locals.{lines_with}
use Rattle.rv_program.specs.Layout.{shapes_of, size_at, place_at}
use Rattle.rv_program.specs.Pairs.{high_at, paired_high_of}
use Rattle.rv_program.specs.Program.{Program, for_lines, lines_that}
use Rattle.rv_program.specs.References.{has_local, equ_value}

-- Numbers of names

-- the number of a name among those that have one, from 0 on
abbrev pub number_of : (names : List (List ℕ)) → (name : List ℕ) → Option ℕ
number_of names name = position (bytes_eq name) names

-- a name has a number
abbrev pub has_number : (names : List (List ℕ)) → (name : List ℕ) → Bool
has_number names name = is_some (number_of names name)

-- the number is that of a name
abbrev pub IsNumber : (names : List (List ℕ)) → Option ℕ → Type 0
IsNumber names number = (name : List ℕ) × (number_of names name ≡ number)

abbrev pub entry_at : {A : Type 0} → List A → (other : A) → Option ℕ → A
entry_at row other None = other
entry_at row other (Some number) = get_or row number other

-- what a row holds for a name; what has no place in the row has the other value
abbrev pub in_row : {A : Type 0} → (names : List (List ℕ)) → List A → (other : A) → (name : List ℕ) → A
in_row names row other name = entry_at row other (number_of names name)

-- names that have numbers keep them when more names get one
abbrev pub Grows : (old new : List (List ℕ)) → Type 0
Grows old new = (more : List (List ℕ)) × (new ≡ old ++ more)

-- Rows by names: no longer than there are names

pub record HoldsByName {A : Type 0} (names : List (List ℕ)) (row : List A) (other : A) (f : List ℕ → A) : Type 0 where
  pub each : in_row names row other ≡ f
  pub within : length row ≤ length names

abbrev pub AreDefinitions : Program → (names : List (List ℕ)) → List DefinitionPlace → Type 0
AreDefinitions program names row = HoldsByName names row Nowhere (definition_of program)

-- the constants of the first k lines
abbrev pub AreConstants : Program → (k : ℕ) → (names : List (List ℕ)) → List (Option ℤ) → Type 0
AreConstants program k names row = HoldsByName names row None (constant_through program k)

-- the values of the `.equ`s of the first k lines
abbrev pub AreEquValues : (base : ℕ) → Program → (k : ℕ) → (names : List (List ℕ)) → List Entry → Type 0
AreEquValues base program k names row = HoldsByName names row (Err LaterEqu) (equ_value base program k)

-- Rows by lines

abbrev pub AreShapes : Program → List Measured → Type 0
AreShapes program row = row ≡ shapes_of program

abbrev pub ArePlaces : (base : ℕ) → Program → List LinePlace → Type 0
ArePlaces base program row = row ≡ for_lines (place_at base program) (length program)

-- the high half on a line, if it has bytes
abbrev pub own_high_of : (base : ℕ) → Program → (i : ℕ) → Entry
own_high_of base program i = if size_at program i == 0 then Err NoPartner else high_at base program i

-- that on each line
pub record AreOwnHighs (base : ℕ) (program : Program) (row : List Entry) : Type 0 where
  pub each : (k : ℕ) → k < length program → get_or row k (Err NoPartner) ≡ own_high_of base program (suc k)
  pub within : length row ≤ length program

-- what `%pcrel_lo` of a label on each line takes; the row may end before the lines do, if there is nothing for those behind its end
pub record AreHighs (base : ℕ) (program : Program) (row : List Entry) : Type 0 where
  pub each : (k : ℕ) → k < length program → get_or row k (Err NoPartner) ≡ paired_high_of base program (suc k)
  pub within : length row ≤ length program

-- the lines of local labels, by their numbers: those of the first k lines
abbrev pub AreLocals : Program → (k : ℕ) → List LocalRow → Type 0
AreLocals program k rows = (number : ℕ) → lines_with rows number ≡ lines_that (has_local program number) k
