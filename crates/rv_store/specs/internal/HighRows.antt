-- The rows of a text but for that of the high halves, which gets its values after them.
use Rattle.std.specs.Prelude.{◌≡◌, ℕ, ◌+◌, ◌≤◌, List, length, Option, Some, None}
use Rattle.rv_text.specs.Counting.{Counts}
use Rattle.rv_layout.specs.Places.{AreLimited}
use Rattle.rv_fix.specs.Values.{Entry}
use Rattle.rv_list.specs.declared.view.LinePlace.{LinePlace}
use Rattle.rv_program.specs.internal.Renewals.{AreCounted}
use Rattle.rv_program.specs.internal.Revisions.{EditedText}
use Rattle.rv_store.specs.internal.Waiting.{HaveHigh}
use Rattle.rv_store.specs.declared.survey.Survey.{Survey}
use Rattle.rv_store.specs.internal.Ends.{ends_of}
use Rattle.rv_program.specs.Program.{Program}
use Rattle.rv_program.specs.internal.Rows.{AreDefinitions, AreConstants, AreEquValues, AreShapes, ArePlaces, AreLocals}

pub record AreRows (base : ℕ) (program : Program) (names : List (List ℕ)) (s : Survey) : Type 0 where
  pub definitions : AreDefinitions program names s.definitions.items
  pub constants : AreConstants program (length program) names s.constants.items
  pub shapes : AreShapes program s.shapes.items
  pub limited : AreLimited s.shapes.items
  pub ends : s.ends ≡ ends_of s.shapes.items
  pub places : ArePlaces base program s.places.items
  pub locals : AreLocals program (length program) s.locals
  pub equ_values : AreEquValues base program (length program) names s.equ_values.items

-- they changed in nothing
pub record StayButHighs (old new : Survey) : Type 0 where
  pub lines : new.lines ≡ old.lines
  pub definitions : new.definitions ≡ old.definitions
  pub constants : new.constants ≡ old.constants
  pub shapes : new.shapes ≡ old.shapes
  pub ends : new.ends ≡ old.ends
  pub places : new.places ≡ old.places
  pub locals : new.locals ≡ old.locals
  pub equ_values : new.equ_values ≡ old.equ_values

-- The row of high halves

-- it got the high half of a line for the lines of its section after the first lines, if that line adds one
abbrev pub GetHigh : (waiting : Option ℕ) → List LinePlace → (section : ℕ) → (high : Entry) → (old new : List Entry) → Type 0
GetHigh None places section high old new = new ≡ old
GetHigh (Some first) places section high old new = HaveHigh places section first high old new

-- how many expressions are computed for it
abbrev pub added_highs : (waiting : Option ℕ) → ℕ
added_highs None = 0
added_highs (Some first) = 1

-- first it is counted, and then the items of so many lines
pub record AreCountedWithHigh (r : EditedText) (n : ℕ) (waiting : Option ℕ) (old new : Counts) : Type 0 where
  pub between : Counts
  pub parsed : between.parsed ≡ old.parsed
  pub least : old.valued ≤ between.valued
  pub most : between.valued ≤ old.valued + added_highs waiting
  pub encoded : between.encoded ≡ old.encoded
  pub items : AreCounted r 0 n between new
