-- What is kept of a text: what its lines say, in rows.
use Rattle.std.specs.Prelude.{◌≡◌, ℕ, List, length}
use Rattle.rv_layout.specs.Places.{AreLimited}
use Rattle.rv_store.specs.declared.survey.Survey.{Survey}
use Rattle.rv_store.specs.internal.Ends.{ends_of}
use Rattle.rv_program.specs.Program.{Program}
use Rattle.rv_program.specs.internal.Rows.{AreDefinitions, AreConstants, AreEquValues, AreShapes, ArePlaces, AreHighs, AreLocals}

pub record IsSurvey (base : ℕ) (program : Program) (names : List (List ℕ)) (s : Survey) : Type 0 where
  pub definitions : AreDefinitions program names s.definitions.items
  pub constants : AreConstants program (length program) names s.constants.items
  pub shapes : AreShapes program s.shapes.items
  pub limited : AreLimited s.shapes.items
  pub ends : s.ends ≡ ends_of s.shapes.items
  pub places : ArePlaces base program s.places.items
  pub locals : AreLocals program (length program) s.locals
  pub equ_values : AreEquValues base program (length program) names s.equ_values.items
  pub highs : AreHighs base program s.highs.items
