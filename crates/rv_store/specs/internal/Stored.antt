-- What a store holds of a text.
use Rattle.std.specs.Prelude.{◌≡◌, ℕ, ◌≤◌, true, List, length}
use Rattle.std.specs.List.{AllPass}
use Rattle.rv_program.specs.declared.item.Item.{Item}
use Rattle.rv_program.specs.declared.limits.TheConstants.{MAX_LINES}
use Rattle.rv_store.specs.declared.survey.Survey.{Survey}
use Rattle.rv_layout.specs.Places.{is_base}
use Rattle.rv_program.specs.internal.Items.{AreItems}
use Rattle.rv_program.specs.Program.{program_of}
use Rattle.rv_store.specs.internal.Surveys.{IsSurvey}
use Rattle.rv_program.specs.Text.{is_line}

-- the base is a right one, the lines are few and each is one, and what is kept is what the definitions give for them
pub record IsStored (base : ℕ) (lines names : List (List ℕ)) (survey : Survey) (items : List Item) : Type 0 where
  pub based : is_base base ≡ true
  pub lined : AllPass is_line lines
  pub few : length lines ≤ MAX_LINES
  pub listed : survey.lines.items ≡ lines
  pub surveyed : IsSurvey base (program_of lines) names survey
  pub assembled : AreItems base lines items
