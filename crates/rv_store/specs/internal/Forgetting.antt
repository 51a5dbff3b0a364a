-- The names that a text defines, among those that have numbers.
use Rattle.std.specs.Prelude.{◌≡◌, ℕ, ◌+◌, ◌*◌, Bool, nat_lt, List, length, map, take, None, Err}
use Rattle.std.specs.List.{filter}
use Rattle.rv_expr.specs.declared.faults.ValueFault.TheVariants.{LaterEqu}
use Rattle.rv_list.specs.declared.view.DefinitionPlace.{DefinitionPlace}
use Rattle.rv_list.specs.declared.view.DefinitionPlace.TheVariants.{Nowhere}
use Rattle.rv_store.specs.declared.forgetting.Remembered.{Remembered}
use Rattle.rv_store.specs.declared.survey.Survey.{Survey}
use Rattle.rv_program.specs.Definitions.{is_defined}
use Rattle.rv_program.specs.internal.Rows.{in_row}

-- more than twice as many names have numbers as are defined, and 16 more
abbrev pub has_many_others : (names : List (List ℕ)) → (definitions : List DefinitionPlace) → Bool
has_many_others names definitions = nat_lt (2 * length (filter is_defined definitions) + 16) (length names)

-- Of the first k names those that are defined, in the order of their numbers, and the rows by their new numbers, which hold for
-- each what the rows of the survey do.
pub record AreRemembered (all : List (List ℕ)) (survey : Survey) (k : ℕ) (r : Remembered) : Type 0 where
  pub names : r.names ≡ filter (λ name. is_defined (in_row all survey.definitions.items Nowhere name)) (take k all)
  pub definitions : r.definitions.items ≡ map (in_row all survey.definitions.items Nowhere) r.names
  pub constants : r.constants.items ≡ map (in_row all survey.constants.items None) r.names
  pub equ_values : r.equ_values.items ≡ map (in_row all survey.equ_values.items (Err LaterEqu)) r.names
