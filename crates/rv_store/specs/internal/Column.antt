-- A column of lines, and edits of it.
use Rattle.std.specs.Prelude.{ℕ, ◌<◌, List, length, take, set, Option, Some, None}
use Rattle.rv_program.specs.Text.{Edit, Insert, Delete, Replace}

-- the lines, and for how many there is room
pub record Listed : Type 0 where
  pub items : List (List ℕ)
  pub room : ℕ

-- the edit takes no memory
abbrev pub HasRoom : Listed → Edit → Type 0
HasRoom column (Insert place line) = length column.items < column.room
HasRoom column (Delete place) = Unit {0}
HasRoom column (Replace place line) = Unit {0}

-- a row with what was at a place, or without what was put after its end
abbrev pub taken_back : {A : Type 0} → List A → (place : ℕ) → Option A → List A
taken_back row place None = take place row
taken_back row place (Some a) = set row place a
