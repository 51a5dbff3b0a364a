-- Edits that move no line.
use Rattle.std.specs.Prelude.{◌≡◌, ◌-◌, ◌≤◌, List, length, get_or}
use Rattle.rv_layout.specs.declared.measured.Measured.{Measured}
use Rattle.rv_layout.specs.declared.measured.Measured.TheVariants.{Nothing}
use Rattle.rv_list.specs.declared.view.LinePlace.{LinePlace}
use Rattle.rv_program.specs.Text.{Edit, Insert, Delete, Replace}
use Rattle.rv_store.specs.internal.Alike.{room_of}
use Rattle.rv_program.specs.internal.EditedRows.{edited_row}

-- where lines have these shapes, an edit that puts in a line of this one leaves all others where they are: a line that it puts in between
-- others, or takes out, has no bytes and switches no section, and one that it puts in the place of another lies as that did
abbrev pub MovesNone : List Measured → Edit → (shape : Measured) → Type 0
MovesNone ms (Insert place line) shape = (place ≤ length ms) × (room_of shape ≡ Nothing)
MovesNone ms (Delete place) shape = room_of (get_or ms (place - 1) Nothing) ≡ Nothing
MovesNone ms (Replace place line) shape = room_of (get_or ms (place - 1) Nothing) ≡ room_of shape

-- these are the shapes after such an edit
pub record AreUnmoved (ms : List Measured) (edit : Edit) (after : List Measured) : Type 0 where
  pub shape : Measured
  pub none : MovesNone ms edit shape
  pub shapes : after ≡ edited_row ms edit shape

-- where the line lies that such an edit puts in, where this lay at its place
abbrev pub place_put_in : Edit → LinePlace → LinePlace
place_put_in (Insert place line) there = record { section = there.section; address = there.address; size = 0 }
place_put_in (Delete place) there = there
place_put_in (Replace place line) there = there
