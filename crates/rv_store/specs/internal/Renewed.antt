-- Items of a text before an edit, by which those of the text after it are made.
use Rattle.std.specs.Prelude.{◌≡◌, ℕ, ◌+◌, ◌<◌, ◌≤◌, List, length, None}
use Rattle.rv_program.specs.declared.edit.LineEdit.{LineEdit}
use Rattle.rv_program.specs.declared.item.Item.{Item}
use Rattle.rv_program.specs.Edits.{edit_of, line_before_edit, place_of_edit}
use Rattle.rv_program.specs.Text.{Edit, refusal_of, lines_after}
use Rattle.rv_program.specs.internal.Former.{AreFormer}
use Rattle.rv_program.specs.internal.Items.{AreItems}
use Rattle.rv_program.specs.internal.Lines.{lines_of}
use Rattle.rv_program.specs.internal.Revisions.{EditedText, AreDue}
use Rattle.rv_store.specs.declared.still.Still.{Still}
use Rattle.rv_store.specs.internal.Still.{IsPutEdit}
use Rattle.rv_store.specs.internal.StillLines.{IsStillLine}

-- a text and an edit of the code
abbrev pub edited_by : (base : ℕ) → (lines : List (List ℕ)) → LineEdit → EditedText
edited_by base lines edit = record { base = base; lines = lines; edit = edit_of edit }

-- there is an item for each of so many lines of the text after the edit, or for each but the last one, which the edit puts in; each keeps
-- what was kept of its line, and these lines are due
pub record AreItemsLeft (r : EditedText) (items : List Item) (due : List ℕ) (count : ℕ) : Type 0 where
  pub few : length items ≤ count
  pub next : count ≤ length items + 1
  pub new : length items < count → line_before_edit r.edit count ≡ None
  pub former : AreFormer r.base r.lines r.edit 0 items
  pub told : AreDue r (length items) due

-- an edit puts a line with which others have to do by its names and its local labels alone in the text of these items: so it comes to be
-- this text, and these lines are due
pub record ArePut (base : ℕ) (text : List (List ℕ)) (items : List Item) (edit : Edit) (due : List ℕ) : Type 0 where
  pub line : List ℕ
  pub given : Still
  pub still : IsStillLine base (lines_of items) (place_of_edit edit) line given due
  pub edited : IsPutEdit (lines_of items) edit (place_of_edit edit) line
  pub allowed : refusal_of (lines_of items) edit ≡ None
  pub whole : text ≡ lines_after (lines_of items) edit
  pub are : AreItems base (lines_of items) items
