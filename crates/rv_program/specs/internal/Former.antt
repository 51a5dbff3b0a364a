-- The items of a text after an edit, of which nothing is made anew yet.
use Rattle.std.specs.Prelude.{◌≡◌, ℕ, ◌+◌, List, slice_get, Some}
use Rattle.rv_program.specs.declared.item.Item.{Item}
use Rattle.rv_program.specs.Edits.{line_before_edit}
use Rattle.rv_program.specs.internal.Items.{IsItem}
use Rattle.rv_program.specs.Text.{Edit}

-- what was kept of line k where it stood before the edit; of a line that the edit put in the item may say anything
abbrev pub IsFormer : (base : ℕ) → (lines : List (List ℕ)) → Edit → (k : ℕ) → Item → Type 0
IsFormer base lines edit k item = (j : ℕ) → line_before_edit edit k ≡ Some j → IsItem base lines j item

-- the items of the lines after line k
abbrev pub AreFormer : (base : ℕ) → (lines : List (List ℕ)) → Edit → (k : ℕ) → List Item → Type 0
AreFormer base lines edit k items =
    (i : ℕ) (item : Item) → slice_get items i ≡ Some item → IsFormer base lines edit (k + i + 1) item
