-- The items of a text with an edit made, of which nothing is made anew yet.
use Rattle.std.proofs.Common.{◌≡◌, ℕ, ◌+◌, ◌-◌, ◌<◌, ◌≤◌, List, length, map, get_or, None, arith, ap, sym, subst, ◌∙◌}
use Rattle.std.proofs.lemmas.List.{length-map}
use Rattle.std.proofs.lemmas.Option.{get_or_from_slice_get, slice_get_within}
use Rattle.rv_program.specs.declared.item.Item.{Item}
use Rattle.rv_program.specs.internal.EditedRows.{edited_row}
use Rattle.rv_program.specs.internal.Former.{AreFormer}
use Rattle.rv_program.specs.internal.Items.{IsItem, AreItems}
use Rattle.rv_program.specs.Text.{Edit, refusal_of, lines_after}
use Rattle.rv_program.specs.lemmas.EarlierLines.{has_place, edited-at, map-edited_row, line_put_in, lines-edited, stood}
use Rattle.rv_program.specs.lemmas.ItemLaws.{item_of_line}

-- their lines, where one of the line that the edit puts in is put in
pub lines-put : (lines : List (List ℕ)) (edit : Edit) (items : List Item) (item : Item) → map (λ i. i.line) items ≡ lines → item.line ≡ line_put_in edit → map (λ i. i.line) (edited_row items edit item) ≡ lines_after lines edit
lines-put lines edit items item are is =
    map-edited_row (λ i. i.line) items edit item ∙ (λ j. edited_row (are j) edit (is j)) ∙ lines-edited lines edit

-- items are former ones where their lines are those after the edit, and they are those before it with one put in or taken out
pub former-edited : (base : ℕ) (lines : List (List ℕ)) (edit : Edit) (old new : List Item) → AreItems base lines old → refusal_of lines edit ≡ None → map (λ i. i.line) new ≡ lines_after lines edit → ((other : Item) → (item : Item) × (new ≡ edited_row old edit item)) → AreFormer base lines edit 0 new
former-edited base lines edit old new are allowed listed made i item there j h =
    let k : ℕ = 0 + i + 1 in
    let place : i ≡ k - 1 = omega arith in
    let first : 1 ≤ k = omega arith in
    let within : i < length new = slice_get_within new i item there in
    let count : length new ≡ length (lines_after lines edit) = sym (length-map new (λ i. i.line)) ∙ ap length listed in
    let count_before : length old ≡ length lines = sym (length-map old (λ i. i.line)) ∙ ap length are.lines in
    let is : get_or new (k - 1) item ≡ item = ap (λ m. get_or new m item) (sym place) ∙ get_or_from_slice_get new i item item there in
    let same : get_or new (k - 1) item ≡ get_or old (j - 1) item =
    ap (λ row. get_or row (k - 1) item) (made item).1
    ∙ edited-at old lines edit (made item).0 k j item count_before (has_place lines edit allowed) first h in
    let s = stood lines edit k j allowed first (omega (arith, within, count)) h in
    subst (IsItem base lines j) (sym same ∙ is) (item_of_line base lines old j item are s.first s.last)
