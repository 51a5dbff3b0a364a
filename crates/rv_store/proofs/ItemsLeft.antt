-- The items of a text after an edit, by those of its first lines and that of a line behind them.
use Rattle.std.proofs.Common.{◌≡◌, ℕ, ◌+◌, ◌-◌, ◌≤◌, true, List, [], ◌∷◌, ◌++◌, length, insert, None, Some, suc, if◌then◌else◌, arith, ap, subst, sym, ◌∙◌, refl}
use Rattle.std.proofs.lemmas.List.{length-map}
use Rattle.std.proofs.lemmas.List.Edits.{insert_end}
use Rattle.rv_text.specs.Counting.{Counts}
use Rattle.rv_program.specs.declared.edit.LineEdit.{LineEdit}
use Rattle.rv_program.specs.declared.item.Item.{Item}
use Rattle.rv_program.specs.Changes.{program_after, is_new_or, differs_in_code}
use Rattle.rv_program.specs.Edits.{edit_of, line_before_edit, place_of_edit}
use Rattle.rv_program.specs.Layout.{shape_at}
use Rattle.rv_program.specs.Program.{program_of}
use Rattle.rv_program.specs.internal.Former.{IsFormer}
use Rattle.rv_program.specs.internal.Items.{IsItem, AreFirstItems, AreItems}
use Rattle.rv_program.specs.internal.Lines.{lines_of}
use Rattle.rv_program.specs.internal.Renewals.{changed_through, AreCounted, AreListed}
use Rattle.rv_program.specs.internal.Revisions.{EditedText, invalidates, changes}
use Rattle.rv_program.specs.lemmas.ItemLaws.{one_item_more, all_items}
use Rattle.rv_program.specs.lemmas.CountedLines.{both_counted}
use Rattle.rv_program.specs.lemmas.KeptShapes as shapes
use Rattle.rv_program.specs.lemmas.Programs.{length-for_lines}
use Rattle.rv_program.specs.Text.{Edit, refusal_of, lines_after}
use Rattle.rv_store.specs.declared.still.Still.{Still}
use Rattle.rv_store.specs.internal.Renewed.{edited_by, ArePut}
use Rattle.rv_store.specs.internal.Still.{IsPutEdit}
use Rattle.rv_store.specs.internal.StillLines.{IsStillLine}

module _ (r : EditedText) (line : ℕ) (new : line_before_edit r.edit line ≡ None) where
  -- a line that the edit puts in is invalidated, and it is changed
  pub new-invalidated : invalidates r line ≡ true
  new-invalidated = shapes.new-invalidated r.base r.lines r.edit line new

  pub new-changed : changes r line ≡ true
  new-changed = ap (is_new_or (differs_in_code r.base (program_of r.lines) (program_after r.lines r.edit) line)) new

  -- nothing was kept of it
  pub new-former : (item : Item) → IsFormer r.base r.lines r.edit line item
  new-former item j stands = absurd (let no : None ≡ Some j = sym new ∙ stands in cc)

  -- the changed lines with it
  pub new-listed : 1 ≤ line → (before after : List ℕ) → after ≡ before ++ line ∷ [] → AreListed r (line - 1) line before after
  new-listed first before after added =
      let next : suc (line - 1) ≡ line = omega (arith, first) in
      let changed : changes r (suc (line - 1)) ≡ true = ap (changes r) next ∙ new-changed in
      record {
        more = line ∷ [];
        those = ap (changed_through r) (sym next) ∙ (λ i. changed_through r (line - 1) ++ (if changed i then next i ∷ [] else []));
        added = added;
      }

-- items of the first lines are as many as these
pub first-count : (base : ℕ) (text : List (List ℕ)) (k : ℕ) (items : List Item) → AreFirstItems base text k items → length items ≡ k
first-count base text k items are = sym (length-map items (λ i. i.shape)) ∙ ap length are.shapes ∙ length-for_lines (shape_at (program_of text)) k

-- with the item of the last line they are those of all lines
pub with-last : (base : ℕ) (text : List (List ℕ)) (first all : List Item) (item : Item) (k line : ℕ) → AreFirstItems base text k first → line ≡ k + 1 → line ≡ length text → length first ≡ k → IsItem base text line item → all ≡ insert first (line - 1) item → AreItems base text all
with-last base text first all item k line are next last count is put =
    let place : line - 1 ≡ length first = omega (arith, next, count) in
    let pushed : all ≡ first ++ item ∷ [] = put ∙ ap (λ i. insert first i item) place ∙ insert_end first item in
    subst (AreItems base text) (sym pushed)
    (all_items base text (k + 1) (first ++ item ∷ []) (omega (arith, next, last))
    (one_item_more base text k first item (omega (arith, next, last)) are (subst (λ n. IsItem base text n item) next is)))

-- and the changed lines with it are all of them
pub listed-last : (r : EditedText) (k line n : ℕ) (before after : List ℕ) → line - 1 ≡ k → line ≡ n → before ≡ changed_through r k → AreListed r (line - 1) line before after → after ≡ changed_through r n
listed-last r k line n before after back last are listed =
    listed.added
    ∙ ap (λ xs. xs ++ listed.more) (are ∙ ap (changed_through r) (sym back))
    ∙ sym listed.those
    ∙ ap (changed_through r) last

-- what is counted for the first lines, and then for the last one
pub counted-last : (r : EditedText) (k line n : ℕ) (before between after : Counts) → line - 1 ≡ k → line ≡ n → AreCounted r 0 k before between → AreCounted r (line - 1) line between after → AreCounted r 0 n before after
counted-last r k line n before between after back last first counted =
    both_counted r 0 k n before between after first
    (subst (λ m. AreCounted r m n between after) back (subst (λ m. AreCounted r (line - 1) m between after) last counted))

-- A line that is put among others, by the items of the text before that

pub put-by : (base : ℕ) (lines : List (List ℕ)) (line : List ℕ) (given : Still) (due : List ℕ) (items : List Item) (edit : Edit) (text : List (List ℕ)) → IsStillLine base lines (place_of_edit edit) line given due → IsPutEdit lines edit (place_of_edit edit) line → refusal_of lines edit ≡ None → AreItems base lines items → text ≡ lines_after lines edit → (put : ArePut base text items edit due) × (put.given ≡ given)
put-by base lines line given due items edit text still edited allowed are whole =
    let same : lines ≡ lines_of items = sym are.lines in (
      record {
        line = line;
        given = given;
        still = subst (λ ls. IsStillLine base ls (place_of_edit edit) line given due) same still;
        edited = subst (λ ls. IsPutEdit ls edit (place_of_edit edit) line) same edited;
        allowed = subst (λ ls. refusal_of ls edit ≡ None) same allowed;
        whole = whole ∙ ap (λ ls. lines_after ls edit) same;
        are = subst (λ ls. AreItems base ls items) same are;
      },
      refl,
    )

pub counted-by : (base : ℕ) (lines : List (List ℕ)) (items : List Item) (edit : LineEdit) (text : List (List ℕ)) → lines_of items ≡ lines → text ≡ lines_after lines (edit_of edit) → (old new : Counts) → AreCounted (edited_by base (lines_of items) edit) 0 (length text) old new → AreCounted (edited_by base lines edit) 0 (length (lines_after lines (edit_of edit))) old new
counted-by base lines items edit text same whole old new counted =
    subst (λ ls. AreCounted (edited_by base ls edit) 0 (length (lines_after lines (edit_of edit))) old new) same (subst (λ t. AreCounted (edited_by base (lines_of items) edit) 0 (length t) old new) whole counted)
