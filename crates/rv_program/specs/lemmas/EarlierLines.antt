-- Rows by the lines of a text with an edit made in them, and where the lines stood before it.
use Rattle.std.proofs.Common.{◌≡◌, ℕ, ◌+◌, ◌-◌, ◌<◌, ◌≤◌, ◌⊎◌, inl, inr, List, [], length, get_or, Some, None, arith, ap, sym, subst, ◌∙◌, refl}
use Rattle.std.specs.Prelude.{map, insert, remove}
use Rattle.std.proofs.lemmas.Bool.Decides.{nat_tests}
use Rattle.std.proofs.lemmas.Grind.{common_steps}
use Rattle.std.proofs.lemmas.List.{get_or-map, get_or-set_other, length-set, map-set}
use Rattle.std.proofs.lemmas.List.Edits.{length-insert, get_or-insert_below, get_or-insert_above, length-remove, get_or-remove_below, get_or-remove_above}
use Rattle.rv_stmt.specs.Statement.{statement_of}
use Rattle.rv_program.specs.Edits.{line_before_edit}
use Rattle.rv_program.specs.internal.EditedRows.{HasPlace, edited_row}
use Rattle.rv_program.specs.Program.{program_of, statement_at, no_statement}
use Rattle.rv_program.specs.Text.{Edit, Insert, Delete, Replace, refusal_of, lines_after}
use Rattle.rv_program.specs.lemmas.Lists.{map_insert, map_remove}

-- line k of the text after an edit is line j of the text before it
pub record Stood (lines : List (List ℕ)) (edit : Edit) (k j : ℕ) : Type 0 where
  pub first : 1 ≤ j
  pub last : j ≤ length lines
  pub line : (other : List ℕ) → get_or (lines_after lines edit) (k - 1) other ≡ get_or lines (j - 1) other

-- Places of edits that are not refused

pub insert_within : (lines : List (List ℕ)) (place : ℕ) (line : List ℕ) → refusal_of lines (Insert place line) ≡ None → (1 ≤ place) × (place ≤ length lines + 1)
insert_within lines place line h = grind (arith, nat_tests, common_steps)

pub delete_within : (lines : List (List ℕ)) (place : ℕ) → refusal_of lines (Delete place) ≡ None → (1 ≤ place) × (place ≤ length lines)
delete_within lines place h = grind (arith, nat_tests, common_steps)

pub replace_within : (lines : List (List ℕ)) (place : ℕ) (line : List ℕ) → refusal_of lines (Replace place line) ≡ None → (1 ≤ place) × (place ≤ length lines)
replace_within lines place line h = grind (arith, nat_tests, common_steps)

pub has_place : (lines : List (List ℕ)) (edit : Edit) → refusal_of lines edit ≡ None → HasPlace lines edit
has_place lines (Insert place line) allowed = insert_within lines place line allowed
has_place lines (Delete place) allowed = delete_within lines place allowed
has_place lines (Replace place line) allowed = replace_within lines place line allowed

-- Where a line stood

pub insert_before : (place : ℕ) (line : List ℕ) (k j : ℕ) → line_before_edit (Insert place line) k ≡ Some j → ((k < place) × (j ≡ k)) ⊎ ((place < k) × (j ≡ k - 1))
insert_before place line k j h = grind (arith, nat_tests, common_steps)

pub delete_before : (place k j : ℕ) → line_before_edit (Delete place) k ≡ Some j → ((k < place) × (j ≡ k)) ⊎ ((place ≤ k) × (j ≡ k + 1))
delete_before place k j h = grind (arith, nat_tests, common_steps)

pub replace_before : (place : ℕ) (line : List ℕ) (k j : ℕ) → line_before_edit (Replace place line) k ≡ Some j → (k ≡ place → ⊥) × (j ≡ k)
replace_before place line k j h = grind (arith, nat_tests, common_steps)

-- Rows with an edit made in them

-- how many lines there are after it
abbrev pub edited_count : (count : ℕ) → Edit → ℕ
edited_count count (Insert place line) = count + 1
edited_count count (Delete place) = count - 1
edited_count count (Replace place line) = count

pub length-edited : {A B : Type 0} (row : List A) (lines : List B) (edit : Edit) (new : A) → length row ≡ length lines → HasPlace lines edit → length (edited_row row edit new) ≡ edited_count (length lines) edit
length-edited row lines (Insert place line) new count has =
    length-insert row (place - 1) new (omega (arith, has.0, has.1, count)) ∙ ap (λ n. n + 1) count
length-edited row lines (Delete place) new count has =
    let gone = length-remove row (place - 1) (omega (arith, has.0, has.1, count)) in omega (arith, gone, count)
length-edited row lines (Replace place line) new count has = length-set row (place - 1) new ∙ count

-- a line that stood was one of the lines
pub edited-within : {A : Type 0} (lines : List A) (edit : Edit) (k j : ℕ) → HasPlace lines edit → 1 ≤ k → k ≤ edited_count (length lines) edit → line_before_edit edit k ≡ Some j → (1 ≤ j) × (j ≤ length lines)
edited-within lines (Insert place line) k j has first last h = at (insert_before place line k j h)
  where
    room : k ≤ length lines + 1
    room = last

    at : ((k < place) × (j ≡ k)) ⊎ ((place < k) × (j ≡ k - 1)) → (1 ≤ j) × (j ≤ length lines)
    at (inl (less, same)) = (omega (arith, first, same), omega (arith, less, same, has.1))
    at (inr (more, same)) = (omega (arith, more, same, has.0), omega (arith, same, room))
edited-within lines (Delete place) k j has first last h = at (delete_before place k j h)
  where
    room : k ≤ length lines - 1
    room = last

    at : ((k < place) × (j ≡ k)) ⊎ ((place ≤ k) × (j ≡ k + 1)) → (1 ≤ j) × (j ≤ length lines)
    at (inl (less, same)) = (omega (arith, first, same), omega (arith, less, same, has.1))
    at (inr (more, same)) = (omega (arith, same), omega (arith, first, same, room))
edited-within lines (Replace place line) k j has first last h =
    let same = (replace_before place line k j h).1 in
    let room : k ≤ length lines = last in
    (omega (arith, first, same), omega (arith, same, room))

-- it has what it had
pub edited-at : {A B : Type 0} (row : List A) (lines : List B) (edit : Edit) (new : A) (k j : ℕ) (other : A) → length row ≡ length lines → HasPlace lines edit → 1 ≤ k → line_before_edit edit k ≡ Some j → get_or (edited_row row edit new) (k - 1) other ≡ get_or row (j - 1) other
edited-at row lines (Insert place line) new k j other count has first h = at (insert_before place line k j h)
  where
    room : place - 1 ≤ length row
    room = omega (arith, has.0, has.1, count)

    at : ((k < place) × (j ≡ k)) ⊎ ((place < k) × (j ≡ k - 1)) → get_or (insert row (place - 1) new) (k - 1) other ≡ get_or row (j - 1) other
    at (inl (less, same)) =
        get_or-insert_below row (place - 1) new other (k - 1) (omega (arith, first, less)) room ∙ ap (λ i. get_or row (i - 1) other) (sym same)
    at (inr (more, same)) =
        let back : k - 2 + 1 ≡ k - 1 = omega (arith, more, has.0) in
        let above : place - 1 ≤ k - 2 = omega (arith, more) in
        let one : k - 2 ≡ j - 1 = omega (arith, same) in
        ap (λ i. get_or (insert row (place - 1) new) i other) (sym back)
        ∙ get_or-insert_above row (place - 1) new other (k - 2) above room
        ∙ ap (λ i. get_or row i other) one
edited-at row lines (Delete place) new k j other count has first h = at (delete_before place k j h)
  where
    there : place - 1 < length row
    there = omega (arith, has.0, has.1, count)

    at : ((k < place) × (j ≡ k)) ⊎ ((place ≤ k) × (j ≡ k + 1)) → get_or (remove row (place - 1)) (k - 1) other ≡ get_or row (j - 1) other
    at (inl (less, same)) =
        get_or-remove_below row (place - 1) other (k - 1) (omega (arith, first, less)) there ∙ ap (λ i. get_or row (i - 1) other) (sym same)
    at (inr (more, same)) =
        let one : k - 1 + 1 ≡ j - 1 = omega (arith, first, same) in
        get_or-remove_above row (place - 1) other (k - 1) (omega (arith, more)) there ∙ ap (λ i. get_or row i other) one
edited-at row lines (Replace place line) new k j other count has first h =
    let is = replace_before place line k j h in
    let apart : k - 1 ≡ place - 1 → ⊥ = λ e. is.0 (omega (arith, e, first, has.0)) in
    get_or-set_other row (place - 1) (k - 1) new other apart ∙ ap (λ i. get_or row (i - 1) other) (sym is.1)

pub map-edited_row : {A B : Type 0} (f : A → B) (row : List A) (edit : Edit) (new : A) → map f (edited_row row edit new) ≡ edited_row (map f row) edit (f new)
map-edited_row f row (Insert place line) new = map_insert f row (place - 1) new
map-edited_row f row (Delete place) new = map_remove f row (place - 1)
map-edited_row f row (Replace place line) new = map-set f row (place - 1) new

-- The lines of the text

-- the line that an edit puts in
abbrev pub line_put_in : Edit → List ℕ
line_put_in (Insert place line) = line
line_put_in (Delete place) = []
line_put_in (Replace place line) = line

pub lines-edited : (lines : List (List ℕ)) (edit : Edit) → edited_row lines edit (line_put_in edit) ≡ lines_after lines edit
lines-edited lines (Insert place line) = refl
lines-edited lines (Delete place) = refl
lines-edited lines (Replace place line) = refl

pub count-after : (lines : List (List ℕ)) (edit : Edit) → HasPlace lines edit → length (lines_after lines edit) ≡ edited_count (length lines) edit
count-after lines edit has =
    ap length (sym (lines-edited lines edit)) ∙ length-edited lines lines edit (line_put_in edit) refl has

pub stood : (lines : List (List ℕ)) (edit : Edit) (k j : ℕ) → refusal_of lines edit ≡ None → 1 ≤ k → k ≤ length (lines_after lines edit) → line_before_edit edit k ≡ Some j → Stood lines edit k j
stood lines edit k j allowed first last h =
    let has = has_place lines edit allowed in
    let within = edited-within lines edit k j has first (subst (λ n. k ≤ n) (count-after lines edit has) last) h in
    record {
      first = within.0;
      last = within.1;
      line = λ other. ap (λ ls. get_or ls (k - 1) other) (sym (lines-edited lines edit)) ∙ edited-at lines lines edit (line_put_in edit) k j other refl has first h;
    }

-- it has the statement that it had
pub statement-stood : (lines : List (List ℕ)) (edit : Edit) (k j : ℕ) → 1 ≤ k → k ≤ length (lines_after lines edit) → Stood lines edit k j → statement_at (program_of (lines_after lines edit)) k ≡ statement_at (program_of lines) j
statement-stood lines edit k j first last s =
    get_or-map statement_of (lines_after lines edit) (k - 1) [] no_statement (omega (arith, first, last))
    ∙ ap statement_of (s.line [])
    ∙ sym (get_or-map statement_of lines (j - 1) [] no_statement (omega (arith, s.first, s.last)))
