-- The lines of local labels after an edit.
use Rattle.std.proofs.Common.{◌≡◌, ℕ, zero, suc, ◌+◌, ◌-◌, ◌<◌, ◌≤◌, ◌==◌, nat_lt, Bool, true, false, List, [], ◌∷◌, ◌++◌, ◌⊎◌, inl, inr, length, get_or, set, Option, Some, None, if◌then◌else◌, arith, ap, sym, ◌∙◌, refl}
use Rattle.std.specs.Prelude.{insert, remove}
use Rattle.std.proofs.lemmas.Bool.{cases_lt, eqb-true, le-ltb}
use Rattle.std.proofs.lemmas.Bool.Decides.{nat_tests}
use Rattle.std.proofs.lemmas.Grind.{common_steps}
use Rattle.std.proofs.lemmas.List.{append-nil, append_assoc, get_or-map, get_or-set_same, length-set}
use Rattle.std.proofs.lemmas.List.Edits.{length-insert, get_or-insert_at, length-remove}
use Rattle.std.proofs.lemmas.List.Concat.{flat_map-append}
use Rattle.std.proofs.lemmas.List.Elements.{filter-append}
use Rattle.rv_stmt.specs.LabelNames.{Label}
use Rattle.rv_stmt.specs.Statement.{statement_of}
use Rattle.rv_program.specs.declared.limits.TheConstants.{MAX_LINES}
use Rattle.rv_program.specs.Edits.{line_before_edit, place_of_edit}
use Rattle.rv_program.specs.internal.MovedLocals.{first_number, labels_put_in, line_moved, lines_moved, line_put_in, one_line, row_after, rows_behind}
use Rattle.rv_program.specs.declared.local_row.LocalRow.{LocalRow}
use Rattle.rv_program.specs.internal.Locals.{AreFrom, AreWithin, lines_below, lines_with}
use Rattle.rv_program.specs.Program.{program_of, lines_that, no_statement}
use Rattle.rv_program.specs.References.{among_local, has_local}
use Rattle.rv_program.specs.internal.Rows.{AreLocals}
use Rattle.rv_program.specs.Text.{Edit, Insert, Delete, Replace, refusal_of, lines_after}
use Rattle.rv_program.specs.lemmas.LineRows.{lines_that-same as same-lines}
use Rattle.rv_program.specs.lemmas.LocalLines.{first-below}
use Rattle.rv_program.proofs.LocalRows.{behind-here, behind-other, first-from, first-none, within-none}
use Rattle.rv_program.specs.lemmas.EarlierLines.{stood, statement-stood, insert_within, delete_within, replace_within}
use Rattle.rv_program.specs.lemmas.Programs.{length-program}

-- One line more

below-one : (b : Bool) (place l : ℕ) → nat_lt l place ≡ false → lines_below place (if b then l ∷ [] else []) ≡ []
below-one true place l behind = ap (λ c. if c then l ∷ [] else []) behind
below-one false place l behind = refl

moved-one : (b : Bool) (edit : Edit) (l : ℕ) (to : Option ℕ) → line_moved edit l ≡ to → lines_moved edit (if b then l ∷ [] else []) ≡ (if b then one_line to else [])
moved-one true edit l to is = append-nil (one_line (line_moved edit l)) ∙ ap one_line is
moved-one false edit l to is = refl

-- behind the place of the edit
row-more : (edit : Edit) (new : List ℕ) (b : Bool) (l l' : ℕ) (xs : List ℕ) → nat_lt l (place_of_edit edit) ≡ false → line_moved edit l ≡ Some l' → row_after edit new (xs ++ (if b then l ∷ [] else [])) ≡ row_after edit new xs ++ (if b then l' ∷ [] else [])
row-more edit new b l l' xs behind moves =
    let place = place_of_edit edit in
    let below : lines_below place (xs ++ (if b then l ∷ [] else [])) ≡ lines_below place xs =
    filter-append (λ l. nat_lt l place) xs (if b then l ∷ [] else [])
    ∙ ap (λ ls. lines_below place xs ++ ls) (below-one b place l behind)
    ∙ append-nil (lines_below place xs) in
    let moved : lines_moved edit (xs ++ (if b then l ∷ [] else [])) ≡ lines_moved edit xs ++ (if b then l' ∷ [] else []) =
    flat_map-append (λ l. one_line (line_moved edit l)) xs (if b then l ∷ [] else [])
    ∙ ap (λ ls. lines_moved edit xs ++ ls) (moved-one b edit l (Some l') moves) in
    ap (λ ls. ls ++ (new ++ lines_moved edit (xs ++ (if b then l ∷ [] else [])))) below
    ∙ ap (λ ls. lines_below place xs ++ (new ++ ls)) moved
    ∙ ap (λ ls. lines_below place xs ++ ls) (sym (append_assoc new (lines_moved edit xs) (if b then l' ∷ [] else [])))
    ∙ sym (append_assoc (lines_below place xs) (new ++ lines_moved edit xs) (if b then l' ∷ [] else []))

-- Lines before the place of the edit

none-moved : (test : ℕ → Bool) (edit : Edit) (n : ℕ) → ((l : ℕ) → l ≤ n → line_moved edit l ≡ None) → lines_moved edit (lines_that test n) ≡ []
none-moved test edit zero stay = refl
none-moved test edit (suc n) stay =
    flat_map-append (λ l. one_line (line_moved edit l)) (lines_that test n) (if test (suc n) then suc n ∷ [] else [])
    ∙ ap (λ ls. ls ++ lines_moved edit (if test (suc n) then suc n ∷ [] else [])) (none-moved test edit n (λ l within. stay l (omega (arith, within))))
    ∙ moved-one (test (suc n)) edit (suc n) None (stay (suc n) (omega arith))
    ∙ nothing (test (suc n))
  where
    nothing : (b : Bool) → (if b then one_line None else []) ≡ []
    nothing true = refl
    nothing false = refl

-- Lines of a text

unchanged : (lines : List (List ℕ)) (edit : Edit) (number k j : ℕ) → refusal_of lines edit ≡ None → 1 ≤ k → k ≤ length (lines_after lines edit) → line_before_edit edit k ≡ Some j → has_local (program_of (lines_after lines edit)) number k ≡ has_local (program_of lines) number j
unchanged lines edit number k j allowed first last is =
    ap (λ s. among_local number s.labels) (statement-stood lines edit k j first last (stood lines edit k j allowed first last is))

-- a line that an edit puts in, by its labels
put-in : (lines : List (List ℕ)) (number n place : ℕ) (line : List ℕ) → n < length lines → get_or lines n [] ≡ line → suc n ≡ place → lines_that (has_local (program_of lines) number) (suc n) ≡ lines_that (has_local (program_of lines) number) n ++ (if among_local number (statement_of line).labels then place ∷ [] else [])
put-in lines number n place line within is at =
    let test = has_local (program_of lines) number in
    let same : suc n - 1 ≡ n = omega arith in
    let here : test (suc n) ≡ among_local number (statement_of line).labels =
    ap (λ k. among_local number (get_or (program_of lines) k no_statement).labels) same
    ∙ ap (λ s. among_local number s.labels) (get_or-map statement_of lines n [] no_statement within ∙ ap statement_of is) in
    (λ i. lines_that test n ++ (if here i then at i ∷ [] else []))

-- an edit behind the first `n` lines: those behind the first `from` lines follow the first `to` lines of the text after it
record IsBehind (edit : Edit) (n from to count : ℕ) : Type 0 where
  place : suc n ≡ place_of_edit edit
  old : n ≤ from
  new : n ≤ to
  stays : (k : ℕ) → k < n → line_before_edit edit (suc k) ≡ Some (suc k)
  stood : (k : ℕ) → line_before_edit edit (suc (k + to)) ≡ Some (suc (k + from))
  taken : (l : ℕ) → l ≤ from → line_moved edit l ≡ None
  moves : (k : ℕ) → k + from < count → line_moved edit (suc (k + from)) ≡ Some (suc (k + to))

inserts : (place n count : ℕ) (line : List ℕ) → suc n ≡ place → count ≤ MAX_LINES → IsBehind (Insert place line) n n (suc n) count
inserts place n count line at few = record {
  place = at;
  old = omega arith;
  new = omega arith;
  stays = λ k l. grind (arith, nat_tests, common_steps);
  stood = λ k. grind (arith, nat_tests, common_steps);
  taken = λ l m. grind (arith, nat_tests, common_steps);
  moves = λ k l. grind (arith, nat_tests, common_steps);
}

deletes : (place n count : ℕ) → suc n ≡ place → IsBehind (Delete place) n (suc n) n count
deletes place n count at = record {
  place = at;
  old = omega arith;
  new = omega arith;
  stays = λ k l. grind (arith, nat_tests, common_steps);
  stood = λ k. grind (arith, nat_tests, common_steps);
  taken = λ l m. grind (arith, nat_tests, common_steps);
  moves = λ k l. grind (arith, nat_tests, common_steps);
}

replaces : (place n count : ℕ) (line : List ℕ) → suc n ≡ place → IsBehind (Replace place line) n (suc n) (suc n) count
replaces place n count line at = record {
  place = at;
  old = omega arith;
  new = omega arith;
  stays = λ k l. grind (arith, nat_tests, common_steps);
  stood = λ k. grind (arith, nat_tests, common_steps);
  taken = λ l m. grind (arith, nat_tests, common_steps);
  moves = λ k l. grind (arith, nat_tests, common_steps);
}

-- Edits: the lines up to the place, and those behind it one by one

-- lines that move by what the edit puts in or takes out
later-rows : (edit : Edit) (new : List ℕ) (test test' : ℕ → Bool) (n n' count : ℕ) → lines_that test' n' ≡ row_after edit new (lines_that test n) → ((k : ℕ) → k < count → (test' (suc (k + n')) ≡ test (suc (k + n))) × (nat_lt (suc (k + n)) (place_of_edit edit) ≡ false) × (line_moved edit (suc (k + n)) ≡ Some (suc (k + n')))) → lines_that test' (count + n') ≡ row_after edit new (lines_that test (count + n))
later-rows edit new test test' n n' zero before each =
    let none : 0 + n ≡ n = omega arith in
    let none' : 0 + n' ≡ n' = omega arith in
    ap (lines_that test') none' ∙ before ∙ ap (λ k. row_after edit new (lines_that test k)) (sym none)
later-rows edit new test test' n n' (suc count) before each =
    let next : suc count + n ≡ suc (count + n) = omega arith in
    let next' : suc count + n' ≡ suc (count + n') = omega arith in
    let last = each count (omega arith) in
    let rest = later-rows edit new test test' n n' count before (λ k within. each k (omega (arith, within))) in
    ap (lines_that test') next'
    ∙ ap (λ ls. ls ++ (if test' (suc (count + n')) then suc (count + n') ∷ [] else [])) rest
    ∙ ap (λ b. row_after edit new (lines_that test (count + n)) ++ (if b then suc (count + n') ∷ [] else [])) last.0
    ∙ sym (row-more edit new (test (suc (count + n))) (suc (count + n)) (suc (count + n')) (lines_that test (count + n)) last.1 last.2)
    ∙ ap (λ k. row_after edit new (lines_that test k)) (sym next)

-- the lines before the place of an edit
below-from : (test : ℕ → Bool) (place n from : ℕ) → suc n ≡ place → n ≤ from → lines_below place (lines_that test from) ≡ lines_that test n
below-from test place n zero at up = ap (lines_that test) (let e : 0 ≡ n = omega (arith, up) in e)
below-from test place n (suc m) at up = by (cases_lt n (suc m)) (below-from test place n m at)
  where
    by : (n < suc m) ⊎ (suc m ≤ n) → (n ≤ m → lines_below place (lines_that test m) ≡ lines_that test n) → lines_below place (lines_that test (suc m)) ≡ lines_that test n
    by (inl more) before =
        filter-append (λ l. nat_lt l place) (lines_that test m) (if test (suc m) then suc m ∷ [] else [])
        ∙ (λ i. before (omega (arith, more)) i ++ below-one (test (suc m)) place (suc m) (le-ltb (suc m) place (omega (arith, at, more))) i)
        ∙ append-nil (lines_that test n)
    by (inr all) before = first-below test place (suc m) (omega (arith, at, all)) ∙ ap (lines_that test) (let e : suc m ≡ n = omega (arith, up, all) in e)

edited : (lines : List (List ℕ)) (edit : Edit) (number n from to : ℕ) (new : List ℕ) → IsBehind edit n from to (length lines) → refusal_of lines edit ≡ None → from ≤ length lines → length (lines_after lines edit) + from ≡ length lines + to → lines_that (has_local (program_of (lines_after lines edit)) number) to ≡ lines_that (has_local (program_of (lines_after lines edit)) number) n ++ new → lines_that (has_local (program_of (lines_after lines edit)) number) (length (lines_after lines edit)) ≡ row_after edit new (lines_that (has_local (program_of lines) number) (length lines))
edited lines edit number n from to new is allowed room count put =
    let after = lines_after lines edit in
    let test = has_local (program_of lines) number in
    let test' = has_local (program_of after) number in
    let same = same-lines test test' n (λ k l. unchanged lines edit number (suc k) (suc k) allowed (omega arith) (omega (arith, l, room, count, is.new)) (is.stays k l)) in
    let below = below-from test (place_of_edit edit) n from is.place is.old in
    let up_to : lines_that test' to ≡ row_after edit new (lines_that test from) =
    put ∙ ap (λ ls. ls ++ new) same ∙ sym ((λ i. below i ++ (new ++ none-moved test edit from is.taken i)) ∙ ap (λ ls. lines_that test n ++ ls) (append-nil new)) in
    let rest : length lines - from + from ≡ length lines = omega (arith, room) in
    let rest' : length after ≡ length lines - from + to = omega (arith, room, count) in
    ap (lines_that test') rest'
    ∙ later-rows edit new test test' from to (length lines - from) up_to (λ k l. (
      unchanged lines edit number (suc (k + to)) (suc (k + from)) allowed (omega arith) (omega (arith, l, rest')) (is.stood k),
      le-ltb (suc (k + from)) (place_of_edit edit) (omega (arith, is.place, is.old)),
      is.moves k (omega (arith, l)),
    ))
    ∙ ap (λ k. row_after edit new (lines_that test k)) rest

moved : (lines : List (List ℕ)) (edit : Edit) (number : ℕ) → length lines ≤ MAX_LINES → refusal_of lines edit ≡ None → lines_that (has_local (program_of (lines_after lines edit)) number) (length (lines_after lines edit)) ≡ row_after edit (line_put_in edit (among_local number (labels_put_in edit))) (lines_that (has_local (program_of lines) number) (length lines))
moved lines (Insert place line) number few allowed =
    let within = insert_within lines place line allowed in
    let n = place - 1 in
    let at : suc n ≡ place = omega (arith, within.0) in
    let room : n ≤ length lines = omega (arith, within.1) in
    let count = length-insert lines n line room in
    edited lines (Insert place line) number n n (suc n) (line_put_in (Insert place line) (among_local number (statement_of line).labels)) (inserts place n (length lines) line at few) allowed room (omega (arith, count))
    (put-in (insert lines n line) number n place line (omega (arith, room, count)) (get_or-insert_at lines n line [] room) at)
moved lines (Delete place) number few allowed =
    let within = delete_within lines place allowed in
    let n = place - 1 in
    let at : suc n ≡ place = omega (arith, within.0) in
    let room : n < length lines = omega (arith, within.0, within.1) in
    let count = length-remove lines n room in
    edited lines (Delete place) number n (suc n) n [] (deletes place n (length lines) at) allowed (omega (arith, room)) (omega (arith, count))
    (sym (append-nil (lines_that (has_local (program_of (remove lines n)) number) n)))
moved lines (Replace place line) number few allowed =
    let within = replace_within lines place line allowed in
    let n = place - 1 in
    let at : suc n ≡ place = omega (arith, within.0) in
    let room : n < length lines = omega (arith, within.0, within.1) in
    let count = length-set lines n line in
    edited lines (Replace place line) number n (suc n) (suc n) (line_put_in (Replace place line) (among_local number (statement_of line).labels)) (replaces place n (length lines) line at) allowed (omega (arith, room)) (omega (arith, count))
    (put-in (set lines n line) number n place line (omega (arith, room, count)) (get_or-set_same lines n line [] room) at)

-- the rows after an edit are those of the text after it
pub moved-locals : (lines after : List (List ℕ)) (edit : Edit) (labels : List Label) (rows put rows' : List LocalRow) → AreLocals (program_of lines) (length (program_of lines)) rows → length lines ≤ MAX_LINES → refusal_of lines edit ≡ None → after ≡ lines_after lines edit → labels ≡ labels_put_in edit → ((number : ℕ) → lines_with put number ≡ line_put_in edit (among_local number labels)) → ((number : ℕ) → lines_with rows' number ≡ row_after edit (lines_with put number) (lines_with rows number)) → AreLocals (program_of after) (length after) rows'
moved-locals lines after edit labels rows put rows' are few allowed is put_in has made = λ number.
    made number
    ∙ ap (λ ls. row_after edit ls (lines_with rows number)) (has number)
    ∙ ap (λ ls. row_after edit (line_put_in edit (among_local number ls)) (lines_with rows number)) put_in
    ∙ ap (row_after edit (line_put_in edit (among_local number (labels_put_in edit)))) (are number ∙ ap (lines_that (has_local (program_of lines) number)) (length-program lines))
    ∙ sym (moved lines edit number few allowed)
    ∙ ap (λ ls. lines_that (has_local (program_of ls) number) (length ls)) (sym is)

-- Rows of two lists, the lesser number first

-- the lines of each number, where those of one more are made
pub merged : (edit : Edit) (next number : ℕ) (made made' put rows put' rows' : List LocalRow) (line : List ℕ) → first_number rows put ≡ Some number → AreWithin 0 next made → AreFrom next put → AreFrom next rows → ((n : ℕ) → lines_with made n ++ row_after edit (lines_with put n) (lines_with rows n) ≡ row_after edit (lines_with put' n) (lines_with rows' n)) → ((n : ℕ) → lines_with made' n ≡ (if number == n then line else lines_with made n)) → line ≡ row_after edit (lines_with put number) (lines_with rows number)
    → (n : ℕ) → lines_with made' n ++ row_after edit (lines_with (rows_behind number put) n) (lines_with (rows_behind number rows) n) ≡ row_after edit (lines_with put' n) (lines_with rows' n)
merged edit next number made made' put rows put' rows' line first are put-from rows-from lines pushed is n = at (number == n) refl
  where
    rest : List ℕ
    rest = row_after edit (lines_with (rows_behind number put) n) (lines_with (rows_behind number rows) n)

    split : (next ≤ number) × (AreFrom number rows × AreFrom number put)
    split = first-from next number rows put first rows-from put-from

    at : (b : Bool) → (number == n) ≡ b → lines_with made' n ++ rest ≡ row_after edit (lines_with put' n) (lines_with rows' n)
    at true same =
        let e = eqb-true number n same in
        let no-put : lines_with (rows_behind number put) n ≡ [] = ap (lines_with (rows_behind number put)) (sym e) ∙ behind-here number put split.1.1 in
        let no-rows : lines_with (rows_behind number rows) n ≡ [] = ap (lines_with (rows_behind number rows)) (sym e) ∙ behind-here number rows split.1.0 in
        let none : rest ≡ [] = (λ i. row_after edit (no-put i) (no-rows i)) in
        ap (λ ls. ls ++ rest) (pushed n ∙ ap (λ b. if b then line else lines_with made n) same)
        ∙ ap (λ ls. line ++ ls) none
        ∙ append-nil line
        ∙ is
        ∙ ap (λ m. row_after edit (lines_with put m) (lines_with rows m)) e
        ∙ sym (ap (λ ls. ls ++ row_after edit (lines_with put n) (lines_with rows n)) (within-none 0 next n made (omega (arith, split.0, e)) are))
        ∙ lines n
    at false apart =
        ap (λ ls. ls ++ rest) (pushed n ∙ ap (λ b. if b then line else lines_with made n) apart)
        ∙ (λ i. lines_with made n ++ row_after edit (behind-other number n put apart i) (behind-other number n rows apart i))
        ∙ lines n

-- where none are left
pub all-merged : (edit : Edit) (made put rows : List LocalRow) (n : ℕ) (lines : List ℕ) → first_number rows put ≡ None → lines_with made n ++ row_after edit (lines_with put n) (lines_with rows n) ≡ lines → lines_with made n ≡ lines
all-merged edit made put rows n lines none are =
    let empty = first-none rows put none in
    sym (append-nil (lines_with made n))
    ∙ (λ i. lines_with made n ++ row_after edit (lines_with (sym empty.1 i) n) (lines_with (sym empty.0 i) n))
    ∙ are
