-- Where names are defined after an edit.
use Rattle.std.proofs.Common.{◌≡◌, ℕ, suc, ◌+◌, ◌-◌, ◌^◌, ◌<◌, ◌≤◌, ◌⊎◌, inl, inr, nat_lt, nat_le, ◌==◌, min, Bool, true, false, List, [], ◌∷◌, ◌++◌, length, get_or, set, take, drop, bytes_eq, Option, Some, None, if◌then◌else◌, arith, ap, sym, subst, ◌∙◌, refl}
use Rattle.std.specs.Prelude.{remove}
use Rattle.std.proofs.Math.Path.{fun_ext}
use Rattle.std.proofs.Math.Seq.{drop-append_seam}
use Rattle.std.proofs.lemmas.Bool.{cases_lt, eq-eqb, ne_eqb}
use Rattle.std.proofs.lemmas.Bool.Decides.{nat_tests}
use Rattle.std.proofs.lemmas.Grind.{common_steps}
use Rattle.std.proofs.lemmas.List.Edits.{length-insert, get_or-insert_at, length-remove}
use Rattle.std.proofs.lemmas.List.{map-append, length-map, length-take-le, take-append-drop, drop_more, take-set, drop-set, length-append, length-set, get_or_past, get_or-set_same, get_or-set_other}
use Rattle.rv_stmt.specs.declared.statement.Body.{Body}
use Rattle.rv_stmt.specs.declared.statement.Body.TheVariants.{Equ as EquBody}
use Rattle.rv_stmt.specs.declared.statement.Stmt.{Stmt}
use Rattle.rv_stmt.specs.LabelNames.{Label}
use Rattle.rv_stmt.specs.Statement.{statement_of}
use Rattle.rv_list.specs.declared.view.DefinitionPlace.{DefinitionPlace}
use Rattle.rv_list.specs.declared.view.DefinitionPlace.TheVariants.{Nowhere, Label as ByLabel, Equ}
use Rattle.rv_program.specs.declared.limits.TheConstants.{MAX_LINES}
use Rattle.rv_program.specs.internal.Defining.{Definitions, is_up_to, or_here, also_on}
use Rattle.rv_program.specs.Definitions.{defines_symbol, place_among_labels, place_in_body, or_place, place_in_statement, first_place, definition_of}
use Rattle.rv_program.specs.Edits.{place_of_edit}
use Rattle.rv_program.specs.internal.MovedDefinitions.{is_on, line_after_edit, moved_place, place_after, found_after, kept_after, put_in}
use Rattle.rv_program.specs.Program.{Program, program_of}
use Rattle.rv_program.specs.internal.Rows.{number_of, entry_at, in_row}
use Rattle.rv_program.specs.Text.{Edit, Insert, Delete, Replace, refusal_of, lines_after}
use Rattle.rv_program.specs.lemmas.DefinitionLaws.{IsWithin, statement-within, within-lines}
use Rattle.rv_program.specs.lemmas.DefinitionRows.{or_place-assoc, here-kept, here-first, here-nothing, within-up}
use Rattle.rv_program.specs.lemmas.EarlierLines.{insert_within, delete_within, replace_within}

-- Places that move

moved-or : (to : ℕ → ℕ) (a b : DefinitionPlace) → moved_place to (or_place a b) ≡ or_place (moved_place to a) (moved_place to b)
moved-or to Nowhere b = refl
moved-or to _ b = refl

labels-moved : (to : ℕ → ℕ) (line index : ℕ) (ls : List Label) (name : List ℕ) → place_among_labels (to line) index ls name ≡ moved_place to (place_among_labels line index ls name)
labels-moved to line index [] name = refl
labels-moved to line index (l ∷ ls) name = at (defines_symbol l.name name) (labels-moved to line (index + 1) ls name)
  where
    at : (b : Bool) → place_among_labels (to line) (index + 1) ls name ≡ moved_place to (place_among_labels line (index + 1) ls name) → (if b then ByLabel (to line) index else place_among_labels (to line) (index + 1) ls name) ≡ moved_place to (if b then ByLabel line index else place_among_labels line (index + 1) ls name)
    at true e = refl
    at false e = e

body-moved : (to : ℕ → ℕ) (line : ℕ) (body : Body) (name : List ℕ) → place_in_body (to line) body name ≡ moved_place to (place_in_body line body name)
body-moved to line (EquBody d) name = at (bytes_eq d.symbol name)
  where
    at : (b : Bool) → (if b then Equ (to line) else Nowhere) ≡ moved_place to (if b then Equ line else Nowhere)
    at true = refl
    at false = refl
body-moved to line _ name = refl

statement-moved : (to : ℕ → ℕ) (line : ℕ) (s : Stmt) (name : List ℕ) → place_in_statement (to line) s name ≡ moved_place to (place_in_statement line s name)
statement-moved to line s name =
    ap (λ p. or_place p (place_in_body (to line) s.body name)) (labels-moved to line 0 s.labels name)
    ∙ ap (or_place (moved_place to (place_among_labels line 0 s.labels name))) (body-moved to line s.body name)
    ∙ sym (moved-or to (place_among_labels line 0 s.labels name) (place_in_body line s.body name))

-- the statements from line `line` on, which move to line `line'`
first-moved : (to : ℕ → ℕ) (line line' : ℕ) (program : Program) (name : List ℕ) → ((j : ℕ) → j < length program → to (line + j) ≡ line' + j) → first_place line' program name ≡ moved_place to (first_place line program name)
first-moved to line line' [] name moves = refl
first-moved to line line' (s ∷ ss) name moves =
    let start : line + 0 ≡ line = omega arith in
    let there : line' + 0 ≡ line' = omega arith in
    let here : line' ≡ to line = sym (sym (ap to start) ∙ moves 0 (omega arith) ∙ there) in
    ap (λ k. or_place (place_in_statement k s name) (first_place (line' + 1) ss name)) here
    ∙ ap (λ p. or_place p (first_place (line' + 1) ss name)) (statement-moved to line s name)
    ∙ ap (or_place (moved_place to (place_in_statement line s name))) (first-moved to (line + 1) (line' + 1) ss name
    (λ j l. let e : line + 1 + j ≡ line + suc j = omega arith in let g : line' + suc j ≡ line' + 1 + j = omega arith in ap to e ∙ moves (suc j) (omega (arith, l)) ∙ g))
    ∙ sym (moved-or to (place_in_statement line s name) (first_place (line + 1) ss name))

-- Parts of a text

pub first-append : (line : ℕ) (ps qs : Program) (name : List ℕ) → first_place line (ps ++ qs) name ≡ or_place (first_place line ps name) (first_place (line + length ps) qs name)
first-append line [] qs name = ap (λ k. first_place k qs name) (let e : line ≡ line + 0 = omega arith in e)
first-append line (p ∷ ps) qs name =
    let count : line + 1 + length ps ≡ line + length (p ∷ ps) = omega arith in
    ap (or_place (place_in_statement line p name)) (first-append (line + 1) ps qs name)
    ∙ ap (λ k. or_place (place_in_statement line p name) (or_place (first_place (line + 1) ps name) (first_place k qs name))) count
    ∙ sym (or_place-assoc (place_in_statement line p name) (first_place (line + 1) ps name) (first_place (line + length (p ∷ ps)) qs name))

-- some lines, and others behind them
parted : (xs ys : List (List ℕ)) (name : List ℕ) → definition_of (program_of (xs ++ ys)) name ≡ or_place (first_place 1 (program_of xs) name) (first_place (1 + length xs) (program_of ys) name)
parted xs ys name =
    ap (λ ps. first_place 1 ps name) (map-append statement_of xs ys)
    ∙ first-append 1 (program_of xs) (program_of ys) name
    ∙ ap (λ n. or_place (first_place 1 (program_of xs) name) (first_place (1 + n) (program_of ys) name)) (length-map xs statement_of)

moved-nowhere : (p : DefinitionPlace) → p ≡ moved_place (λ j. j) p
moved-nowhere Nowhere = refl
moved-nowhere _ = refl

-- Definitions before a line, on it and behind it

on-before : (from k : ℕ) (a : DefinitionPlace) → IsWithin from k a → is_on k a ≡ false
on-before from k Nowhere w = refl
on-before from k (ByLabel l index) w = ne_eqb l k (λ e. omega (arith, e, w.1))
on-before from k (Equ l) w = ne_eqb l k (λ e. omega (arith, e, w.1))

on-behind : (k end : ℕ) (b : DefinitionPlace) → IsWithin (k + 1) end b → is_on k b ≡ false
on-behind k end Nowhere w = refl
on-behind k end (ByLabel l index) w = ne_eqb l k (λ e. omega (arith, e, w.0))
on-behind k end (Equ l) w = ne_eqb l k (λ e. omega (arith, e, w.0))

behind-up : (l k : ℕ) → k + 1 ≤ l → nat_le l k ≡ false
behind-up l k least = grind (arith, nat_tests, common_steps)

up-behind : (k end : ℕ) (b : DefinitionPlace) → IsWithin (k + 1) end b → is_up_to k b ≡ false
up-behind k end Nowhere w = refl
up-behind k end (ByLabel l index) w = behind-up l k w.0
up-behind k end (Equ l) w = behind-up l k w.0

up-before : (l k : ℕ) → l < k → nat_le l k ≡ true
up-before l k below = within-up l k (omega (arith, below))

same-line : (l k : ℕ) → k ≤ l → l < k + 1 → (l == k) ≡ true
same-line l k least below = eq-eqb l k (omega (arith, least, below))

-- what a line defines goes between the lines before it and those behind it
between : (k end : ℕ) (a n b : DefinitionPlace) → IsWithin 1 k a → IsWithin (k + 1) end b → or_place a (or_place n b) ≡ or_here k (or_place a b) n
between k end Nowhere n b wa wb = sym (here-first k b n (up-behind k end b wb))
between k end (ByLabel l index) n b wa wb = sym (here-kept k (ByLabel l index) n (up-before l k wa.1))
between k end (Equ l) n b wa wb = sym (here-kept k (Equ l) n (up-before l k wa.1))

-- what is found in the place of what a line defines, if it defines the name first
abbrev found_for : (o found b : DefinitionPlace) → DefinitionPlace
found_for Nowhere found b = b
found_for o found b = found

taken : (k end : ℕ) (to : ℕ → ℕ) (found a o b : DefinitionPlace) → IsWithin 1 k a → IsWithin k (k + 1) o → IsWithin (k + 1) end b → moved_place to a ≡ a → (if is_on k (or_place a (or_place o b)) then found else moved_place to (or_place a (or_place o b))) ≡ or_place a (found_for o found (moved_place to b))
taken k end to found (ByLabel l index) o b wa wo wb stays = ap (λ t. if t then found else moved_place to (ByLabel l index)) (on-before 1 k (ByLabel l index) wa) ∙ stays
taken k end to found (Equ l) o b wa wo wb stays = ap (λ t. if t then found else moved_place to (Equ l)) (on-before 1 k (Equ l) wa) ∙ stays
taken k end to found Nowhere Nowhere b wa wo wb stays = ap (λ t. if t then found else moved_place to b) (on-behind k end b wb)
taken k end to found Nowhere (ByLabel l index) b wa wo wb stays = ap (λ t. if t then found else moved_place to (ByLabel l index)) (same-line l k wo.0 wo.1)
taken k end to found Nowhere (Equ l) b wa wo wb stays = ap (λ t. if t then found else moved_place to (Equ l)) (same-line l k wo.0 wo.1)

found_for-same : (o b : DefinitionPlace) → found_for o b b ≡ b
found_for-same Nowhere b = refl
found_for-same _ b = refl

-- what a line defines, where it is found already
again : (k : ℕ) (a n b : DefinitionPlace) → IsWithin 1 k a → IsWithin k (k + 1) n → or_place a (or_place n b) ≡ or_here k (or_place a (or_place n b)) n
again k (ByLabel l index) n b wa wn = sym (here-kept k (ByLabel l index) n (up-before l k wa.1))
again k (Equ l) n b wa wn = sym (here-kept k (Equ l) n (up-before l k wa.1))
again k Nowhere Nowhere b wa wn = sym (here-nothing k b)
again k Nowhere (ByLabel l index) b wa wn = sym (here-kept k (ByLabel l index) (ByLabel l index) (within-up l k wn.1))
again k Nowhere (Equ l) b wa wn = sym (here-kept k (Equ l) (Equ l) (within-up l k wn.1))

-- a line in the place of another
instead : (k end : ℕ) (a o n b : DefinitionPlace) → IsWithin 1 k a → IsWithin k (k + 1) n → IsWithin (k + 1) end b → or_place a (or_place n b) ≡ or_here k (or_place a (found_for o (or_place n b) b)) n
instead k end a Nowhere n b wa wn wb = between k end a n b wa wb
instead k end a (ByLabel l index) n b wa wn wb = again k a n b wa wn
instead k end a (Equ l) n b wa wn wb = again k a n b wa wn

-- Edited lines: some lines before the place of the edit, and others behind it

module _ (before behind : List (List ℕ)) (name : List ℕ) where
  abbrev number : ℕ
  number = 1 + length before

  abbrev earlier : DefinitionPlace
  earlier = first_place 1 (program_of before) name

  -- where the lines behind begin at a number
  abbrev later : (from : ℕ) → DefinitionPlace
  later from = first_place from (program_of behind) name

  earlier-within : IsWithin 1 number earlier
  earlier-within = subst (λ n. IsWithin 1 (1 + n) earlier) (length-map before statement_of) (within-lines 1 (program_of before) name)

  later-within : (from : ℕ) → IsWithin from (from + length (program_of behind)) (later from)
  later-within from = within-lines from (program_of behind) name

  earlier-stays : (to : ℕ → ℕ) → ((j : ℕ) → j < length before → to (1 + j) ≡ 1 + j) → moved_place to earlier ≡ earlier
  earlier-stays to stays = sym (first-moved to 1 1 (program_of before) name (λ j l. let count = length-map before statement_of in stays j (omega (arith, count, l))))

  later-moves : (to : ℕ → ℕ) (from from' : ℕ) → ((j : ℕ) → j < length behind → to (from + j) ≡ from' + j) → moved_place to (later from) ≡ later from'
  later-moves to from from' moves = sym (first-moved to from from' (program_of behind) name (λ j l. let count = length-map behind statement_of in moves j (omega (arith, count, l))))

  line-put_in : (to : ℕ → ℕ) (line : List ℕ) → ((j : ℕ) → j < length before → to (1 + j) ≡ 1 + j) → ((j : ℕ) → j < length behind → to (number + j) ≡ number + 1 + j) → definition_of (program_of (before ++ line ∷ behind)) name ≡ or_here number (moved_place to (definition_of (program_of (before ++ behind)) name)) (place_in_statement number (statement_of line) name)
  line-put_in to line stays moves =
      let here = place_in_statement number (statement_of line) name in
      let old = parted before behind name in
      parted before (line ∷ behind) name
      ∙ between number (number + 1 + length (program_of behind)) earlier here (later (number + 1)) earlier-within (later-within (number + 1))
      ∙ ap (λ p. or_here number p here)
      ((λ i. or_place (sym (earlier-stays to stays) i) (sym (later-moves to number (number + 1) moves) i))
      ∙ sym (moved-or to earlier (later number))
      ∙ ap (moved_place to) (sym old))

  line-taken_out : (to : ℕ → ℕ) (line : List ℕ) → ((j : ℕ) → j < length before → to (1 + j) ≡ 1 + j) → ((j : ℕ) → j < length behind → to (number + 1 + j) ≡ number + j) → definition_of (program_of (before ++ behind)) name ≡ (if is_on number (definition_of (program_of (before ++ line ∷ behind)) name) then later number else moved_place to (definition_of (program_of (before ++ line ∷ behind)) name))
  line-taken_out to line stays moves =
      let gone = place_in_statement number (statement_of line) name in
      let old = parted before (line ∷ behind) name in
      parted before behind name
      ∙ ap (or_place earlier) (sym (found_for-same gone (later number)) ∙ ap (found_for gone (later number)) (sym (later-moves to (number + 1) number moves)))
      ∙ sym (taken number (number + 1 + length (program_of behind)) to (later number) earlier gone (later (number + 1)) earlier-within (statement-within number (statement_of line) name) (later-within (number + 1)) (earlier-stays to stays))
      ∙ ap (λ p. if is_on number p then later number else moved_place to p) (sym old)

  line-replaced : (former line : List ℕ) → definition_of (program_of (before ++ line ∷ behind)) name ≡ or_here number (if is_on number (definition_of (program_of (before ++ former ∷ behind)) name) then first_place number (program_of (line ∷ behind)) name else moved_place (λ j. j) (definition_of (program_of (before ++ former ∷ behind)) name)) (place_in_statement number (statement_of line) name)
  line-replaced former line =
      let gone = place_in_statement number (statement_of former) name in
      let here = place_in_statement number (statement_of line) name in
      let found = or_place here (later (number + 1)) in
      let end = number + 1 + length (program_of behind) in
      let old = parted before (former ∷ behind) name in
      parted before (line ∷ behind) name
      ∙ instead number end earlier gone here (later (number + 1)) earlier-within (statement-within number (statement_of line) name) (later-within (number + 1))
      ∙ ap (λ p. or_here number p here)
      (ap (λ b. or_place earlier (found_for gone found b)) (moved-nowhere (later (number + 1)))
      ∙ sym (taken number end (λ j. j) found earlier gone (later (number + 1)) earlier-within (statement-within number (statement_of former) name) (later-within (number + 1)) (sym (moved-nowhere earlier)))
      ∙ ap (λ p. if is_on number p then found else moved_place (λ j. j) p) (sym old))

-- Edits

-- a line at the end of `count` lines moves as it should
down : (place j : ℕ) → place ≤ j → j < 2 ^ 32 - 1 → (if nat_lt j place then j else min (j + 1) (2 ^ 32 - 1)) ≡ j + 1
down place j least most = grind (arith, nat_tests, common_steps)

up : (place j : ℕ) → place ≤ j → (if nat_lt j place then j else j - 1) ≡ j - 1
up place j least = grind (arith, nat_tests, common_steps)

stay : (place j k : ℕ) → j < place → (if nat_lt j place then j else k) ≡ j
stay place j k below = grind (arith, nat_tests, common_steps)

-- the definition of a name after an edit
HoldsAfter : (lines : List (List ℕ)) → Edit → (name : List ℕ) → Type 0
HoldsAfter lines edit name = definition_of (program_of (lines_after lines edit)) name ≡ also_on (place_of_edit edit) (kept_after edit (lines_after lines edit) (definition_of (program_of lines))) (put_in edit) name

inserted : (lines : List (List ℕ)) (place : ℕ) (line name : List ℕ) → length lines ≤ MAX_LINES → 1 ≤ place → place ≤ length lines + 1 → HoldsAfter lines (Insert place line) name
unfolding HoldsAfter
inserted lines place line name few first last =
    let before = take (place - 1) lines in
    let behind = drop (place - 1) lines in
    let to = line_after_edit (Insert place line) in
    let count : length before ≡ place - 1 = length-take-le (place - 1) lines (omega (arith, last)) in
    let number : 1 + length before ≡ place = omega (arith, count, first) in
    let whole : before ++ behind ≡ lines = take-append-drop (place - 1) lines in
    let sum : length before + length behind ≡ length lines = sym (length-append before behind) ∙ ap length whole in
    line-put_in before behind name to line
    (λ j l. stay place (1 + j) (min (1 + j + 1) (2 ^ 32 - 1)) (omega (arith, l, count, first)))
    (λ j l.
    let next : 1 + length before + j + 1 ≡ 1 + length before + 1 + j = omega arith in
    down place (1 + length before + j) (omega (arith, count, first)) (omega (arith, sum, few, l)) ∙ next)
    ∙ (λ i. or_here (number i) (moved_place to (definition_of (program_of (whole i)) name)) (place_in_statement (number i) (statement_of line) name))

module _ (lines : List (List ℕ)) (place : ℕ) (name : List ℕ) (first : 1 ≤ place) (last : place ≤ length lines) where
  abbrev before_place : List (List ℕ)
  before_place = take (place - 1) lines

  abbrev behind_place : List (List ℕ)
  behind_place = drop (place - 1 + 1) lines

  abbrev former_line : List ℕ
  former_line = get_or lines (place - 1) []

  count-before : length before_place ≡ place - 1
  count-before = length-take-le (place - 1) lines (omega (arith, last))

  number-at : 1 + length before_place ≡ place
  number-at = omega (arith, count-before, first)

  within-place : place - 1 < length lines
  within-place = omega (arith, first, last)

  whole-before : before_place ++ former_line ∷ behind_place ≡ lines
  whole-before = ap (λ ls. before_place ++ ls) (sym (drop_more lines (place - 1) [] within-place)) ∙ take-append-drop (place - 1) lines

  removed : HoldsAfter lines (Delete place) name
  unfolding HoldsAfter
  removed =
      let after : before_place ++ behind_place ≡ remove lines (place - 1) = ap (λ k. before_place ++ drop k lines) (let next : place - 1 + 1 ≡ suc (place - 1) = omega arith in next) in
      let from : behind_place ≡ drop (place - 1) (remove lines (place - 1)) = sym (drop-append_seam before_place behind_place) ∙ (λ i. drop (count-before i) (after i)) in
      let to = line_after_edit (Delete place) in
      ap (λ ls. definition_of (program_of ls) name) (sym after)
      ∙ line-taken_out before_place behind_place name to former_line
      (λ j l. stay place (1 + j) (1 + j - 1) (omega (arith, l, count-before, first)))
      (λ j l.
      let next : 1 + length before_place + 1 + j - 1 ≡ 1 + length before_place + j = omega arith in
      up place (1 + length before_place + 1 + j) (omega (arith, count-before, first)) ∙ next)
      ∙ (λ i. if is_on (number-at i) (definition_of (program_of (whole-before i)) name) then first_place (number-at i) (program_of (from i)) name else moved_place to (definition_of (program_of (whole-before i)) name))
      ∙ sym (here-nothing place (kept_after (Delete place) (remove lines (place - 1)) (definition_of (program_of lines)) name))

  whole-after : (line : List ℕ) → before_place ++ line ∷ behind_place ≡ set lines (place - 1) line
  whole-after line =
      sym
      (sym (take-append-drop (place - 1) (set lines (place - 1) line))
      ∙ ap (λ ls. ls ++ drop (place - 1) (set lines (place - 1) line)) (take-set lines (place - 1) line)
      ∙ ap (λ ls. before_place ++ ls) (drop-set lines (place - 1) line within-place))

  replaced : (line : List ℕ) → HoldsAfter lines (Replace place line) name
  unfolding HoldsAfter
  replaced line =
      let from : line ∷ behind_place ≡ drop (place - 1) (set lines (place - 1) line) = sym (drop-set lines (place - 1) line within-place) in
      ap (λ ls. definition_of (program_of ls) name) (sym (whole-after line))
      ∙ line-replaced before_place behind_place name former_line line
      ∙ (λ i. or_here (number-at i)
      (if is_on (number-at i) (definition_of (program_of (whole-before i)) name) then first_place (number-at i) (program_of (from i)) name else moved_place (λ j. j) (definition_of (program_of (whole-before i)) name))
      (place_in_statement (number-at i) (statement_of line) name))

after-edit : (lines : List (List ℕ)) (edit : Edit) (name : List ℕ) → length lines ≤ MAX_LINES → refusal_of lines edit ≡ None → HoldsAfter lines edit name
after-edit lines (Insert place line) name few allowed =
    let within = insert_within lines place line allowed in inserted lines place line name few within.0 within.1
after-edit lines (Delete place) name few allowed =
    let within = delete_within lines place allowed in removed lines place name within.0 within.1
after-edit lines (Replace place line) name few allowed =
    let within = replace_within lines place line allowed in replaced lines place name within.0 within.1 line

-- the definitions after an edit: those of before, as they are kept, with what the line defines that it puts in
pub definitions-after : (lines : List (List ℕ)) (edit : Edit) → length lines ≤ MAX_LINES → refusal_of lines edit ≡ None → also_on (place_of_edit edit) (kept_after edit (lines_after lines edit) (definition_of (program_of lines))) (put_in edit) ≡ definition_of (program_of (lines_after lines edit))
unfolding HoldsAfter
definitions-after lines edit few allowed = fun_ext (λ name. sym (after-edit lines edit name few allowed))

-- the place of an edit is one of its text after it, or the next one
pub place-first : (lines : List (List ℕ)) (edit : Edit) → refusal_of lines edit ≡ None → 1 ≤ place_of_edit edit
place-first lines (Insert place line) allowed = (insert_within lines place line allowed).0
place-first lines (Delete place) allowed = (delete_within lines place allowed).0
place-first lines (Replace place line) allowed = (replace_within lines place line allowed).0

pub place-within : (lines after : List (List ℕ)) (edit : Edit) → after ≡ lines_after lines edit → refusal_of lines edit ≡ None → place_of_edit edit - 1 ≤ length after
place-within lines after (Insert place line) is allowed =
    let within = insert_within lines place line allowed in
    let count = length-insert lines (place - 1) line (omega (arith, within.1)) in omega (arith, ap length is, count, within.1)
place-within lines after (Delete place) is allowed =
    let within = delete_within lines place allowed in
    let count = length-remove lines (place - 1) (omega (arith, within.0, within.1)) in omega (arith, ap length is, count, within.0, within.1)
place-within lines after (Replace place line) is allowed =
    let within = replace_within lines place line allowed in
    let count = length-set lines (place - 1) line in omega (arith, ap length is, count, within.1)

-- What the line defines that an edit puts in

pub put_in-inserted : (lines after : List (List ℕ)) (edit : Edit) (place : ℕ) (new line : List ℕ) (before : Definitions) → edit ≡ Insert place new → refusal_of lines edit ≡ None → after ≡ lines_after lines edit → line ≡ get_or after (place - 1) line → also_on place before (place_in_statement place (statement_of line)) ≡ also_on (place_of_edit edit) before (put_in edit)
put_in-inserted lines after edit place new line before is allowed made read =
    let within = insert_within lines place new (subst (λ e. refusal_of lines e ≡ None) is allowed) in
    let same : line ≡ new = read ∙ (λ i. get_or (made i) (place - 1) line) ∙ (λ i. get_or (lines_after lines (is i)) (place - 1) line) ∙ get_or-insert_at lines (place - 1) new line (omega (arith, within.1)) in
    (λ i. also_on place before (place_in_statement place (statement_of (same i)))) ∙ (λ i. also_on (place_of_edit (sym is i)) before (put_in (sym is i)))

pub put_in-replaced : (lines after : List (List ℕ)) (edit : Edit) (place : ℕ) (new line : List ℕ) (before : Definitions) → edit ≡ Replace place new → refusal_of lines edit ≡ None → after ≡ lines_after lines edit → line ≡ get_or after (place - 1) line → also_on place before (place_in_statement place (statement_of line)) ≡ also_on (place_of_edit edit) before (put_in edit)
put_in-replaced lines after edit place new line before is allowed made read =
    let within = replace_within lines place new (subst (λ e. refusal_of lines e ≡ None) is allowed) in
    let same : line ≡ new = read ∙ (λ i. get_or (made i) (place - 1) line) ∙ (λ i. get_or (lines_after lines (is i)) (place - 1) line) ∙ get_or-set_same lines (place - 1) new line (omega (arith, within.0, within.1)) in
    (λ i. also_on place before (place_in_statement place (statement_of (same i)))) ∙ (λ i. also_on (place_of_edit (sym is i)) before (put_in (sym is i)))

-- Rows

-- what has been kept of a row, up to a number
pub record AreKept (edit : Edit) (after names : List (List ℕ)) (row row' : List DefinitionPlace) (n : ℕ) : Type 0 where
  pub kept : (k : ℕ) → k < n → (name : List ℕ) → number_of names name ≡ Some k → get_or row' k Nowhere ≡ place_after edit (found_after edit after name) (get_or row k Nowhere)
  pub left : (k : ℕ) → n ≤ k → get_or row' k Nowhere ≡ get_or row k Nowhere

module _ (edit : Edit) (after names : List (List ℕ)) (row : List DefinitionPlace) where
  pub kept-none : AreKept edit after names row row 0
  kept-none = record {
    kept = λ k below. absurd (omega (arith, below));
    left = λ k up. refl;
  }

  pub kept-more : (row' : List DefinitionPlace) (n : ℕ) (place : DefinitionPlace) → AreKept edit after names row row' n → n < length row' → ((name : List ℕ) → number_of names name ≡ Some n → place ≡ place_after edit (found_after edit after name) (get_or row' n Nowhere)) → AreKept edit after names row (set row' n place) (n + 1)
  kept-more row' n place before within made = record {
    kept = λ k below. at k below (cases_lt k n);
    left = λ k up. get_or-set_other row' n k place Nowhere (λ e. omega (arith, e, up)) ∙ before.left k (omega (arith, up));
  }
    where
      at : (k : ℕ) → k < n + 1 → (k < n) ⊎ (n ≤ k) → (name : List ℕ) → number_of names name ≡ Some k → get_or (set row' n place) k Nowhere ≡ place_after edit (found_after edit after name) (get_or row k Nowhere)
      at k below (inl less) name e = get_or-set_other row' n k place Nowhere (λ same. omega (arith, same, less)) ∙ before.kept k less name e
      at k below (inr up) name e =
          let same : k ≡ n = omega (arith, below, up) in
          ap (λ j. get_or (set row' n place) j Nowhere) same
          ∙ get_or-set_same row' n place Nowhere within
          ∙ made name (e ∙ ap Some same)
          ∙ ap (place_after edit (found_after edit after name)) (before.left n (omega arith) ∙ ap (λ j. get_or row j Nowhere) (sym same))

  -- the whole row, by names
  pub kept-all : (row' : List DefinitionPlace) (n : ℕ) → AreKept edit after names row row' n → length row ≤ n → in_row names row' Nowhere ≡ kept_after edit after (in_row names row Nowhere)
  kept-all row' n all end = fun_ext (λ name. at name (number_of names name) refl)
    where
      nowhere-kept : (edit : Edit) (found : DefinitionPlace) → place_after edit found Nowhere ≡ Nowhere
      nowhere-kept (Insert place line) found = refl
      nowhere-kept _ found = refl

      by : (name : List ℕ) (k : ℕ) → number_of names name ≡ Some k → (k < n) ⊎ (n ≤ k) → get_or row' k Nowhere ≡ place_after edit (found_after edit after name) (get_or row k Nowhere)
      by name k e (inl below) = all.kept k below name e
      by name k e (inr up) =
          let past : get_or row k Nowhere ≡ Nowhere = get_or_past row k Nowhere (omega (arith, up, end)) in
          let found = found_after edit after name in
          all.left k up ∙ past ∙ sym (ap (place_after edit found) past ∙ nowhere-kept edit found)

      at : (name : List ℕ) (r : Option ℕ) → number_of names name ≡ r → in_row names row' Nowhere name ≡ place_after edit (found_after edit after name) (in_row names row Nowhere name)
      at name None e =
          let found = found_after edit after name in
          ap (entry_at row' Nowhere) e ∙ sym (ap (λ r. place_after edit found (entry_at row Nowhere r)) e ∙ nowhere-kept edit found)
      at name (Some k) e =
          ap (entry_at row' Nowhere) e ∙ by name k e (cases_lt k n) ∙ ap (λ r. place_after edit (found_after edit after name) (entry_at row Nowhere r)) (sym e)
