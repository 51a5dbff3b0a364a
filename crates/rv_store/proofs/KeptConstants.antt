-- The constants of a text after an edit that takes out and puts in lines that define nothing.
use Rattle.std.proofs.Common.{◌≡◌, ℕ, suc, ◌+◌, ◌-◌, ◌<◌, ◌≤◌, ◌⊎◌, inl, inr, ◌==◌, Bool, true, false, not, true≢false, List, [], ◌∷◌, ◌++◌, length, take, drop, set, get_or, bytes_eq, Option, Some, None, if◌then◌else◌, arith, ap, sym, ◌∙◌, refl}
use Rattle.std.specs.Result.{result_ok}
use Rattle.std.proofs.lemmas.Bool.{cases_lt, cases_eq, eq-eqb, ne_eqb, eqb-true, and_parts, not-true}
use Rattle.std.proofs.lemmas.List.{length-take-le, take-append-drop, map-append, get_or-append_right, get_or-map, get_or_default, length-map, length-set, take-set, drop-set, drop_more}
use Rattle.std.proofs.lemmas.List.Edits.{length-insert, length-remove}
use Rattle.std.proofs.Math.Path.{fun_ext}
use Rattle.rv_stmt.specs.declared.directive.Definition.{Definition}
use Rattle.rv_stmt.specs.declared.statement.Body.{Body}
use Rattle.rv_stmt.specs.declared.statement.Body.TheVariants.{Equ as EquBody}
use Rattle.rv_stmt.specs.declared.statement.Stmt.{Stmt}
use Rattle.rv_stmt.specs.LabelNames.{Label}
use Rattle.rv_stmt.specs.Statement.{statement_of}
use Rattle.rv_layout.specs.declared.measured.Measured.{Measured}
use Rattle.rv_layout.specs.Shapes.{constants, shape_of}
use Rattle.rv_list.specs.declared.view.DefinitionPlace.{DefinitionPlace}
use Rattle.rv_list.specs.declared.view.DefinitionPlace.TheVariants.{Nowhere, Label as ByLabel, Equ}
use Rattle.rv_program.specs.declared.before.Before.{Before}
use Rattle.rv_program.specs.Changes.{program_after}
use Rattle.rv_program.specs.Constants.{defined_value, constant_through, constant_of}
use Rattle.rv_program.specs.Definitions.{defines_symbol, place_among_labels, place_in_body, or_place, place_in_statement, first_place, definition_of, is_equ_on}
use Rattle.rv_program.specs.Edits.{line_before_edit}
use Rattle.rv_program.specs.Layout.{shape_at}
use Rattle.rv_program.specs.Program.{Program, program_of, no_statement, statement_at, body_at, for_lines}
use Rattle.rv_program.specs.Text.{Edit, Insert, Delete, Replace, refusal_of, lines_after}
use Rattle.rv_program.specs.Uses.{is_equ}
use Rattle.rv_program.specs.internal.Before.{IsBefore, lines_before, edit_on}
use Rattle.rv_program.specs.internal.NewShapes.{IsNewShape}
use Rattle.rv_program.specs.lemmas.ConstantRows.{constants-kept}
use Rattle.rv_program.specs.lemmas.DefinitionLaws.{IsWithin, within-lines}
use Rattle.rv_program.specs.lemmas.EarlierConstants.{constants-earlier}
use Rattle.rv_program.specs.lemmas.EarlierLines.{insert_within, delete_within, replace_within, insert_before, delete_before, replace_before, stood, statement-stood}
use Rattle.rv_program.specs.lemmas.MovedDefinitionLaws.{first-append}
use Rattle.rv_program.specs.lemmas.Programs.{kept-up, length-program}
use Rattle.rv_store.specs.internal.EditedRows.{shapes_through}
use Rattle.rv_store.specs.internal.NoDefinitions.{defines_nothing, changes_no_definition, KeepsConstants}
use Rattle.rv_store.proofs.FormerShapes.{former, former-length, former-here, former-stood, through-kept, through-all}

-- Statements that are one line further down

abbrev AreLabelled : (line : ℕ) → (here next : DefinitionPlace) → Type 0
AreLabelled line here next = ((here ≡ Nowhere) × (next ≡ Nowhere)) ⊎ ((index : ℕ) × (here ≡ ByLabel line index) × (next ≡ ByLabel (suc line) index))

labelled : (line index : ℕ) (ls : List Label) (name : List ℕ) → AreLabelled line (place_among_labels line index ls name) (place_among_labels (suc line) index ls name)
labelled line index [] name = inl (refl, refl)
labelled line index (l ∷ ls) name = at (defines_symbol l.name name) (labelled line (index + 1) ls name)
  where
    at : (b : Bool) → AreLabelled line (place_among_labels line (index + 1) ls name) (place_among_labels (suc line) (index + 1) ls name)
        → AreLabelled line (if b then ByLabel line index else place_among_labels line (index + 1) ls name) (if b then ByLabel (suc line) index else place_among_labels (suc line) (index + 1) ls name)
    at true later = inr (index, refl, refl)
    at false later = later

equal-next : (line k : ℕ) → (suc line == suc k) ≡ (line == k)
equal-next line k = at (cases_eq line k)
  where
    at : (line ≡ k) ⊎ (line ≡ k → ⊥) → (suc line == suc k) ≡ (line == k)
    at (inl same) = eq-eqb (suc line) (suc k) (ap suc same) ∙ sym (eq-eqb line k same)
    at (inr differs) = ne_eqb (suc line) (suc k) (λ same. differs (omega (arith, same))) ∙ sym (ne_eqb line k differs)

-- a statement and what is after it define the same `.equ`s there
statement-next : (line k : ℕ) (s : Stmt) (name : List ℕ) (rest next : DefinitionPlace) → is_equ_on (suc k) next ≡ is_equ_on k rest → is_equ_on (suc k) (or_place (place_in_statement (suc line) s name) next) ≡ is_equ_on k (or_place (place_in_statement line s name) rest)
statement-next line k s name rest next later =
    at (place_among_labels line 0 s.labels name) (place_among_labels (suc line) 0 s.labels name) (labelled line 0 s.labels name)
  where
    of_body : (b : Body) → is_equ_on (suc k) (or_place (place_in_body (suc line) b name) next) ≡ is_equ_on k (or_place (place_in_body line b name) rest)
    of_body (EquBody d) = by (bytes_eq d.symbol name)
      where
        by : (b : Bool) → is_equ_on (suc k) (or_place (if b then Equ (suc line) else Nowhere) next) ≡ is_equ_on k (or_place (if b then Equ line else Nowhere) rest)
        by true = equal-next line k
        by false = later
    of_body b = later

    at : (place below : DefinitionPlace) → AreLabelled line place below → is_equ_on (suc k) (or_place (or_place below (place_in_body (suc line) s.body name)) next) ≡ is_equ_on k (or_place (or_place place (place_in_body line s.body name)) rest)
    at place below (inl none) =
        (λ i. is_equ_on (suc k) (or_place (or_place (none.1 i) (place_in_body (suc line) s.body name)) next))
        ∙ of_body s.body
        ∙ sym (λ i. is_equ_on k (or_place (or_place (none.0 i) (place_in_body line s.body name)) rest))
    at place below (inr one) =
        (λ i. is_equ_on (suc k) (or_place (or_place (one.2 i) (place_in_body (suc line) s.body name)) next))
        ∙ sym (λ i. is_equ_on k (or_place (or_place (one.1 i) (place_in_body line s.body name)) rest))

equ-next : (line k : ℕ) (ss : Program) (name : List ℕ) → is_equ_on (suc k) (first_place (suc line) ss name) ≡ is_equ_on k (first_place line ss name)
equ-next line k [] name = refl
equ-next line k (s ∷ ss) name =
    statement-next line k s name (first_place (line + 1) ss name) (first_place (suc line + 1) ss name)
    (ap (λ n. is_equ_on (suc k) (first_place n ss name)) (let e : suc line + 1 ≡ suc (line + 1) = omega arith in e) ∙ equ-next (line + 1) k ss name)

-- Statements that define nothing

record DefinesNothing (s : Stmt) : Type 0 where
  labels : s.labels ≡ []
  no_equ : is_equ s.body ≡ false

nothing-by : (s : Stmt) → defines_nothing s ≡ true → DefinesNothing s
nothing-by s none =
    let parts = and_parts (length s.labels == 0) (not (is_equ s.body)) none in
    record {
      labels = at s.labels (eqb-true (length s.labels) 0 parts.0);
      no_equ = not-true (is_equ s.body) parts.1;
    }
  where
    at : (labels : List Label) → length labels ≡ 0 → labels ≡ []
    at [] none = refl
    at (l ∷ ls) none = absurd (omega (arith, none))

-- A text with one more line, which defines nothing

module _ (front rest : Program) (s : Stmt) (none : DefinesNothing s) where
  abbrev less : Program
  less = front ++ rest

  abbrev more : Program
  more = front ++ s ∷ rest

  abbrev n : ℕ
  n = length front

  none-here : (line : ℕ) (name : List ℕ) → place_in_statement line s name ≡ Nowhere
  none-here line name = ap (λ ls. or_place (place_among_labels line 0 ls name) (place_in_body line s.body name)) none.labels ∙ at s.body none.no_equ
    where
      at : (b : Body) → is_equ b ≡ false → place_in_body line b name ≡ Nowhere
      at (EquBody d) apart = absurd (true≢false apart)
      at b apart = refl

  equ-later : (i : ℕ) (name : List ℕ) → n ≤ i → is_equ_on (suc (suc i)) (definition_of more name) ≡ is_equ_on (suc i) (definition_of less name)
  equ-later i name past =
      (λ j. is_equ_on (suc (suc i)) (first-append 1 front (s ∷ rest) name j))
      ∙ (λ j. is_equ_on (suc (suc i)) (or_place (first_place 1 front name) (or_place (none-here (1 + n) name j) (first_place (1 + n + 1) rest name))))
      ∙ at (first_place 1 front name) (within-lines 1 front name)
      ∙ sym (ap (is_equ_on (suc i)) (first-append 1 front rest name))
    where
      at : (place : DefinitionPlace) → IsWithin 1 (1 + n) place → is_equ_on (suc (suc i)) (or_place place (first_place (1 + n + 1) rest name)) ≡ is_equ_on (suc i) (or_place place (first_place (1 + n) rest name))
      at Nowhere within =
          ap (λ k. is_equ_on (suc (suc i)) (first_place k rest name)) (let e : 1 + n + 1 ≡ suc (1 + n) = omega arith in e) ∙ equ-next (1 + n) (suc i) rest name
      at (ByLabel line index) within = refl
      at (Equ line) within =
          ne_eqb line (suc (suc i)) (λ e. omega (arith, e, past, within.1)) ∙ sym (ne_eqb line (suc i) (λ e. omega (arith, e, past, within.1)))

  body-later : (i : ℕ) → n ≤ i → body_at more (suc (suc i)) ≡ body_at less (suc i)
  body-later i past =
      let here : suc (suc i) - 1 ≡ suc i = omega arith in
      let there : suc i - 1 ≡ i = omega arith in
      let next : suc i - n ≡ suc (i - n) = omega (arith, past) in
      ap (λ s. s.body)
      (ap (λ k. get_or more k no_statement) here
      ∙ get_or-append_right front (s ∷ rest) n (suc i) no_statement refl (omega (arith, past))
      ∙ ap (λ k. get_or (s ∷ rest) k no_statement) next
      ∙ sym (get_or-append_right front rest n i no_statement refl past)
      ∙ ap (λ k. get_or less k no_statement) (sym there))

  constants-before : (m : ℕ) → m ≤ n → constant_through more m ≡ constant_through less m
  constants-before m within = constants-earlier front (s ∷ rest) m within ∙ sym (constants-earlier front rest m within)

  constants-here : constant_through more (suc n) ≡ constant_through less n
  constants-here =
      constants-kept more n (λ d is. absurd (no_equ d is)) ∙ constants-before n (omega arith)
    where
      no_equ : (d : Definition) → body_at more (suc n) ≡ EquBody d → ⊥
      no_equ d is =
          let here : suc n - 1 ≡ n = omega arith in
          let zero : n - n ≡ 0 = omega arith in
          let body : body_at more (suc n) ≡ s.body =
          ap (λ s. s.body)
          (ap (λ k. get_or more k no_statement) here ∙ get_or-append_right front (s ∷ rest) n n no_statement refl (omega arith) ∙ ap (λ k. get_or (s ∷ rest) k no_statement) zero) in
          true≢false (sym (ap is_equ is) ∙ ap is_equ body ∙ none.no_equ)

  constants-after : (m : ℕ) → n ≤ m → constant_through more (suc m) ≡ constant_through less m
  constants-after m past = kept-up (λ i. constant_through more (suc i) ≡ constant_through less i) n m past (λ i from to so_far. step i from so_far) constants-here
    where
      step : (i : ℕ) → n ≤ i → constant_through more (suc i) ≡ constant_through less i → constant_through more (suc (suc i)) ≡ constant_through less (suc i)
      step i from so_far = fun_ext (λ name.
          (λ j. if is_equ_on (suc (suc i)) (definition_of more name) then result_ok (defined_value (constants (so_far j)) (body-later i from j)) else so_far j name)
          ∙ ap (λ b. if b then result_ok (defined_value (constants (constant_through less i)) (body_at less (suc i))) else constant_through less i name) (equ-later i name from))

-- Edits

module _ (lines : List (List ℕ)) (place : ℕ) where
  abbrev first_lines : Program
  first_lines = program_of (take (place - 1) lines)

  count : place - 1 ≤ length lines → length first_lines ≡ place - 1
  count within = length-map (take (place - 1) lines) statement_of ∙ length-take-le (place - 1) lines within

  with-line : (line : List ℕ) (behind : List (List ℕ)) → program_of (take (place - 1) lines ++ line ∷ behind) ≡ first_lines ++ statement_of line ∷ program_of behind
  with-line line behind = map-append statement_of (take (place - 1) lines) (line ∷ behind)

  without-line : (behind : List (List ℕ)) → program_of (take (place - 1) lines ++ behind) ≡ first_lines ++ program_of behind
  without-line behind = map-append statement_of (take (place - 1) lines) behind

  inserted : (line : List ℕ) → refusal_of lines (Insert place line) ≡ None → DefinesNothing (statement_of line) → KeepsConstants lines (Insert place line)
  inserted line allowed none = record {
    on = λ k j first stood. at k j first (insert_before place line k j stood);
    all =
        ap (λ m. constant_through after m) (length-insert lines (place - 1) line within ∙ (let e : length lines + 1 ≡ suc (length lines) = omega arith in e))
        ∙ ap (λ p. constant_through p (suc (length lines))) with_it
        ∙ constants-after first_lines rest (statement_of line) none (length lines) (omega (arith, count within, within))
        ∙ ap (λ p. constant_through p (length lines)) (sym without_it);
  }
    where
      bounds : (1 ≤ place) × (place ≤ length lines + 1)
      bounds = insert_within lines place line allowed

      within : place - 1 ≤ length lines
      within = omega (arith, bounds.1)

      rest : Program
      rest = program_of (drop (place - 1) lines)

      after : Program
      after = program_after lines (Insert place line)

      with_it : after ≡ first_lines ++ statement_of line ∷ rest
      with_it = with-line line (drop (place - 1) lines)

      without_it : program_of lines ≡ first_lines ++ rest
      without_it = ap program_of (sym (take-append-drop (place - 1) lines)) ∙ without-line (drop (place - 1) lines)

      at : (k j : ℕ) → 1 ≤ k → ((k < place) × (j ≡ k)) ⊎ ((place < k) × (j ≡ k - 1)) → constant_of after k ≡ constant_of (program_of lines) j
      at k j first (inl before) =
          ap (λ p. constant_through p (k - 1)) with_it
          ∙ constants-before first_lines rest (statement_of line) none (k - 1) (omega (arith, count within, before.0))
          ∙ (λ i. constant_through (sym without_it i) (sym before.1 i - 1))
      at k j first (inr past) =
          let next : k - 1 ≡ suc (k - 2) = omega (arith, past.0, bounds.0) in
          let there : k - 2 ≡ j - 1 = omega (arith, past.1) in
          ap (λ p. constant_through p (k - 1)) with_it
          ∙ ap (constant_through (first_lines ++ statement_of line ∷ rest)) next
          ∙ constants-after first_lines rest (statement_of line) none (k - 2) (omega (arith, count within, past.0))
          ∙ (λ i. constant_through (sym without_it i) (there i))

  -- the line that stands at the place
  module _ (first : 1 ≤ place) (last : place ≤ length lines) (line : List ℕ) (read : line ≡ get_or lines (place - 1) line) where
    abbrev rest_lines : List (List ℕ)
    rest_lines = drop (suc (place - 1)) lines

    within : place - 1 < length lines
    within = omega (arith, first, last)

    parts : lines ≡ take (place - 1) lines ++ line ∷ rest_lines
    parts =
        sym (take-append-drop (place - 1) lines)
        ∙ ap (λ ls. take (place - 1) lines ++ ls) (drop_more lines (place - 1) line within)
        ∙ (λ i. take (place - 1) lines ++ sym read i ∷ drop (let e : place - 1 + 1 ≡ suc (place - 1) = omega arith in e i) lines)

    whole : program_of lines ≡ first_lines ++ statement_of line ∷ program_of rest_lines
    whole = ap program_of parts ∙ with-line line rest_lines

    front_count : length first_lines ≡ place - 1
    front_count = count (omega (arith, within))

    deleted : DefinesNothing (statement_of line) → KeepsConstants lines (Delete place)
    deleted none = record {
      on = λ k j first stood. at k j first (delete_before place k j stood);
      all =
          let fewer = length-remove lines (place - 1) within in
          let next : length lines ≡ suc (length lines - 1) = omega (arith, within) in
          let less_one : length (lines_after lines (Delete place)) ≡ length lines - 1 = omega (arith, fewer, within) in
          ap (constant_through after) less_one
          ∙ ap (λ p. constant_through p (length lines - 1)) without_it
          ∙ sym (constants-after first_lines (program_of rest_lines) (statement_of line) none (length lines - 1) (omega (arith, front_count, within)))
          ∙ (λ i. constant_through (sym whole i) (sym next i));
    }
      where
        after : Program
        after = program_after lines (Delete place)

        without_it : after ≡ first_lines ++ program_of rest_lines
        without_it = without-line rest_lines

        at : (k j : ℕ) → 1 ≤ k → ((k < place) × (j ≡ k)) ⊎ ((place ≤ k) × (j ≡ k + 1)) → constant_of after k ≡ constant_of (program_of lines) j
        at k j one (inl before) =
            ap (λ p. constant_through p (k - 1)) without_it
            ∙ sym (constants-before first_lines (program_of rest_lines) (statement_of line) none (k - 1) (omega (arith, front_count, before.0)))
            ∙ (λ i. constant_through (sym whole i) (sym before.1 i - 1))
        at k j one (inr past) =
            let there : suc (k - 1) ≡ j - 1 = omega (arith, past.1, one) in
            ap (λ p. constant_through p (k - 1)) without_it
            ∙ sym (constants-after first_lines (program_of rest_lines) (statement_of line) none (k - 1) (omega (arith, front_count, past.0)))
            ∙ (λ i. constant_through (sym whole i) (there i))

    replaced : (new : List ℕ) → DefinesNothing (statement_of new) → DefinesNothing (statement_of line) → KeepsConstants lines (Replace place new)
    replaced new none former_none = record {
      on = λ k j first stood. at k j first (replace_before place new k j stood);
      all =
          let next : length lines ≡ suc (length lines - 1) = omega (arith, within) in
          ap (constant_through after) (length-set lines (place - 1) new ∙ next)
          ∙ ap (λ p. constant_through p (suc (length lines - 1))) with_it
          ∙ same-after (length lines - 1) (omega (arith, within))
          ∙ (λ i. constant_through (sym whole i) (sym next i));
    }
      where
        after : Program
        after = program_after lines (Replace place new)

        with_it : after ≡ first_lines ++ statement_of new ∷ program_of rest_lines
        with_it =
            ap program_of
            (sym (take-append-drop (place - 1) (set lines (place - 1) new))
            ∙ ap (λ ls. ls ++ drop (place - 1) (set lines (place - 1) new)) (take-set lines (place - 1) new)
            ∙ ap (λ ls. take (place - 1) lines ++ ls) (drop-set lines (place - 1) new within)
            ∙ (λ i. take (place - 1) lines ++ new ∷ drop (let e : place - 1 + 1 ≡ suc (place - 1) = omega arith in e i) lines))
            ∙ with-line new rest_lines

        same-before : (m : ℕ) → m ≤ place - 1 → constant_through (first_lines ++ statement_of new ∷ program_of rest_lines) m ≡ constant_through (first_lines ++ statement_of line ∷ program_of rest_lines) m
        same-before m to =
            constants-before first_lines (program_of rest_lines) (statement_of new) none m (omega (arith, front_count, to))
            ∙ sym (constants-before first_lines (program_of rest_lines) (statement_of line) former_none m (omega (arith, front_count, to)))

        same-after : (m : ℕ) → place - 1 ≤ m → constant_through (first_lines ++ statement_of new ∷ program_of rest_lines) (suc m) ≡ constant_through (first_lines ++ statement_of line ∷ program_of rest_lines) (suc m)
        same-after m from =
            constants-after first_lines (program_of rest_lines) (statement_of new) none m (omega (arith, front_count, from))
            ∙ sym (constants-after first_lines (program_of rest_lines) (statement_of line) former_none m (omega (arith, front_count, from)))

        at : (k j : ℕ) → 1 ≤ k → (k ≡ place → ⊥) × (j ≡ k) → constant_of after k ≡ constant_of (program_of lines) j
        at k j one is = by (cases_lt k place)
          where
            there : constant_through (first_lines ++ statement_of line ∷ program_of rest_lines) (k - 1) ≡ constant_of (program_of lines) j
            there = λ i. constant_through (sym whole i) (sym is.1 i - 1)

            by : (k < place) ⊎ (place ≤ k) → constant_of after k ≡ constant_of (program_of lines) j
            by (inl before) = ap (λ p. constant_through p (k - 1)) with_it ∙ same-before (k - 1) (omega (arith, before)) ∙ there
            by (inr from) =
                let past : place < k = past_by (cases_eq k place) in
                let next : k - 1 ≡ suc (k - 2) = omega (arith, past, first) in
                ap (λ p. constant_through p (k - 1)) with_it
                ∙ ap (constant_through (first_lines ++ statement_of new ∷ program_of rest_lines)) next
                ∙ same-after (k - 2) (omega (arith, past))
                ∙ ap (constant_through (first_lines ++ statement_of line ∷ program_of rest_lines)) (sym next)
                ∙ there
              where
                past_by : (k ≡ place) ⊎ (k ≡ place → ⊥) → place < k
                past_by (inl same) = absurd (is.0 same)
                past_by (inr differs) = above (cases_lt place k)
                  where
                    above : (place < k) ⊎ (k ≤ place) → place < k
                    above (inl past) = past
                    above (inr up_to) = absurd (differs (omega (arith, from, up_to)))

-- the statement at a place is that of the line there
statement-there : (lines : List (List ℕ)) (place : ℕ) → 1 ≤ place → place ≤ length lines → statement_at (program_of lines) place ≡ statement_of (get_or lines (place - 1) [])
statement-there lines place first last = get_or-map statement_of lines (place - 1) [] no_statement (omega (arith, first, last))

there-read : (lines : List (List ℕ)) (place : ℕ) → 1 ≤ place → place ≤ length lines → get_or lines (place - 1) [] ≡ get_or lines (place - 1) (get_or lines (place - 1) [])
there-read lines place first last = get_or_default lines (place - 1) [] (get_or lines (place - 1) []) (omega (arith, first, last))

pub keeps-constants : (lines : List (List ℕ)) (edit : Edit) → refusal_of lines edit ≡ None → changes_no_definition lines edit ≡ true → KeepsConstants lines edit
keeps-constants lines (Insert place line) allowed none = inserted lines place line allowed (nothing-by (statement_of line) none)
keeps-constants lines (Delete place) allowed none =
    let within = delete_within lines place allowed in
    let former = get_or lines (place - 1) [] in
    deleted lines place within.0 within.1 former (there-read lines place within.0 within.1)
    (nothing-by (statement_of former) (ap defines_nothing (sym (statement-there lines place within.0 within.1)) ∙ none))
keeps-constants lines (Replace place line) allowed none =
    let within = replace_within lines place line allowed in
    let former = get_or lines (place - 1) [] in
    let parts = and_parts (defines_nothing (statement_of line)) (defines_nothing (statement_at (program_of lines) place)) none in
    replaced lines place within.0 within.1 former (there-read lines place within.0 within.1) line
    (nothing-by (statement_of line) parts.0)
    (nothing-by (statement_of former) (ap defines_nothing (sym (statement-there lines place within.0 within.1)) ∙ parts.1))

-- Shapes

module _ (before : Before) (is : IsBefore before) (lines : List (List ℕ)) (after : lines ≡ lines_after (lines_before before) (edit_on before)) (shape : Measured) (new : IsNewShape (lines_before before) (edit_on before) shape) (keeps : KeepsConstants (lines_before before) (edit_on before)) where
  abbrev program : Program
  program = program_of lines

  abbrev rows : List Measured
  rows = former before is lines after shape

  -- each line has the shape that it had
  former-kept : (i : ℕ) (other : Measured) → i < length lines → get_or rows i other ≡ shape_at program (i + 1)
  former-kept i other within = at (line_before_edit (edit_on before) (i + 1)) refl
    where
      at : (o : Option ℕ) → line_before_edit (edit_on before) (i + 1) ≡ o → get_or rows i other ≡ shape_at program (i + 1)
      at None h = former-here before is lines after shape new i other h
      at (Some j) h =
          let edited = lines_after (lines_before before) (edit_on before) in
          let last : i + 1 ≤ length edited = omega (arith, within, ap length after) in
          let stands = stood (lines_before before) (edit_on before) (i + 1) j is.allowed (omega arith) last h in
          let body : body_at (program_of edited) (i + 1) ≡ body_at (program_of (lines_before before)) j =
          ap (λ s. s.body) (statement-stood (lines_before before) (edit_on before) (i + 1) j (omega arith) last stands) in
          let constant = keeps.on (i + 1) j (omega arith) h in
          former-stood before is lines after shape i j other within h
          ∙ (λ n. shape_of (sym constant n) (sym body n))
          ∙ ap (λ ls. shape_at (program_of ls) (i + 1)) (sym after)

  through-kept_all : (i : ℕ) → i ≤ length rows → shapes_through program rows 0 ≡ shapes_through program rows i
  through-kept_all i within = kept-up (λ m. shapes_through program rows 0 ≡ shapes_through program rows m) 0 i (omega arith) (λ m from to so_far. so_far ∙ step m (omega (arith, to, within))) refl
    where
      step : (m : ℕ) → m < length rows → shapes_through program rows m ≡ shapes_through program rows (suc m)
      step m to =
          through-kept program rows m shape to (former-kept m shape (omega (arith, to, former-length before is lines after shape)))
          ∙ ap (shapes_through program rows) (let e : m + 1 ≡ suc m = omega arith in e)

  pub shapes-kept : rows ≡ for_lines (shape_at program) (length program)
  shapes-kept =
      let count : length rows ≡ length program = former-length before is lines after shape ∙ sym (length-program lines) in
      through-kept_all (length rows) (omega arith)
      ∙ through-all program rows (length rows) (omega arith)
      ∙ ap (for_lines (shape_at program)) count
