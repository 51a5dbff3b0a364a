-- What the first lines of a text define does not depend on the lines behind them. So the constants on the line that an edit puts in
-- are those on that line before it.
use Rattle.std.proofs.Common.{◌≡◌, ℕ, zero, suc, ◌+◌, ◌-◌, ◌<◌, ◌≤◌, false, List, ◌∷◌, ◌++◌, length, take, drop, None, if◌then◌else◌, arith, ap, sym, ◌∙◌, refl}
use Rattle.std.specs.Result.{result_ok}
use Rattle.std.proofs.lemmas.Bool.{ne_eqb}
use Rattle.std.proofs.lemmas.List.{length-take-le, take-append-drop, map-append, get_or_append_left, length-map, length-set, take-set}
use Rattle.std.proofs.lemmas.List.Edits.{length-insert, length-remove}
use Rattle.std.proofs.Math.Seq.{take-append_seam}
use Rattle.std.proofs.Math.Path.{fun_ext}
use Rattle.rv_stmt.specs.Statement.{statement_of}
use Rattle.rv_layout.specs.Shapes.{constants}
use Rattle.rv_list.specs.declared.view.DefinitionPlace.{DefinitionPlace}
use Rattle.rv_list.specs.declared.view.DefinitionPlace.TheVariants.{Nowhere, Label as ByLabel, Equ}
use Rattle.rv_program.specs.Changes.{program_after}
use Rattle.rv_program.specs.Constants.{defined_value, constant_through, constant_of}
use Rattle.rv_program.specs.Definitions.{or_place, first_place, definition_of, is_equ_on}
use Rattle.rv_program.specs.Edits.{place_of_edit}
use Rattle.rv_program.specs.Program.{Program, program_of, no_statement, body_at}
use Rattle.rv_program.specs.Text.{Edit, Insert, Delete, Replace, refusal_of, lines_after}
use Rattle.rv_program.specs.lemmas.DefinitionLaws.{IsWithin, within-lines}
use Rattle.rv_program.specs.lemmas.EarlierLines.{insert_within, delete_within, replace_within}
use Rattle.rv_program.specs.lemmas.MovedDefinitionLaws.{first-append}

-- a definition on a later line is no `.equ` of this line
later : (m from to : ℕ) (place : DefinitionPlace) → m < from → IsWithin from to place → is_equ_on m place ≡ false
later m from to Nowhere below within = refl
later m from to (ByLabel line index) below within = refl
later m from to (Equ line) below within = ne_eqb line m (λ same. omega (arith, same, below, within.0))

equ-by : (m from to : ℕ) (place other : DefinitionPlace) → m < from → IsWithin from to other → is_equ_on m (or_place place other) ≡ is_equ_on m place
equ-by m from to Nowhere other below within = later m from to other below within
equ-by m from to (ByLabel line index) other below within = refl
equ-by m from to (Equ line) other below within = refl

module _ (p q : Program) where
  pub body-earlier : (i : ℕ) → 1 ≤ i → i ≤ length p → body_at (p ++ q) i ≡ body_at p i
  body-earlier i first last = ap (λ s. s.body) (get_or_append_left p q no_statement (i - 1) (omega (arith, first, last)))

  -- the first lines define the same constants
  pub equ-earlier : (m : ℕ) (name : List ℕ) → m ≤ length p → is_equ_on m (definition_of (p ++ q) name) ≡ is_equ_on m (definition_of p name)
  equ-earlier m name within =
      ap (is_equ_on m) (first-append 1 p q name)
      ∙ equ-by m (1 + length p) (1 + length p + length q) (definition_of p name) (first_place (1 + length p) q name) (omega (arith, within)) (within-lines (1 + length p) q name)

  pub constants-earlier : (m : ℕ) → m ≤ length p → constant_through (p ++ q) m ≡ constant_through p m
  constants-earlier zero within = refl
  constants-earlier (suc m) within =
      let earlier = constants-earlier m (omega (arith, within)) in
      let here = body-earlier (suc m) (omega arith) within in
      fun_ext (λ name.
      (λ i. if is_equ_on (suc m) (definition_of (p ++ q) name) then result_ok (defined_value (constants (earlier i)) (here i)) else earlier i name)
      ∙ ap (λ b. if b then result_ok (defined_value (constants (constant_through p m)) (body_at p (suc m))) else constant_through p m name) (equ-earlier (suc m) name within))

-- those of the first n lines, by these lines alone
constants-first : (lines : List (List ℕ)) (n : ℕ) → n ≤ length lines → constant_through (program_of lines) n ≡ constant_through (program_of (take n lines)) n
constants-first lines n within =
    let count : n ≤ length (program_of (take n lines)) = omega (arith, length-map (take n lines) statement_of, length-take-le n lines within) in
    ap (λ ls. constant_through (program_of ls) n) (sym (take-append-drop n lines))
    ∙ ap (λ p. constant_through p n) (map-append statement_of (take n lines) (drop n lines))
    ∙ constants-earlier (program_of (take n lines)) (program_of (drop n lines)) n count

-- an edit leaves the lines before its place
first-insert : (lines : List (List ℕ)) (n : ℕ) (line : List ℕ) → n ≤ length lines → take n (take n lines ++ line ∷ drop n lines) ≡ take n lines
first-insert lines n line within =
    ap (λ m. take m (take n lines ++ line ∷ drop n lines)) (sym (length-take-le n lines within)) ∙ take-append_seam (take n lines) (line ∷ drop n lines)

first-remove : (lines : List (List ℕ)) (n : ℕ) → n ≤ length lines → take n (take n lines ++ drop (suc n) lines) ≡ take n lines
first-remove lines n within =
    ap (λ m. take m (take n lines ++ drop (suc n) lines)) (sym (length-take-le n lines within)) ∙ take-append_seam (take n lines) (drop (suc n) lines)

record Leaves (lines : List (List ℕ)) (edit : Edit) (n : ℕ) : Type 0 where
  within : n ≤ length lines
  within_after : n ≤ length (lines_after lines edit)
  first : take n (lines_after lines edit) ≡ take n lines

leaves : (lines : List (List ℕ)) (edit : Edit) → refusal_of lines edit ≡ None → Leaves lines edit (place_of_edit edit - 1)
leaves lines (Insert place line) allowed =
    let is = insert_within lines place line allowed in
    let within : place - 1 ≤ length lines = omega (arith, is.1) in
    record {
      within = within;
      within_after = omega (arith, within, length-insert lines (place - 1) line within);
      first = first-insert lines (place - 1) line within;
    }
leaves lines (Delete place) allowed =
    let is = delete_within lines place allowed in
    let within : place - 1 < length lines = omega (arith, is.0, is.1) in
    record {
      within = omega (arith, within);
      within_after = omega (arith, within, length-remove lines (place - 1) within);
      first = first-remove lines (place - 1) (omega (arith, within));
    }
leaves lines (Replace place line) allowed =
    let is = replace_within lines place line allowed in
    let within : place - 1 ≤ length lines = omega (arith, is.1) in
    record {
      within = within;
      within_after = omega (arith, within, length-set lines (place - 1) line);
      first = take-set lines (place - 1) line;
    }

-- the constants on the line at the place of an edit
pub constants-at_place : (lines : List (List ℕ)) (edit : Edit) → refusal_of lines edit ≡ None → constant_of (program_after lines edit) (place_of_edit edit) ≡ constant_of (program_of lines) (place_of_edit edit)
constants-at_place lines edit allowed =
    let n = place_of_edit edit - 1 in
    let are = leaves lines edit allowed in
    constants-first (lines_after lines edit) n are.within_after
    ∙ ap (λ ls. constant_through (program_of ls) n) are.first
    ∙ sym (constants-first lines n are.within)
