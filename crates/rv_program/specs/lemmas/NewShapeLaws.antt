-- The shape of the line that an edit puts in, before the edit and after it, and what may be computed for it.
use Rattle.std.proofs.Common.{◌≡◌, ℕ, zero, suc, ◌+◌, ◌-◌, ◌<◌, ◌≤◌, ◌⊎◌, inl, inr, nat_le, Bool, true, false, List, length, Option, Some, None, if◌then◌else◌, arith, ap, sym, ◌∙◌, refl}
use Rattle.std.proofs.lemmas.Bool.{cases_lt, le-leb, lt-leb}
use Rattle.std.proofs.lemmas.Bool.Decides.{nat_tests}
use Rattle.std.proofs.lemmas.Grind.{common_steps}
use Rattle.std.proofs.lemmas.List.{length-set, get_or-set_same}
use Rattle.std.proofs.lemmas.List.Edits.{length-insert, get_or-insert_at}
use Rattle.rv_stmt.specs.Statement.{statement_of}
use Rattle.rv_layout.specs.declared.measured.Measured.{Measured}
use Rattle.rv_layout.specs.Shapes.{shape_of, size_operands}
use Rattle.rv_program.specs.Changes.{program_after}
use Rattle.rv_program.specs.Constants.{constant_of}
use Rattle.rv_program.specs.Edits.{line_before_edit, place_of_edit}
use Rattle.rv_program.specs.Layout.{shape_at}
use Rattle.rv_program.specs.internal.NewShapes.{IsNewShape, shape_operands, shape_operands_through}
use Rattle.rv_program.specs.Program.{statement_at, body_at}
use Rattle.rv_program.specs.Text.{Edit, Insert, Delete, Replace, refusal_of, lines_after}
use Rattle.rv_program.specs.internal.Work.{work}
use Rattle.rv_program.specs.lemmas.EarlierConstants.{constants-at_place}
use Rattle.rv_program.specs.lemmas.EarlierLines.{insert_within, delete_within, replace_within}
use Rattle.rv_program.specs.lemmas.KeptShapes.{new-invalidated}
use Rattle.rv_program.specs.lemmas.TextLines.{statement_of_line}
use Rattle.rv_program.specs.lemmas.WorkLaws.{work-invalidated, work-up}

-- The line at the place of an edit

inserted : (lines : List (List ℕ)) (place : ℕ) (line : List ℕ) → refusal_of lines (Insert place line) ≡ None → statement_at (program_after lines (Insert place line)) place ≡ statement_of line
inserted lines place line allowed =
    let is = insert_within lines place line allowed in
    let room : place - 1 ≤ length lines = omega (arith, is.1) in
    statement_of_line (lines_after lines (Insert place line)) place line (omega (arith, is.0, room, length-insert lines (place - 1) line room)) is.0 (sym (get_or-insert_at lines (place - 1) line line room))

replaced : (lines : List (List ℕ)) (place : ℕ) (line : List ℕ) → refusal_of lines (Replace place line) ≡ None → statement_at (program_after lines (Replace place line)) place ≡ statement_of line
replaced lines place line allowed =
    let is = replace_within lines place line allowed in
    let there : place - 1 < length lines = omega (arith, is.0, is.1) in
    statement_of_line (lines_after lines (Replace place line)) place line (omega (arith, is.1, length-set lines (place - 1) line)) is.0 (sym (get_or-set_same lines (place - 1) line line there))

pub deleted-stood : (place : ℕ) → line_before_edit (Delete place) place ≡ None → ⊥
deleted-stood place h = grind (arith, nat_tests, common_steps)

-- Its shape

pub shape-at_place : (lines : List (List ℕ)) (edit : Edit) (shape : Measured) → refusal_of lines edit ≡ None → IsNewShape lines edit shape → line_before_edit edit (place_of_edit edit) ≡ None → shape ≡ shape_at (program_after lines edit) (place_of_edit edit)
shape-at_place lines (Insert place line) shape allowed is new =
    is
    ∙ ap (λ f. shape_of f (statement_of line).body) (sym (constants-at_place lines (Insert place line) allowed))
    ∙ ap (λ s. shape_of (constant_of (program_after lines (Insert place line)) place) s.body) (sym (inserted lines place line allowed))
shape-at_place lines (Delete place) shape allowed is new = absurd (deleted-stood place new)
shape-at_place lines (Replace place line) shape allowed is new =
    is
    ∙ ap (λ f. shape_of f (statement_of line).body) (sym (constants-at_place lines (Replace place line) allowed))
    ∙ ap (λ s. shape_of (constant_of (program_after lines (Replace place line)) place) s.body) (sym (replaced lines place line allowed))

-- The operands from which it follows

operands-at_place : (lines : List (List ℕ)) (edit : Edit) → refusal_of lines edit ≡ None → line_before_edit edit (place_of_edit edit) ≡ None → size_operands (body_at (program_after lines edit) (place_of_edit edit)) ≡ shape_operands edit
operands-at_place lines (Insert place line) allowed new = ap (λ s. size_operands s.body) (inserted lines place line allowed)
operands-at_place lines (Delete place) allowed new = absurd (deleted-stood place new)
operands-at_place lines (Replace place line) allowed new = ap (λ s. size_operands s.body) (replaced lines place line allowed)

record IsInside (lines : List (List ℕ)) (edit : Edit) : Type 0 where
  first : 1 ≤ place_of_edit edit
  last : (shape_operands edit ≡ 0) ⊎ (place_of_edit edit ≤ length (lines_after lines edit))

inside : (lines : List (List ℕ)) (edit : Edit) → refusal_of lines edit ≡ None → IsInside lines edit
inside lines (Insert place line) allowed =
    let is = insert_within lines place line allowed in
    let room : place - 1 ≤ length lines = omega (arith, is.1) in
    record { first = is.0; last = inr (omega (arith, is.0, room, length-insert lines (place - 1) line room)) }
inside lines (Delete place) allowed =
    let is = delete_within lines place allowed in
    record { first = is.0; last = inl refl }
inside lines (Replace place line) allowed =
    let is = replace_within lines place line allowed in
    record { first = is.0; last = inr (omega (arith, is.1, length-set lines (place - 1) line)) }

through-above : (edit : Edit) (i : ℕ) → place_of_edit edit ≤ i → shape_operands_through edit i ≡ shape_operands edit
through-above edit i above = ap (λ b. if b then shape_operands edit else 0) (le-leb (place_of_edit edit) i above)

through-below : (edit : Edit) (i : ℕ) → i < place_of_edit edit → shape_operands_through edit i ≡ 0
through-below edit i below = ap (λ b. if b then shape_operands edit else 0) (lt-leb (place_of_edit edit) i below)

through-nothing : (edit : Edit) (i : ℕ) → shape_operands edit ≡ 0 → shape_operands_through edit i ≡ 0
through-nothing edit i none = at (nat_le (place_of_edit edit) i)
  where
    at : (b : Bool) → (if b then shape_operands edit else 0) ≡ 0
    at true = none
    at false = refl

-- of no lines, and of all
pub through-start : (lines : List (List ℕ)) (edit : Edit) → refusal_of lines edit ≡ None → shape_operands_through edit 0 ≡ 0
through-start lines edit allowed = through-below edit 0 (let first = (inside lines edit allowed).first in omega (arith, first))

pub through-end : (lines : List (List ℕ)) (edit : Edit) (n : ℕ) → refusal_of lines edit ≡ None → n ≡ length (lines_after lines edit) → shape_operands_through edit n ≡ shape_operands edit
through-end lines edit n allowed all = at (inside lines edit allowed).last
  where
    at : (shape_operands edit ≡ 0) ⊎ (place_of_edit edit ≤ length (lines_after lines edit)) → shape_operands_through edit n ≡ shape_operands edit
    at (inl none) = through-nothing edit n none ∙ sym none
    at (inr last) = through-above edit n (omega (arith, last, all))

-- a line that stood before the edit adds none
stood-adds : (edit : Edit) (i j : ℕ) → line_before_edit edit (i + 1) ≡ Some j → (shape_operands edit ≡ 0) ⊎ ((i + 1 ≡ place_of_edit edit) → ⊥)
stood-adds (Insert place line) i j h = inr (λ e. grind (arith, nat_tests, common_steps))
stood-adds (Delete place) i j h = inl refl
stood-adds (Replace place line) i j h = inr (λ e. grind (arith, nat_tests, common_steps))

pub through-stood : (edit : Edit) (i j : ℕ) → line_before_edit edit (i + 1) ≡ Some j → shape_operands_through edit (i + 1) ≡ shape_operands_through edit i
through-stood edit i j h = at (stood-adds edit i j h) (cases_lt i (place_of_edit edit))
  where
    at : (shape_operands edit ≡ 0) ⊎ ((i + 1 ≡ place_of_edit edit) → ⊥) → (i < place_of_edit edit) ⊎ (place_of_edit edit ≤ i) → shape_operands_through edit (i + 1) ≡ shape_operands_through edit i
    at (inl none) where_ = through-nothing edit (i + 1) none ∙ sym (through-nothing edit i none)
    at (inr apart) (inr above) = through-above edit (i + 1) (omega (arith, above)) ∙ sym (through-above edit i above)
    at (inr apart) (inl below) = next (cases_lt (i + 1) (place_of_edit edit))
      where
        next : (i + 1 < place_of_edit edit) ⊎ (place_of_edit edit ≤ i + 1) → shape_operands_through edit (i + 1) ≡ shape_operands_through edit i
        next (inl less) = through-below edit (i + 1) less ∙ sym (through-below edit i below)
        next (inr more) = absurd (apart (omega (arith, below, more)))

-- What may be computed

pub new-place : (edit : Edit) (k : ℕ) → line_before_edit edit k ≡ None → k ≡ place_of_edit edit
new-place (Insert place line) k h = grind (arith, nat_tests, common_steps)
new-place _ k h = grind (arith, nat_tests, common_steps)

-- the new line has its share of the work on one line more
module _ (base : ℕ) (lines : List (List ℕ)) (edit : Edit) (allowed : refusal_of lines edit ≡ None) where
  pub through-new : (i : ℕ) → line_before_edit edit (i + 1) ≡ None → work size_operands base lines edit i + shape_operands_through edit (i + 1) ≤ work size_operands base lines edit (i + 1) + shape_operands_through edit i
  through-new i new =
      let here = new-place edit (i + 1) new in
      let back : i + 1 - 1 ≡ i = omega arith in
      let more = work-invalidated size_operands base lines edit (i + 1) (omega arith) (new-invalidated base lines edit (i + 1) new) in
      let before = ap (work size_operands base lines edit) back in
      let operands = ap (λ k. size_operands (body_at (program_after lines edit) k)) here ∙ operands-at_place lines edit allowed (ap (line_before_edit edit) (sym here) ∙ new) in
      let all = through-above edit (i + 1) (omega (arith, here)) in
      omega (arith, more, before, operands, all)

  -- and so has each line
  pub through-next : (i : ℕ) → work size_operands base lines edit i + shape_operands_through edit (i + 1) ≤ work size_operands base lines edit (i + 1) + shape_operands_through edit i
  through-next i = at (line_before_edit edit (i + 1)) refl
    where
      at : (stood : Option ℕ) → line_before_edit edit (i + 1) ≡ stood → work size_operands base lines edit i + shape_operands_through edit (i + 1) ≤ work size_operands base lines edit (i + 1) + shape_operands_through edit i
      at None h = through-new i h
      at (Some j) h = omega (arith, through-stood edit i j h, work-up size_operands base lines edit i (i + 1) (omega arith))

  through-work : (i : ℕ) → shape_operands_through edit i ≤ work size_operands base lines edit i
  through-work zero = omega (arith, through-start lines edit allowed)
  through-work (suc i) =
      let one : i + 1 ≡ suc i = omega arith in
      let next = through-next i in
      let before = through-work i in
      omega (arith, next, before, ap (shape_operands_through edit) one, ap (work size_operands base lines edit) one)

  -- nothing else is computed yet
  pub shape-work : (n : ℕ) → n ≡ length (lines_after lines edit) → shape_operands edit ≤ work size_operands base lines edit n
  shape-work n all = omega (arith, through-work n, through-end lines edit n allowed all)
