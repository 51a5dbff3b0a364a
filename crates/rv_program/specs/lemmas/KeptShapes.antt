-- The shape of a line after an edit: where the names that it uses are the constants that they were, it is what it was, and where
-- one is not, the line is invalidated.
use Rattle.std.proofs.Common.{◌≡◌, ℕ, suc, ℤ, ◌+◌, ◌-◌, ◌<◌, ◌≤◌, Bool, true, false, not, ◌&&◌, List, length, get_or, Option, Some, None, arith, ap, sym, ◌∙◌}
use Rattle.std.specs.List.{list_any}
use Rattle.std.proofs.lemmas.Bool.{and_parts, not-false, or_left, or_right}
use Rattle.rv_stmt.specs.declared.statement.Body.{Body}
use Rattle.rv_stmt.specs.Statement.{statement_of}
use Rattle.rv_layout.specs.declared.measured.Measured.{Measured}
use Rattle.rv_layout.specs.Shapes.{shape_of, size_operands}
use Rattle.rv_program.specs.declared.before.Before.{Before}
use Rattle.rv_program.specs.internal.Before.{IsBefore, base_before, lines_before, edit_on}
use Rattle.rv_program.specs.Changes.{program_after, is_new_or, differs_in_name, differs_in_uses, is_invalidated}
use Rattle.rv_program.specs.Constants.{constant_through, constant_of}
use Rattle.rv_program.specs.Edits.{line_before_edit}
use Rattle.rv_program.specs.Layout.{shape_at}
use Rattle.rv_program.specs.Program.{Program, program_of, body_at}
use Rattle.rv_program.specs.References.{reference_of}
use Rattle.rv_program.specs.internal.Rows.{in_row, AreConstants}
use Rattle.rv_program.specs.Sameness.{same_constant, same_entry}
use Rattle.rv_program.specs.Text.{Edit, lines_after}
use Rattle.rv_program.specs.Uses.{names_used, is_sized, uses_symbols}
use Rattle.rv_program.specs.internal.Work.{work}
use Rattle.rv_program.specs.lemmas.ConstantRows.{body-read}
use Rattle.rv_program.specs.lemmas.EarlierLines.{Stood, stood, statement-stood}
use Rattle.rv_program.specs.lemmas.Lists.{any-weaker}
use Rattle.rv_program.specs.lemmas.Programs.{length-for_lines, at-for_lines, length-program}
use Rattle.rv_program.specs.lemmas.SamenessLaws.{same_constant-Decides}
use Rattle.rv_program.specs.lemmas.UsedConstants.{shape-same}
use Rattle.rv_program.specs.lemmas.WorkLaws.{work-invalidated}

-- Line i + 1

-- the constants of the first i lines are those on it
pub constants-on : (program : Program) (i : ℕ) (names : List (List ℕ)) (row : List (Option ℤ)) → AreConstants program i names row → in_row names row None ≡ constant_of program (i + 1)
constants-on program i names row are =
    are.each ∙ ap (constant_through program) (let e : i ≡ i + 1 - 1 = omega arith in e)

pub body-on : (lines : List (List ℕ)) (i : ℕ) (text : List ℕ) → i < length lines → text ≡ get_or lines i text → (statement_of text).body ≡ body_at (program_of lines) (i + 1)
body-on lines i text within read =
    sym (body-read lines i text within read) ∙ ap (body_at (program_of lines)) (let e : suc i ≡ i + 1 = omega arith in e)

pub shape-on : (lines : List (List ℕ)) (i : ℕ) (text : List ℕ) (names : List (List ℕ)) (row : List (Option ℤ)) → i < length lines → text ≡ get_or lines i text → AreConstants (program_of lines) i names row → shape_of (in_row names row None) (statement_of text).body ≡ shape_at (program_of lines) (i + 1)
shape-on lines i text names row within read are =
    ap (λ f. shape_of f (statement_of text).body) (constants-on (program_of lines) i names row are)
    ∙ ap (shape_of (constant_of (program_of lines) (i + 1))) (body-on lines i text within read)

-- A line that stood in the text before the edit

-- a name is another constant than it was on a line before
abbrev pub differs_from : Program → (j : ℕ) → (now : List ℕ → Option ℤ) → (name : List ℕ) → Bool
differs_from before j now name = not (same_constant (now name) (constant_of before j name))

module _ (before : Before) (is : IsBefore before) (lines : List (List ℕ)) (after : lines ≡ lines_after (lines_before before) (edit_on before)) (i j : ℕ) (within : i < length lines) (there : line_before_edit (edit_on before) (i + 1) ≡ Some j) where
  abbrev pub old : Program
  old = program_of (lines_before before)

  last : i + 1 ≤ length (lines_after (lines_before before) (edit_on before))
  last = let count = ap length after in omega (arith, within, count)

  place : Stood (lines_before before) (edit_on before) (i + 1) j
  place = stood (lines_before before) (edit_on before) (i + 1) j is.allowed (omega arith) last there

  body : body_at (program_of lines) (i + 1) ≡ body_at old j
  body =
      ap (λ l. body_at (program_of l) (i + 1)) after
      ∙ ap (λ s. s.body) (statement-stood (lines_before before) (edit_on before) (i + 1) j (omega arith) last place)

  count : length before.shapes.now ≡ length (lines_before before)
  count = ap length is.shapes ∙ length-for_lines (shape_at old) (length old) ∙ length-program (lines_before before)

  pub shape-before : (other : Measured) → get_or before.shapes.now (j - 1) other ≡ shape_at old j
  shape-before other =
      ap (λ row. get_or row (j - 1) other) is.shapes
      ∙ at-for_lines (shape_at old) (length old) (j - 1) other (omega (arith, place.first, place.last, length-program (lines_before before)))
      ∙ ap (shape_at old) (let e : suc (j - 1) ≡ j = omega (arith, place.first) in e)

  module _ (f : List ℕ → Option ℤ) (constants : f ≡ constant_of (program_of lines) (i + 1)) (b : Body) (here : b ≡ body_at (program_of lines) (i + 1)) where
    pub shape-stays : (is_sized b && (uses_symbols b && list_any (differs_from old j f) (names_used b))) ≡ false → shape_at (program_of lines) (i + 1) ≡ shape_at old j
    shape-stays same =
        ap (λ c. shape_of c (body_at (program_of lines) (i + 1))) (sym constants)
        ∙ ap (shape_of f) (sym here)
        ∙ shape-same (differs_from old j f) f (constant_of old j) (λ name h. (same_constant-Decides _ _).0 (not-false _ h)) b same
        ∙ ap (shape_of (constant_of old j)) (here ∙ body)

    pub constant-invalidates : (is_sized b && (uses_symbols b && list_any (differs_from old j f) (names_used b))) ≡ true → is_invalidated (base_before before) (lines_before before) (edit_on before) (i + 1) ≡ true
    constant-invalidates resized =
        let differs = list_any (differs_from old j f) (names_used b) in
        let another : differs ≡ true = (and_parts (uses_symbols b) differs (and_parts (is_sized b) (uses_symbols b && differs) resized).1).1 in
        let base = base_before before in
        let edit = edit_on before in
        let now : Program = program_after (lines_before before) edit in
        let constants' : f ≡ constant_of now (i + 1) = constants ∙ ap (λ l. constant_of (program_of l) (i + 1)) after in
        let here' : b ≡ body_at now (i + 1) = here ∙ ap (λ l. body_at (program_of l) (i + 1)) after in
        let used = names_used (body_at now (i + 1)) in
        let differ : list_any (differs_from old j (constant_of now (i + 1))) used ≡ true =
        ap (λ c. list_any (differs_from old j c) used) (sym constants') ∙ ap (λ x. list_any (differs_from old j f) (names_used x)) (sym here') ∙ another in
        let name : list_any (differs_in_name base old now (i + 1) j) used ≡ true =
        any-weaker (differs_from old j (constant_of now (i + 1))) (differs_in_name base old now (i + 1) j)
        (λ n h. or_right (not (same_entry (reference_of base now (i + 1) n) (reference_of base old j n))) (differs_from old j (constant_of now (i + 1)) n) h)
        used differ in
        ap (is_new_or (λ m. differs_in_uses base old now (i + 1) m (body_at now (i + 1)))) there
        ∙ or_left _ _ (or_left _ _ (or_left _ _ (or_left _ _ name)))

pub new-invalidated : (base : ℕ) (lines : List (List ℕ)) (edit : Edit) (k : ℕ) → line_before_edit edit k ≡ None → is_invalidated base lines edit k ≡ true
new-invalidated base lines edit k is =
    ap (is_new_or (λ j. differs_in_uses base (program_of lines) (program_after lines edit) k j (body_at (program_after lines edit) k))) is

-- what is computed on an invalidated line
pub work-on : (base : ℕ) (old : List (List ℕ)) (edit : Edit) (lines : List (List ℕ)) → lines ≡ lines_after old edit → (i : ℕ) (text : List ℕ) → i < length lines → text ≡ get_or lines i text → is_invalidated base old edit (i + 1) ≡ true → work size_operands base old edit (i + 1) ≡ work size_operands base old edit i + size_operands (statement_of text).body
work-on base old edit lines after i text within read invalidated =
    let back : i + 1 - 1 ≡ i = omega arith in
    work-invalidated size_operands base old edit (i + 1) (omega arith) invalidated
    ∙ ap (λ n. work size_operands base old edit n + size_operands (body_at (program_after old edit) (i + 1))) back
    ∙ ap (λ b. work size_operands base old edit i + size_operands b) (sym (body-on lines i text within read ∙ ap (λ l. body_at (program_of l) (i + 1)) after))
