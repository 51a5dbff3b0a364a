-- What is not invalidated is not reencoded, and what is not reencoded is not changed. What is due is invalidated, and what is not
-- due is not reencoded.
use Rattle.std.proofs.Common.{◌≡◌, ℕ, ◌≤◌, Bool, not, true, false, List, length, None, if◌then◌else◌, ap, sym, ◌∙◌}
use Rattle.std.proofs.lemmas.Bool.{not-false, not_from_true, or_parts, or_from, true≢false, true_from_ne_false}
use Rattle.rv_program.specs.Changes.{program_after, is_new_or, differs_in_code, differs_in_values, is_invalidated, is_reencoded, is_compared, is_due, is_changed}
use Rattle.rv_program.specs.Codes.{values_at, code_by_values}
use Rattle.rv_program.specs.Edits.{line_before_edit}
use Rattle.rv_program.specs.Kept.{IsKept}
use Rattle.rv_program.specs.Layout.{shape_at}
use Rattle.rv_program.specs.Program.{Program, program_of, body_at}
use Rattle.rv_program.specs.Sameness.{same_shape, same_values}
use Rattle.rv_program.specs.Text.{Edit, refusal_of, lines_after}
use Rattle.rv_program.specs.lemmas.EarlierLines.{stood, statement-stood}
use Rattle.rv_program.specs.lemmas.KeptLines.{not_new, kept}
use Rattle.rv_program.specs.lemmas.SamenessLaws.{same_shape-Decides, same_values-Decides, same_code-Decides}

pub not_reencoded : (base : ℕ) (lines : List (List ℕ)) (edit : Edit) (k : ℕ) → refusal_of lines edit ≡ None → 1 ≤ k → k ≤ length (lines_after lines edit) → is_invalidated base lines edit k ≡ false → is_reencoded base lines edit k ≡ false
not_reencoded base lines edit k allowed first last h =
    let line : IsKept base lines edit k = kept base lines edit k allowed first last h in
    let values = (same_values-Decides _ _).1 line.values in
    let shape = (same_shape-Decides _ _).1 line.shape in
    ap (is_new_or (differs_in_values base (program_of lines) (program_after lines edit) k)) line.before
    ∙ or_from _ _ (not_from_true _ values) (not_from_true _ shape)

-- a line that is not reencoded has what it had
pub kept-reencoded : (base : ℕ) (lines : List (List ℕ)) (edit : Edit) (k : ℕ) → refusal_of lines edit ≡ None → 1 ≤ k → k ≤ length (lines_after lines edit) → is_reencoded base lines edit k ≡ false → IsKept base lines edit k
kept-reencoded base lines edit k allowed first last h =
    let before : Program = program_of lines in
    let after : Program = program_after lines edit in
    let (j, is, same) = not_new (differs_in_values base before after k) (line_before_edit edit k) h in
    let parts = or_parts (not (same_values (values_at base after k) (values_at base before j))) (not (same_shape (shape_at after k) (shape_at before j))) same in
    let values : values_at base after k ≡ values_at base before j = (same_values-Decides _ _).0 (not-false _ parts.0) in
    let shape : shape_at after k ≡ shape_at before j = (same_shape-Decides _ _).0 (not-false _ parts.1) in
    let body : body_at after k ≡ body_at before j = ap (λ s. s.body) (statement-stood lines edit k j first last (stood lines edit k j allowed first last is)) in
    record {
      line = j;
      before = is;
      shape = shape;
      values = values;
      code = λ i. code_by_values (shape i) (body i) (values i);
    }

pub not_changed : (base : ℕ) (lines : List (List ℕ)) (edit : Edit) (k : ℕ) → refusal_of lines edit ≡ None → 1 ≤ k → k ≤ length (lines_after lines edit) → is_reencoded base lines edit k ≡ false → is_changed base lines edit k ≡ false
not_changed base lines edit k allowed first last h =
    let line : IsKept base lines edit k = kept-reencoded base lines edit k allowed first last h in
    ap (is_new_or (differs_in_code base (program_of lines) (program_after lines edit) k)) line.before ∙ not_from_true _ ((same_code-Decides _ _).1 line.code)

-- what is reencoded is invalidated
reencoded-invalidated : (base : ℕ) (lines : List (List ℕ)) (edit : Edit) (k : ℕ) → refusal_of lines edit ≡ None → 1 ≤ k → k ≤ length (lines_after lines edit) → is_reencoded base lines edit k ≡ true → is_invalidated base lines edit k ≡ true
reencoded-invalidated base lines edit k allowed first last h =
    true_from_ne_false (is_invalidated base lines edit k) (λ none. true≢false (sym h ∙ not_reencoded base lines edit k allowed first last none))

pub due-invalidated : (base : ℕ) (lines : List (List ℕ)) (edit : Edit) (k : ℕ) → refusal_of lines edit ≡ None → 1 ≤ k → k ≤ length (lines_after lines edit) → is_due base lines edit k ≡ true → is_invalidated base lines edit k ≡ true
due-invalidated base lines edit k allowed first last h = at (is_compared (body_at (program_after lines edit) k)) h
  where
    at : (compared : Bool) → (if compared then is_reencoded base lines edit k else is_invalidated base lines edit k) ≡ true → is_invalidated base lines edit k ≡ true
    at true due = reencoded-invalidated base lines edit k allowed first last due
    at false due = due

pub not_due : (base : ℕ) (lines : List (List ℕ)) (edit : Edit) (k : ℕ) → refusal_of lines edit ≡ None → 1 ≤ k → k ≤ length (lines_after lines edit) → is_due base lines edit k ≡ false → is_reencoded base lines edit k ≡ false
not_due base lines edit k allowed first last h = at (is_compared (body_at (program_after lines edit) k)) h
  where
    at : (compared : Bool) → (if compared then is_reencoded base lines edit k else is_invalidated base lines edit k) ≡ false → is_reencoded base lines edit k ≡ false
    at true same = same
    at false same = not_reencoded base lines edit k allowed first last same
