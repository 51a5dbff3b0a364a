-- A text and an edit of it, and which lines of the text after it are made anew.
use Rattle.std.proofs.Common.{◌≡◌, ℕ, ◌≤◌, Bool, true, false, List, length, None}
use Rattle.rv_program.specs.declared.before.Before.{Before}
use Rattle.rv_program.specs.declared.limits.TheConstants.{MAX_LINES}
use Rattle.rv_program.specs.declared.revision.Revision.{Revision}
use Rattle.rv_program.specs.declared.value_rows.ValueRows.{ValueRows}
use Rattle.rv_program.specs.Changes.{is_changed, is_invalidated, is_reencoded}
use Rattle.rv_program.specs.Edits.{edit_of}
use Rattle.rv_program.specs.Program.{lines_that}
use Rattle.rv_program.specs.Text.{Edit, refusal_of, lines_after}
use Rattle.rv_program.specs.internal.Before.{base_before, lines_before, edit_on}
use Rattle.rv_program.specs.internal.ValueRows.{AreValueRows, base_of}

-- a text before an edit, and the edit
pub record EditedText : Type 0 where
  pub base : ℕ
  pub lines : List (List ℕ)
  pub edit : Edit

abbrev pub edited_text : Revision → EditedText
edited_text r = record { base = r.base; lines = r.lines.now; edit = edit_of r.edit }

abbrev pub edited_before : Before → EditedText
edited_before before = record { base = base_before before; lines = lines_before before; edit = edit_on before }

-- the lines after the edit
abbrev pub revised_lines : EditedText → List (List ℕ)
revised_lines r = lines_after r.lines r.edit

-- what the edit does to line k of them
abbrev pub invalidates : EditedText → (k : ℕ) → Bool
invalidates r k = is_invalidated r.base r.lines r.edit k

abbrev pub reencodes : EditedText → (k : ℕ) → Bool
reencodes r k = is_reencoded r.base r.lines r.edit k

abbrev pub changes : EditedText → (k : ℕ) → Bool
changes r k = is_changed r.base r.lines r.edit k

-- the edit is not refused, and these are rows of the text after it
pub record IsRevised (r : EditedText) (rows : ValueRows) : Type 0 where
  pub allowed : refusal_of r.lines r.edit ≡ None
  pub of_text : AreValueRows rows
  pub base : base_of rows ≡ r.base
  pub lines : rows.symbols.text.lines.now ≡ revised_lines r
  pub few : length rows.symbols.text.lines.now ≤ MAX_LINES

-- a test tells which of the first n lines are made anew: the edit invalidates each of them, and reencodes none of the others
pub record TellsDue (r : EditedText) (n : ℕ) (test : ℕ → Bool) : Type 0 where
  pub invalidated : (i : ℕ) → 1 ≤ i → i ≤ n → test i ≡ true → invalidates r i ≡ true
  pub others : (i : ℕ) → 1 ≤ i → i ≤ n → test i ≡ false → reencodes r i ≡ false

-- these are made anew
pub record AreDue (r : EditedText) (n : ℕ) (due : List ℕ) : Type 0 where
  pub test : ℕ → Bool
  pub tells : TellsDue r n test
  pub those : due ≡ lines_that test n
