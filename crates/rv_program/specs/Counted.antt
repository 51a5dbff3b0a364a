-- What an edit adds to the counts of lines read, values computed and lines encoded.
use Rattle.std.specs.Prelude.{◌≡◌, ℕ, ◌+◌, ◌≤◌, Some, Result, Ok, Err}
use Rattle.rv_text.specs.Counting.{Counts}
use Rattle.rv_program.specs.declared.edit_error.EditError.{EditError}
use Rattle.rv_program.specs.Changes.{most_values, most_codes}
use Rattle.rv_program.specs.Text.{Text, Edit, Insert, Delete, Replace, refusal_of}

-- what a counter counted
abbrev pub counts_of : {C : Type 0} → (parsed valued encoded : C → ℕ) → C → Counts
counts_of parsed valued encoded c = record { parsed = parsed c; valued = valued c; encoded = encoded c }

-- how many lines an edit reads: the one that it puts in
abbrev pub lines_read : Edit → ℕ
lines_read (Insert place line) = 1
lines_read (Delete place) = 0
lines_read (Replace place line) = 1

-- no more is counted than an edit may take
pub record AreBounded (text : Text) (edit : Edit) (old new : Counts) : Type 0 where
  pub parsed : new.parsed ≤ old.parsed + lines_read edit
  pub valued : new.valued ≤ old.valued + most_values text.base text.lines edit
  pub encoded : new.encoded ≤ old.encoded + most_codes text.base text.lines edit

-- An edit counts the line that it reads, and no more values and codes than it may take. Where it is refused whatever the
-- memory, it counts nothing, and where memory is wanting, no more than otherwise.
abbrev pub Counted : {A : Type 0} → Text → Edit → Result A EditError → (old new : Counts) → Type 0
Counted text edit (Ok _) old new = (new.parsed ≡ old.parsed + lines_read edit) × AreBounded text edit old new
Counted text edit (Err e) old new = (refusal_of text.lines edit ≡ Some e → new ≡ old) × AreBounded text edit old new
