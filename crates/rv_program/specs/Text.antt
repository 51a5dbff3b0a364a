-- A text as a list of lines, what an edit makes of it, and when an edit is refused. The limits are the project's own.
use Rattle.std.specs.Prelude.{◌≡◌, ℕ, ◌+◌, ◌-◌, Bool, not, ◌&&◌, ◌||◌, ◌==◌, nat_lt, nat_le, List, length, insert, remove, set, Option, Some, None, Result, Ok, Err, unwrap_or, if◌then◌else◌}
use Rattle.std.specs.List.{list_any}
use Rattle.rv_text.specs.declared.lexeme.TheConstants.{MAX_LINE_LENGTH}
use Rattle.rv_program.specs.declared.edit_error.EditError.{EditError}
use Rattle.rv_program.specs.declared.edit_error.EditError.TheVariants.{Base, Place, Line, TooMany, Memory}
use Rattle.rv_program.specs.declared.limits.TheConstants.{MAX_LINES}

-- what a store holds: where the first section begins, and the lines
pub record Text : Type 0 where
  pub base : ℕ
  pub lines : List (List ℕ)

-- an edit, whose place is the number of a line, from 1 on
pub data Edit : Type 0 where
  Insert : (place : ℕ) (line : List ℕ) → Edit
  Delete : (place : ℕ) → Edit
  Replace : (place : ℕ) (line : List ℕ) → Edit

-- a line is not too long, and none of its bytes is a line break
abbrev pub is_line : List ℕ → Bool
is_line bytes = not (list_any (λ b. b == 10) bytes) && nat_le (length bytes) MAX_LINE_LENGTH

-- why an edit is refused, whatever the memory: its place, then its line, then that the text is full
abbrev pub refusal_of : List (List ℕ) → Edit → Option EditError
refusal_of lines (Insert place line) =
    if place == 0 || nat_lt (length lines + 1) place then Some Place
    else (if not (is_line line) then Some Line
    else (if nat_le MAX_LINES (length lines) then Some TooMany else None))
refusal_of lines (Delete place) = if place == 0 || nat_lt (length lines) place then Some Place else None
refusal_of lines (Replace place line) =
    if place == 0 || nat_lt (length lines) place then Some Place
    else (if not (is_line line) then Some Line else None)

-- the lines with one put in, taken out or put in the place of another
abbrev pub lines_after : List (List ℕ) → Edit → List (List ℕ)
lines_after lines (Insert place line) = insert lines (place - 1) line
lines_after lines (Delete place) = remove lines (place - 1)
lines_after lines (Replace place line) = set lines (place - 1) line

-- the text after an edit that is not refused
abbrev pub text_after : Text → Edit → Text
text_after text edit = record { base = text.base; lines = lines_after text.lines edit }

-- the number of a refusal
abbrev pub refusal_number : EditError → ℕ
refusal_number Base = 1
refusal_number Place = 2
refusal_number Line = 3
refusal_number TooMany = 4
refusal_number Memory = 5

-- An edit gives the text after it, or says why not and changes nothing. Where nothing else refuses it, memory may
-- run out.
abbrev pub Edits : {A : Type 0} → Text → Edit → Result A EditError → Text → Type 0
Edits old edit (Ok _) new = (refusal_of old.lines edit ≡ None) × (new ≡ text_after old edit)
Edits old edit (Err e) new = (e ≡ unwrap_or (refusal_of old.lines edit) Memory) × (new ≡ old)

-- what is asked of line k of a text: nothing where there is no such line
abbrev pub at_line : {A : Type 0} → List (List ℕ) → (k : ℕ) → A → Option A
at_line lines k answer = if nat_le 1 k && nat_le k (length lines) then Some answer else None
