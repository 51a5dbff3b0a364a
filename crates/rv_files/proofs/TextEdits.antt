-- Edits keep a text within the limits.
use Rattle.std.proofs.Common.{◌≡◌, ℕ, suc, ◌-◌, ◌<◌, ◌≤◌, ◌==◌, not, true, List, [], ◌∷◌, length, take, drop, None, arith, length-append, length-take, length-drop}
use Rattle.std.specs.Prelude.{All, nat_le}
use Rattle.std.specs.List.{list_any}
use Rattle.std.proofs.lemmas.Bool.{leb-true, and_parts}
use Rattle.std.proofs.lemmas.Bool.Decides.{nat_tests}
use Rattle.std.proofs.lemmas.Grind.{common_steps}
use Rattle.std.proofs.lemmas.List.{length-set}
use Rattle.std.proofs.lemmas.List.Elements.{All-append, All-cons, All-drop, All-nil, All-set, All-take}
use Rattle.rv_text.specs.declared.lexeme.TheConstants.{MAX_LINE_LENGTH}
use Rattle.rv_layout.specs.Places.{is_base}
use Rattle.rv_program.specs.declared.limits.TheConstants.{MAX_LINES}
use Rattle.rv_program.specs.Text.{Text, Edit, Insert, Delete, Replace, is_line, refusal_of, lines_after, text_after}
use Rattle.rv_files.specs.TextLimits.{IsWithinLimits}

abbrev IsShort : List ℕ → Type 0
IsShort line = length line ≤ MAX_LINE_LENGTH

-- what is put in is short

line_short : (line : List ℕ) → is_line line ≡ true → IsShort line
line_short line e =
    leb-true (length line) MAX_LINE_LENGTH (and_parts (not (list_any (λ b. b == 10) line)) (nat_le (length line) MAX_LINE_LENGTH) e).1

inserts_line : (lines : List (List ℕ)) (place : ℕ) (line : List ℕ) → refusal_of lines (Insert place line) ≡ None → is_line line ≡ true
inserts_line lines place line none = grind (arith, nat_tests, common_steps)

replaces_line : (lines : List (List ℕ)) (place : ℕ) (line : List ℕ) → refusal_of lines (Replace place line) ≡ None → is_line line ≡ true
replaces_line lines place line none = grind (arith, nat_tests, common_steps)

short_after : (lines : List (List ℕ)) (edit : Edit) → All IsShort lines → refusal_of lines edit ≡ None → All IsShort (lines_after lines edit)
short_after lines (Insert place line) short none =
    All-append IsShort (take (place - 1) lines) (line ∷ drop (place - 1) lines) (All-take IsShort (place - 1) lines short)
    (All-cons IsShort line (drop (place - 1) lines) (line_short line (inserts_line lines place line none)) (All-drop IsShort (place - 1) lines short))
short_after lines (Delete place) short none =
    All-append IsShort (take (place - 1) lines) (drop (suc (place - 1)) lines) (All-take IsShort (place - 1) lines short) (All-drop IsShort (suc (place - 1)) lines short)
short_after lines (Replace place line) short none =
    All-set IsShort lines (place - 1) line (line_short line (replaces_line lines place line none)) short

-- the lines stay few

has_room : (lines : List (List ℕ)) (place : ℕ) (line : List ℕ) → refusal_of lines (Insert place line) ≡ None → length lines < MAX_LINES
has_room lines place line none = grind (arith, nat_tests, common_steps)

few_after : (lines : List (List ℕ)) (edit : Edit) → length lines ≤ MAX_LINES → refusal_of lines edit ≡ None → length (lines_after lines edit) ≤ MAX_LINES
few_after lines (Insert place line) few none =
    let k = place - 1 in
    omega (arith, has_room lines place line none, length-append (take k lines) (line ∷ drop k lines), length-take k lines, length-drop k lines)
few_after lines (Delete place) few none =
    let k = place - 1 in
    omega (arith, few, length-append (take k lines) (drop (suc k) lines), length-take k lines, length-drop (suc k) lines)
few_after lines (Replace place line) few none = omega (arith, few, length-set lines (place - 1) line)

pub within_limits_after : (text : Text) (edit : Edit) → IsWithinLimits text → refusal_of text.lines edit ≡ None → IsWithinLimits (text_after text edit)
within_limits_after text edit within none = record {
  based = within.based;
  few = few_after text.lines edit within.few none;
  short = short_after text.lines edit within.short none;
}

pub empty_within_limits : (base : ℕ) → is_base base ≡ true → IsWithinLimits (record { base = base; lines = [] })
empty_within_limits base based = record { based = based; few = omega arith; short = All-nil IsShort }
