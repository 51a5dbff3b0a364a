-- What is known of an edit that isn't refused.
use Rattle.std.proofs.Common.{◌≡◌, ℕ, ◌-◌, ◌<◌, ◌≤◌, List, length, None, arith}
use Rattle.std.proofs.lemmas.Grind.{common_steps}
use Rattle.std.proofs.lemmas.Bool.Decides.{nat_tests}
use Rattle.std.proofs.lemmas.List.{length-set}
use Rattle.std.proofs.lemmas.List.Edits.{length-insert, length-remove}
use Rattle.std.proofs.lemmas.List.Elements.{All-set}
use Rattle.std.specs.List.{AllPass}
use Rattle.std.specs.Prelude.{true}
use Rattle.rv_program.specs.Text.{Edit, Insert, Delete, Replace, is_line, refusal_of, lines_after}
use Rattle.rv_program.specs.lemmas.EarlierLines.{insert_within, delete_within}
use Rattle.rv_program.specs.lemmas.Lists.{all_insert, all_remove}

-- what is put in is a line
pub puts_in_line : (lines : List (List ℕ)) (place : ℕ) (line : List ℕ) → refusal_of lines (Insert place line) ≡ None → is_line line ≡ true
puts_in_line lines place line none = grind (arith, nat_tests, common_steps)

-- what is put in the place of a line is a line
pub puts_line_instead : (lines : List (List ℕ)) (place : ℕ) (line : List ℕ) → refusal_of lines (Replace place line) ≡ None → is_line line ≡ true
puts_line_instead lines place line none = grind (arith, nat_tests, common_steps)

-- there is room for the line that is put in
pub has_room : (lines : List (List ℕ)) (place : ℕ) (line : List ℕ) → refusal_of lines (Insert place line) ≡ None → length lines < 16384
has_room lines place line none = grind (arith, nat_tests, common_steps)

-- the lines after an edit are lines
pub lined_after : (lines : List (List ℕ)) (edit : Edit) → AllPass is_line lines → refusal_of lines edit ≡ None → AllPass is_line (lines_after lines edit)
lined_after lines (Insert place line) lined none =
    all_insert (λ l. is_line l ≡ true) lines (place - 1) line lined (puts_in_line lines place line none)
lined_after lines (Delete place) lined none = all_remove (λ l. is_line l ≡ true) lines (place - 1) lined
lined_after lines (Replace place line) lined none =
    All-set (λ l. is_line l ≡ true) lines (place - 1) line (puts_line_instead lines place line none) lined

-- the lines after an edit are few
pub few_after : (lines : List (List ℕ)) (edit : Edit) → length lines ≤ 16384 → refusal_of lines edit ≡ None → length (lines_after lines edit) ≤ 16384
few_after lines (Insert place line) few none =
    let within = insert_within lines place line none in
    let room = has_room lines place line none in
    let count = length-insert lines (place - 1) line (omega (arith, within.1)) in
    omega (arith, room, count)
few_after lines (Delete place) few none =
    let within = delete_within lines place none in
    let count = length-remove lines (place - 1) (omega (arith, within.0, within.1)) in
    omega (arith, few, count)
few_after lines (Replace place line) few none = let count = length-set lines (place - 1) line in omega (arith, few, count)
