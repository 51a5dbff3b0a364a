-- Worked parts of lines and rows, computed on the definitions.
use Rattle.std.specs.Prelude.{◌≡◌, [], ◌∷◌, codes, refl}
use Rattle.std.specs.Fmt.{digits}
use Rattle.strsim.specs.Edits.{rows, next_row, cost_at}
use Rattle.rv_show.specs.Characters.{column_of, excerpt}
use Rattle.rv_show.specs.Rows.{shown_line}
use Rattle.rv_show.specs.Suggestions.{did_you_mean, suggestions}
use Rattle.rv_show.specs.Totals.{amount_of, both_counts, first_shown, last_row, last_rows}

-- Characters

tab_shown : shown_line (9 ∷ codes "adi a0,\ta0  ") ≡ codes "        adi a0, a0"
unfolding shown_line
tab_shown = refl

-- a quotation mark of three bytes, a byte that is part of no character, and the control character U+009B
others_shown : shown_line (0xE2 ∷ 0x80 ∷ 0x9C ∷ 0xE2 ∷ 0x80 ∷ 97 ∷ 0xC2 ∷ 0x9B ∷ 1 ∷ []) ≡ 0xE2 ∷ 0x80 ∷ 0x9C ∷ codes "..a..."
unfolding shown_line
others_shown = refl

-- U+202E and U+061C
turning_shown : shown_line (0xE2 ∷ 0x80 ∷ 0xAE ∷ 97 ∷ 0xD8 ∷ 0x9C ∷ []) ≡ codes "...a.."
unfolding shown_line
turning_shown = refl

columns : column_of (9 ∷ 0xE2 ∷ 0x80 ∷ 0x9C ∷ 97 ∷ []) 1 ∷ column_of (9 ∷ 0xE2 ∷ 0x80 ∷ 0x9C ∷ 97 ∷ []) 2 ∷ column_of (9 ∷ 0xE2 ∷ 0x80 ∷ 0x9C ∷ 97 ∷ []) 4 ∷ column_of (codes "ab") 7 ∷ [] ≡ 8 ∷ 9 ∷ 9 ∷ 2 ∷ []
columns = refl

long_excerpt : excerpt (codes "0123456789012345678901234567890123456789a") ≡ codes "0123456789012345678901234567890123456789..."
long_excerpt = refl

-- Suggestions

near_lop : did_you_mean 0 (suggestions (codes "lop") (codes "lop1" ∷ codes "stop" ∷ codes "loop" ∷ [])) ≡ codes "; did you mean 'lop1' or 'loop'?"
unfolding did_you_mean suggestions rows next_row cost_at
near_lop = refl

near_none : did_you_mean 0 (suggestions (codes "x") (codes "abc" ∷ [])) ≡ []
unfolding did_you_mean suggestions rows next_row cost_at
near_none = refl

-- Totals

last_counts : last_rows (codes "b.s") 0 0 0 1000 ∷ last_rows (codes "b.s") 1 0 1 1000 ∷ last_rows (codes "b.s") 2 1 3 3 ∷ last_rows (codes "b.s") 0 2 2 1000 ∷ last_rows (codes "b.s") 5000 0 1000 1000 ∷ last_rows (codes "b.s") 5000 0 1001 1000 ∷ [] ≡ [] ∷ codes "b.s: 1 fault\n" ∷ codes "b.s: 2 faults, 1 warning\n" ∷ codes "b.s: 2 warnings\n" ∷ codes "b.s: 5000 faults\n" ∷ codes "b.s: 5000 faults; the first 1000 reports are shown, --all shows all\n" ∷ []
unfolding last_row both_counts amount_of first_shown digits
last_counts = refl
