-- How the row of local labels is asked for one. (docs/LANGUAGE.md, Local labels)
use Rattle.std.specs.Prelude.{◌≡◌, ℕ, ◌+◌, ◌<◌, ◌≤◌, ◌==◌, nat_le, nat_lt, Bool, true, false, List, [], ◌∷◌, ◌++◌, length, get_or, Option, Some, None, if◌then◌else◌}
use Rattle.std.specs.List.{filter, list_any}
use Rattle.std.specs.List.Sorted.{IsNonDecreasing, IsPartitionPoint}
use Rattle.std.specs.Option.{option_or}
use Rattle.rv_expr.specs.declared.tree.Direction.{Direction}
use Rattle.rv_expr.specs.declared.tree.Direction.TheVariants.{Back, Forward}
use Rattle.rv_program.specs.declared.local_row.LocalRow.{LocalRow}
use Rattle.rv_stmt.specs.LabelNames.{Label, LabelName}
use Rattle.rv_stmt.specs.LabelNames as label

-- the lines of a number: those of its row, or none
abbrev pub lines_with : List LocalRow → (number : ℕ) → List ℕ
lines_with [] number = []
lines_with (row ∷ rows) number = if row.number == number then row.lines else lines_with rows number

-- so many of some lines, from the first on, are this one or earlier ones, and the others are not
abbrev pub AreParted : (line : ℕ) → List ℕ → (count : ℕ) → Type 0
AreParted line lines count = IsPartitionPoint (λ l. nat_le l line ≡ true) (λ l. nat_le l line ≡ false) lines count

-- the last of some lines that is this one or an earlier one
abbrev pub last_up_to : (line : ℕ) → List ℕ → Option ℕ
last_up_to line [] = None
last_up_to line (l ∷ ls) = option_or (last_up_to line ls) (if nat_le l line then Some l else None)

-- the first of some lines that is a later one
abbrev pub first_above : (line : ℕ) → List ℕ → Option ℕ
first_above line [] = None
first_above line (l ∷ ls) = if nat_le l line then first_above line ls else Some l

-- among the lines that have the label
abbrev pub line_among : List ℕ → (line : ℕ) → Direction → Option ℕ
line_among lines line Back = last_up_to line lines
line_among lines line Forward = first_above line lines

-- the line of a local label as `line` names it, where the rows hold the lines of each number
abbrev pub local_line_in : List LocalRow → (line number : ℕ) → Direction → Option ℕ
local_line_in rows line number direction = line_among (lines_with rows number) line direction

-- The order of rows

-- the numbers of rows rise, from this one on
abbrev pub AreFrom : (first : ℕ) → List LocalRow → Type 0
AreFrom first [] = Unit {0}
AreFrom first (row ∷ rows) = (first ≤ row.number) × AreFrom (row.number + 1) rows

-- the same, and all are before `end`
abbrev pub AreWithin : (first end : ℕ) → List LocalRow → Type 0
AreWithin first end [] = first ≤ end
AreWithin first end (row ∷ rows) = (first ≤ row.number) × AreWithin (row.number + 1) end rows

-- the lines of each number rise
abbrev pub AreRising : List LocalRow → Type 0
AreRising rows = (number : ℕ) → IsNonDecreasing (lines_with rows number)

pub record AreLocalRows (rows : List LocalRow) : Type 0 where
  pub sorted : AreFrom 0 rows
  pub rising : AreRising rows

-- so many rows, from the first on, are of numbers before this one, and the others are not
abbrev pub ArePartedBefore : (number : ℕ) → List LocalRow → (count : ℕ) → Type 0
ArePartedBefore number rows count = IsPartitionPoint (λ r. nat_lt r.number number ≡ true) (λ r. nat_lt r.number number ≡ false) rows count

-- the row, if there is one, is that of a number
abbrev pub is_row_of : (number : ℕ) → Option LocalRow → Bool
is_row_of number None = false
is_row_of number (Some row) = row.number == number

-- that at a place is
pub record IsRowOf (number : ℕ) (rows : List LocalRow) (place : ℕ) : Type 0 where
  pub within : place < length rows
  pub same : (other : LocalRow) → (get_or rows place other).number ≡ number

-- those of some lines that are before this one
abbrev pub lines_below : (line : ℕ) → List ℕ → List ℕ
lines_below line lines = filter (λ l. nat_lt l line) lines

-- the lines of a label with one as the last of them, or without it
abbrev pub with_last : (line : ℕ) → (labelled : Bool) → List ℕ → List ℕ
with_last line labelled lines = if labelled then lines_below line lines ++ line ∷ [] else lines

-- Local labels of a line

-- one of some labels is a local one
abbrev pub is_local_label : LabelName → Bool
is_local_label (label.Local number) = true
is_local_label (label.Symbol symbol) = false

abbrev pub has_local_labels : List Label → Bool
has_local_labels labels = list_any (λ l. is_local_label l.name) labels
