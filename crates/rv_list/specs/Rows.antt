-- Rows of output text, and the row that says how many come after it.
use Rattle.std.specs.Prelude.{ℕ, ◌-◌, List, ◌++◌, length, replicate, codes, decimal}
use Rattle.std.specs.List.{concat}

-- so many spaces
abbrev pub spaces : ℕ → List ℕ
spaces n = replicate n 32

-- a text at the right end, or at the left end, of so many columns
abbrev pub right : (columns : ℕ) → List ℕ → List ℕ
right columns text = spaces (columns - length text) ++ text

abbrev pub left : (columns : ℕ) → List ℕ → List ℕ
left columns text = text ++ spaces (columns - length text)

-- a number that another column follows
abbrev pub field : ℕ → List ℕ
field n = decimal n ++ codes " "

-- the first row of a text: its name, and how many rows come after it
unfoldable pub count_row : (name : List ℕ) → (count : ℕ) → List ℕ
count_row name count = name ++ (codes " " ++ (decimal count ++ codes "\n"))

-- a text of rows, with their number
abbrev pub counted : (name : List ℕ) → (rows : List (List ℕ)) → List ℕ
counted name rows = count_row name (length rows) ++ concat rows
