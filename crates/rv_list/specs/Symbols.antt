-- The symbols of a text: a row for each name that is defined, in the order of the definitions.
use Rattle.std.specs.Prelude.{ℕ, ℤ, ◌+◌, List, [], ◌∷◌, ◌++◌, Option, Some, None, codes, if◌then◌else◌}
use Rattle.std.specs.Fmt.{signed_decimal}
use Rattle.rv_text.specs.Rows.{hex}
use Rattle.rv_stmt.specs.declared.statement.Body.{Body}
use Rattle.rv_stmt.specs.declared.statement.Body.TheVariants.{Equ}
use Rattle.rv_stmt.specs.LabelNames.{Label, LabelName, Symbol, Local}
use Rattle.rv_list.specs.Rows.{field, counted}
use Rattle.rv_list.specs.Shown.{Shown, ShownLine, from_lines, is_label, is_equ}

-- the row of a label, and the columns before its name
unfoldable pub label_columns : (line address : ℕ) → List ℕ
label_columns line address = field line ++ (codes "label 0x" ++ (hex 8 address ++ codes " "))

unfoldable pub label_row : (line address : ℕ) → (name : List ℕ) → List ℕ
label_row line address name = label_columns line address ++ (name ++ codes "\n")

-- a value, or a sign that there is none
abbrev pub value_text : Option ℤ → List ℕ
value_text None = codes "?"
value_text (Some value) = signed_decimal value

-- the row of an `.equ`, and the columns before its symbol
unfoldable pub equ_columns : (line : ℕ) → Option ℤ → List ℕ
equ_columns line value = field line ++ (codes "equ " ++ (value_text value ++ codes " "))

unfoldable pub equ_row : (line : ℕ) → Option ℤ → (name : List ℕ) → List ℕ
equ_row line value name = equ_columns line value ++ (name ++ codes "\n")

-- the row of label number `index` of a line, if it is the definition of a symbol
abbrev pub label_symbols : Shown → (line address index : ℕ) → LabelName → List (List ℕ)
label_symbols shown line address index (Symbol name) =
    if is_label line index (shown.definition name) then label_row line address name ∷ [] else []
label_symbols shown line address index (Local number) = []

-- those of the labels of a line, from number `index` on
abbrev pub labels_symbols : Shown → (line address index : ℕ) → List Label → List (List ℕ)
labels_symbols shown line address index [] = []
labels_symbols shown line address index (l ∷ ls) =
    label_symbols shown line address index l.name ++ labels_symbols shown line address (index + 1) ls

-- the row of the `.equ` of a line, if it has one that is the definition of its symbol
abbrev pub body_symbols : Shown → (line : ℕ) → Body → List (List ℕ)
body_symbols shown line (Equ d) =
    if is_equ line (shown.definition d.symbol) then equ_row line (shown.value d.symbol) d.symbol ∷ [] else []
body_symbols shown line body = []

-- the symbols that a line defines: its labels come before its `.equ`
unfoldable pub line_symbols : Shown → (line : ℕ) → ShownLine → List (List ℕ)
line_symbols shown number line =
    labels_symbols shown number line.place.address 0 line.stmt.labels ++ body_symbols shown number line.stmt.body

abbrev pub symbol_rows : Shown → List (List ℕ)
symbol_rows shown = from_lines shown (line_symbols shown)

unfoldable pub symbol_text : Shown → List ℕ
symbol_text shown = counted (codes "symbols") (symbol_rows shown)
