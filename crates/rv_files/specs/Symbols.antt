-- The symbols of a text, each once, in the order of their definitions.
use Rattle.std.specs.Prelude.{ℕ, ℤ, pos, ◌+◌, ◌/◌, max, List, [], ◌∷◌, ◌++◌, Option, Some, None, if◌then◌else◌}
use Rattle.rv_stmt.specs.declared.statement.Body.{Body}
use Rattle.rv_stmt.specs.declared.statement.Body.TheVariants.{Equ}
use Rattle.rv_stmt.specs.LabelNames.{Label, LabelName}
use Rattle.rv_stmt.specs.LabelNames as labels
use Rattle.rv_layout.specs.Sections.{section_number}
use Rattle.rv_list.specs.declared.view.LinePlace.{LinePlace}
use Rattle.rv_list.specs.Shown.{Shown, ShownLine, from_lines, is_label, is_equ}
use Rattle.rv_files.specs.declared.text_symbols.TheConstants.{COMPARED}

-- a symbol: its name, its value, if it has one, and the number of the section that it belongs to, if it belongs to one
pub record Symbol : Type 0 where
  pub name : List ℕ
  pub value : Option ℤ
  pub section : Option ℕ

-- a label has the address of its line, and belongs to its section
abbrev pub label_at : LinePlace → (name : List ℕ) → Symbol
label_at place name = record { name = name; value = Some (pos place.address); section = Some (section_number place.section) }

-- the symbol of an `.equ` belongs to no section
abbrev pub equ_of : Shown → (name : List ℕ) → Symbol
equ_of shown name = record { name = name; value = shown.value name; section = None }

-- the symbol of label number `index` of a line, if this is its definition
abbrev pub symbol_of_label : Shown → (line : ℕ) → LinePlace → (index : ℕ) → LabelName → List Symbol
symbol_of_label shown line place index (labels.Symbol name) =
    if is_label line index (shown.definition name) then label_at place name ∷ [] else []
symbol_of_label shown line place index (labels.Local number) = []

-- those of the labels of a line, from number `index` on
abbrev pub symbols_of_labels : Shown → (line : ℕ) → LinePlace → (index : ℕ) → List Label → List Symbol
symbols_of_labels shown line place index [] = []
symbols_of_labels shown line place index (l ∷ ls) =
    symbol_of_label shown line place index l.name ++ symbols_of_labels shown line place (index + 1) ls

-- the symbol of the `.equ` of a line, if this is its definition
abbrev pub symbol_of_body : Shown → (line : ℕ) → Body → List Symbol
symbol_of_body shown line (Equ d) =
    if is_equ line (shown.definition d.symbol) then equ_of shown d.symbol ∷ [] else []
symbol_of_body shown line body = []

abbrev pub symbols_on : Shown → (line : ℕ) → ShownLine → List Symbol
symbols_on shown number line =
    symbols_of_labels shown number line.place 0 line.stmt.labels ++ symbol_of_body shown number line.stmt.body

unfoldable pub symbols_of : Shown → List Symbol
symbols_of shown = from_lines shown (symbols_on shown)

-- among how many symbols a name is looked for that may be meant, where so many reports are shown
abbrev pub searched : (shown : ℕ) → ℕ
searched shown = COMPARED / max 1 shown
