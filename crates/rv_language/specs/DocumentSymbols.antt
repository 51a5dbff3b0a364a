-- The symbols of a document as tokens of JSON. (Language Server Protocol 3.17, textDocument/documentSymbol)
use Rattle.std.specs.Prelude.{ℕ, ◌+◌, List, [], ◌∷◌, ◌++◌, take, codes, if◌then◌else◌}
use Rattle.std.specs.Str.Lossy.{utf8_lossy}
use Rattle.json.specs.Token.{Token, begin_object, end_object, key}
use Rattle.rv_text.specs.declared.lexeme.Span.{Span}
use Rattle.rv_stmt.specs.declared.statement.Body.{Body}
use Rattle.rv_stmt.specs.declared.statement.Body.TheVariants.{Equ}
use Rattle.rv_stmt.specs.LabelNames.{Label, LabelName, Symbol, Local}
use Rattle.rv_list.specs.Shown.{Shown, ShownLine, from_lines, is_label, is_equ}
use Rattle.rv_doc.specs.declared.encoding.Encoding.{Encoding}
use Rattle.rv_diagnostics.specs.Json.{number_member, string_member}
use Rattle.rv_language.specs.Names.{name_range}

-- a symbol of this kind, by the line that defines it
unfoldable pub document_symbol : Encoding → (number : ℕ) → (text : List ℕ) → Span → (name : List ℕ) → (kind : ℕ) → List Token
document_symbol encoding number text span name kind =
    begin_object ∷ (string_member (codes "name") (utf8_lossy name) ++ (number_member (codes "kind") kind
    ++ (key (codes "range") ∷ (name_range encoding number text span
    ++ (key (codes "selectionRange") ∷ (name_range encoding number text span ++ end_object ∷ []))))))

-- that of label number `index` of a line, if it is the definition of a symbol: a function (12)
abbrev pub label_symbols : Encoding → Shown → (number : ℕ) → (text : List ℕ) → (index : ℕ) → Span → LabelName → List Token
label_symbols encoding shown number text index span (Symbol name) =
    if is_label number index (shown.definition name) then document_symbol encoding number text span name 12 else []
label_symbols encoding shown number text index span (Local n) = []

-- those of the labels of a line, from number `index` on
abbrev pub labels_symbols : Encoding → Shown → (number : ℕ) → (text : List ℕ) → (index : ℕ) → List Label → List Token
labels_symbols encoding shown number text index [] = []
labels_symbols encoding shown number text index (l ∷ ls) =
    label_symbols encoding shown number text index l.span l.name ++ labels_symbols encoding shown number text (index + 1) ls

-- that of the `.equ` of a line, if it has one that is the definition of its symbol: a constant (14)
abbrev pub body_symbols : Encoding → Shown → (number : ℕ) → (text : List ℕ) → Body → List Token
body_symbols encoding shown number text (Equ d) =
    if is_equ number (shown.definition d.symbol) then document_symbol encoding number text d.span d.symbol 14 else []
body_symbols encoding shown number text body = []

-- those that a line defines: its labels come before its `.equ`
unfoldable pub line_symbols : Encoding → Shown → (number : ℕ) → ShownLine → List Token
line_symbols encoding shown number line =
    labels_symbols encoding shown number (take 1000 line.text) 0 line.stmt.labels ++ body_symbols encoding shown number (take 1000 line.text) line.stmt.body

-- all of them
abbrev pub document_symbols : Encoding → Shown → List Token
document_symbols encoding shown = from_lines shown (line_symbols encoding shown)
