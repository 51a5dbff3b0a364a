-- The diagnostics of a document, by its bytes and its base alone.
use Rattle.std.specs.Prelude.{ℕ, List, [], ◌∷◌, ◌++◌, codes}
use Rattle.json.specs.Token.{Token, begin_object, end_object, begin_array, end_array, key}
use Rattle.rv_expr.specs.Value.{Environment}
use Rattle.rv_doc.specs.declared.encoding.Encoding.{Encoding}
use Rattle.rv_doc.specs.Positions.{lines_of}
use Rattle.rv_program.specs.Text.{Text}
use Rattle.rv_store.specs.LinesOfTexts.{names_from}
use Rattle.rv_store.specs.Shown.{shown_of}
use Rattle.rv_diagnostics.specs.Json.{string_member}
use Rattle.rv_diagnostics.specs.Published.{diagnostics_of}
use Rattle.rv_changes.specs.PlacedDocuments.{PlacedDocument, text_of}

-- what names give on a line of a text, by its number, where `.` is an address
abbrev pub names_in : Text → (number here : ℕ) → Environment
names_in text number = names_from (record { text = text; line = number })

-- what is published of a document
abbrev pub document_diagnostics : Encoding → (uri : List ℕ) → PlacedDocument → (at : ℕ) → List Token
document_diagnostics encoding uri d at =
    diagnostics_of encoding uri (names_in (text_of d)) (shown_of (text_of d)) (lines_of d.document) at

-- a report of some diagnostics, with which a request is answered (Language Server Protocol 3.17, RelatedFullDocumentDiagnosticReport)
unfoldable pub report : (diagnostics : List Token) → List Token
report diagnostics =
    begin_object ∷ (string_member (codes "kind") (codes "full") ++ (key (codes "items") ∷ (begin_array ∷ (diagnostics ++ end_array ∷ (end_object ∷ [])))))
