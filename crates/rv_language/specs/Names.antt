-- Places of names as tokens of JSON. (Language Server Protocol 3.17, Location)
use Rattle.std.specs.Prelude.{ℕ, ◌-◌, List, [], ◌∷◌, ◌++◌, codes}
use Rattle.json.specs.Token.{Token, begin_object, end_object, key}
use Rattle.rv_text.specs.declared.lexeme.Span.{Span}
use Rattle.rv_doc.specs.declared.encoding.Encoding.{Encoding}
use Rattle.rv_diagnostics.specs.Diagnostics.{column_at}
use Rattle.rv_diagnostics.specs.Json.{string_member, range}

-- where a name stands in the line of this number, from 1 on, and of these bytes
unfoldable pub name_range : Encoding → (number : ℕ) → (text : List ℕ) → Span → List Token
name_range encoding number text span = range (number - 1) (column_at encoding text span.from) (column_at encoding text span.to)

-- its place in a document
unfoldable pub location : Encoding → (uri : List ℕ) → (number : ℕ) → (text : List ℕ) → Span → List Token
location encoding uri number text span =
    begin_object ∷ (string_member (codes "uri") uri ++ (key (codes "range") ∷ (name_range encoding number text span ++ end_object ∷ [])))

-- an edit that puts another text in its place (Language Server Protocol 3.17, TextEdit)
unfoldable pub text_edit : Encoding → (number : ℕ) → (text : List ℕ) → Span → (new_text : List ℕ) → List Token
text_edit encoding number text span new_text =
    begin_object ∷ (key (codes "range") ∷ (name_range encoding number text span ++ (string_member (codes "newText") new_text ++ end_object ∷ [])))
