-- The places of a name in a text, and its definition. (Language Server Protocol 3.17, textDocument/references)
use Rattle.std.specs.Prelude.{ℕ, ◌-◌, ◌||◌, ◌&&◌, not, nat_le, Bool, List, [], ◌∷◌, ◌++◌, take, codes, Option, Some, if◌then◌else◌}
use Rattle.json.specs.Token.{Token, begin_object, end_object, key, null}
use Rattle.rv_text.specs.declared.lexeme.Span.{Span}
use Rattle.rv_doc.specs.declared.encoding.Encoding.{Encoding}
use Rattle.rv_list.specs.Shown.{Shown, ShownLine, from_lines}
use Rattle.rv_show.specs.Parts.{part}
use Rattle.rv_language.specs.declared.names.NameSpan.{NameSpan}
use Rattle.rv_language.specs.declared.references.PlaceForm.{PlaceForm}
use Rattle.rv_language.specs.declared.references.PlaceForm.TheVariants.{Location, Highlight, Edit}
use Rattle.rv_language.specs.declared.references.Wanted.{Wanted}
use Rattle.rv_language.specs.LineNames.{names_defined, names_of}
use Rattle.rv_language.specs.Meanings.{Meant, Name, Back, Forward, definition_line, defines_written, meant, means_written, name_of}
use Rattle.rv_language.specs.Names.{location, name_range, text_edit}

-- How a place is written: with its document, without it, or as an edit that puts a text there.
pub data Form : Type 0 where
  WithDocument : Form
  Alone : Form
  Replaced : (new_text : List ℕ) → Form

abbrev pub form_of : PlaceForm → Form
form_of Location = WithDocument
form_of Highlight = Alone
form_of (Edit new_text) = Replaced new_text.now

-- the places that are asked for: those of a meaning, with its definition or without it
pub record Asked : Type 0 where
  pub meaning : Meant
  pub with_definition : Bool
  pub form : Form

abbrev pub asked_of : Wanted → Asked
asked_of wanted = record { meaning = meant wanted.meaning; with_definition = wanted.with_definition; form = form_of wanted.form }

-- The letter of a reference to a local label belongs to no name.
abbrev pub bare_span : Option Name → Span → Span
bare_span (Some (Back number)) span = record { from = span.from; to = span.to - 1 }
bare_span (Some (Forward number)) span = record { from = span.from; to = span.to - 1 }
bare_span name span = span

abbrev pub without_letter : (text : List ℕ) → Span → Span
without_letter text span = bare_span (name_of (part text span)) span

-- a place without its document (Language Server Protocol 3.17, DocumentHighlight)
unfoldable pub highlight : Encoding → (number : ℕ) → (text : List ℕ) → Span → List Token
highlight encoding number text span =
    begin_object ∷ (key (codes "range") ∷ (name_range encoding number text span ++ end_object ∷ []))

-- a place in a line, by its number from 1 on
abbrev pub place : Form → Encoding → (uri : List ℕ) → (number : ℕ) → (text : List ℕ) → Span → List Token
place WithDocument encoding uri number text span = location encoding uri number text span
place Alone encoding uri number text span = highlight encoding number text span
place (Replaced new_text) encoding uri number text span = text_edit encoding number text (without_letter text span) new_text

-- a name of a line is asked for: it has the meaning, and is not its definition where that is not wanted
abbrev pub is_wanted : Shown → Asked → (number : ℕ) → (text : List ℕ) → NameSpan → Bool
is_wanted shown asked number text name =
    means_written asked.meaning number (name_of (part text name.span))
    && (asked.with_definition || not (defines_written shown number name.standing (name_of (part text name.span))))

abbrev pub place_if : Bool → List Token → List Token
place_if is tokens = if is then tokens else []

-- the places of those of some names that are asked for
abbrev pub places_of : Encoding → (uri : List ℕ) → Shown → Asked → (number : ℕ) → (text : List ℕ) → List NameSpan → List Token
places_of encoding uri shown asked number text [] = []
places_of encoding uri shown asked number text (name ∷ names) =
    place_if (is_wanted shown asked number text name) (place asked.form encoding uri number text name.span)
    ++ places_of encoding uri shown asked number text names

-- those in a line
unfoldable pub line_places : Encoding → (uri : List ℕ) → Shown → Asked → (number : ℕ) → ShownLine → List Token
line_places encoding uri shown asked number line =
    places_of encoding uri shown asked number (take 1000 line.text) (names_of line)

-- those in a text, line by line
abbrev pub references : Encoding → (uri : List ℕ) → Shown → Asked → List Token
references encoding uri shown asked = from_lines shown (line_places encoding uri shown asked)

-- a name defines a meaning
abbrev pub defines : Shown → Meant → (number : ℕ) → (text : List ℕ) → NameSpan → Bool
defines shown meaning number text name =
    means_written meaning number (name_of (part text name.span))
    && defines_written shown number name.standing (name_of (part text name.span))

-- the place of the first of some names that defines a meaning, or null
abbrev pub definition_in : Encoding → (uri : List ℕ) → Shown → Meant → (number : ℕ) → (text : List ℕ) → List NameSpan → List Token
definition_in encoding uri shown meaning number text [] = null ∷ []
definition_in encoding uri shown meaning number text (name ∷ names) =
    if defines shown meaning number text name then location encoding uri number text name.span
    else definition_in encoding uri shown meaning number text names

unfoldable pub line_definition : Encoding → (uri : List ℕ) → Shown → Meant → (number : ℕ) → ShownLine → List Token
line_definition encoding uri shown meaning number line =
    definition_in encoding uri shown meaning number (take 1000 line.text) (names_defined line)

-- the place of the definition of a meaning, or null
abbrev pub definition_from : Encoding → (uri : List ℕ) → Shown → Meant → (number : ℕ) → List Token
definition_from encoding uri shown meaning number =
    if nat_le 1 number && nat_le number shown.count then line_definition encoding uri shown meaning number (shown.line number) else null ∷ []

abbrev pub definition : Encoding → (uri : List ℕ) → Shown → Meant → List Token
definition encoding uri shown meaning = definition_from encoding uri shown meaning (definition_line shown meaning)
