-- The name at a position. (docs/EDITORS.md, Names)
use Rattle.std.specs.Prelude.{ℕ, ◌&&◌, nat_le, Bool, List, take, Option, Some, None, option_map}
use Rattle.std.specs.List.{find}
use Rattle.std.specs.Option.{option_and_then}
use Rattle.rv_text.specs.declared.lexeme.Span.{Span}
use Rattle.rv_doc.specs.declared.encoding.Encoding.{Encoding}
use Rattle.rv_doc.specs.Positions.{before_column}
use Rattle.rv_list.specs.Shown.{Shown, ShownLine}
use Rattle.rv_show.specs.Parts.{part}
use Rattle.rv_language.specs.declared.named.Named.{Named}
use Rattle.rv_language.specs.declared.names.NameSpan.{NameSpan}
use Rattle.rv_language.specs.LineNames.{names_of}
use Rattle.rv_language.specs.Meanings.{Meant, meaning_of, meant, name_of}
use Rattle.rv_language.specs.References.{without_letter}

-- A place is in a span, or it is its end.
abbrev pub touches : (at : ℕ) → Span → Bool
touches at span = nat_le span.from at && nat_le at span.to

-- the first of some names that a place touches
abbrev pub first_touched : (at : ℕ) → List NameSpan → Option NameSpan
first_touched at names = find (λ name. touches at name.span) names

-- a name of a line: what it means, and where it stands, without the letter of a reference to a local label
pub record Seen : Type 0 where
  pub meaning : Meant
  pub span : Span

abbrev pub seen_of : Named → Seen
seen_of named = record { meaning = meant named.meaning; span = named.span }

abbrev pub seen_in : Shown → (number : ℕ) → (text : List ℕ) → Option NameSpan → Option Seen
seen_in shown number text None = None
seen_in shown number text (Some name) =
    option_map (λ meaning. record { meaning = meaning; span = without_letter text name.span }) (option_and_then (meaning_of shown number) (name_of (part text name.span)))

-- the name at a column of a line, by its number from 1 on, if there is one and it means something
unfoldable pub name_at : Encoding → Shown → (number : ℕ) → ShownLine → (column : ℕ) → Option Seen
name_at encoding shown number line column =
    seen_in shown number (take 1000 line.text) (first_touched (before_column encoding (take 1000 line.text) column) (names_of line))
