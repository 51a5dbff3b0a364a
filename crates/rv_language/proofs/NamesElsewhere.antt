-- Lines in which a meaning has no name.
use Rattle.std.proofs.Common.{◌≡◌, ℕ, false, List, [], ◌∷◌, refl}
use Rattle.rv_text.specs.declared.lexeme.Span.{Span}
use Rattle.rv_doc.specs.declared.encoding.Encoding.{Encoding}
use Rattle.rv_list.specs.Shown.{Shown}
use Rattle.rv_show.specs.Parts.{part}
use Rattle.rv_language.specs.declared.names.NameSpan.{NameSpan}
use Rattle.rv_language.specs.Meanings.{means_written, name_of}
use Rattle.rv_language.specs.References.{Asked, places_of}

-- none is asked for
pub no_places : (e : Encoding) (uri : List ℕ) (shown : Shown) (asked : Asked) (number : ℕ) (text : List ℕ) (names : List NameSpan) → ((line : ℕ) (span : Span) → means_written asked.meaning line (name_of (part text span)) ≡ false) → places_of e uri shown asked number text names ≡ []
no_places e uri shown asked number text [] none = refl
no_places e uri shown asked number text (name ∷ names) none = rw (none number name.span) (no_places e uri shown asked number text names none)
