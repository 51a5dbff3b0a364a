-- The words of a text among which its messages look for what may be meant.
use Rattle.std.specs.Prelude.{ℕ, List, [], ◌∷◌, map, take}
use Rattle.rv_text.specs.declared.faults.FaultNumber.{FaultNumber}
use Rattle.rv_text.specs.declared.faults.FaultNumber.TheVariants.{UnknownName}
use Rattle.rv_text.specs.declared.lexeme.Span.{Span}
use Rattle.rv_stmt.specs.declared.statement.Body.{Body}
use Rattle.rv_stmt.specs.declared.statement.Body.TheVariants.{Faulty}
use Rattle.rv_list.specs.Shown.{Shown, ShownLine, from_lines}
use Rattle.rv_show.specs.Parts.{part}
use Rattle.rv_report.specs.Words.{UnknownWord, Words}
use Rattle.rv_files.specs.Symbols.{searched, symbols_of}

-- the word at a fault, if no instruction and no directive is called so
abbrev pub word_at_fault : (number : ℕ) → (text : List ℕ) → Span → FaultNumber → List UnknownWord
word_at_fault number text span UnknownName = record { word = part text span; line = number } ∷ []
word_at_fault number text span fault = []

abbrev pub word_of_body : (number : ℕ) → (text : List ℕ) → Body → List UnknownWord
word_of_body number text (Faulty f) = word_at_fault number text f.span f.number
word_of_body number text body = []

-- the word that the statement of a line begins with, if no instruction and no directive is called so
abbrev pub unknown_word : (number : ℕ) → ShownLine → List UnknownWord
unknown_word number line = word_of_body number line.text line.stmt.body

-- those of a text
unfoldable pub unknown_words : Shown → List UnknownWord
unknown_words shown = from_lines shown unknown_word

-- where so many reports are shown: the names of the first symbols, and the first of those words
abbrev pub searched_words : Shown → (reports : ℕ) → Words
searched_words shown reports = record {
  symbols = map (λ s. s.name) (take (searched reports) (symbols_of shown));
  unknown = take (searched reports) (unknown_words shown);
}
