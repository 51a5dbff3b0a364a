-- A line with a fault, and the words of it.
use Rattle.std.specs.Prelude.{ℕ, ◌*◌, List, [], map, Option, Some, None, slice_get}
use Rattle.rv_text.specs.declared.lexeme.Token.{Token}
use Rattle.rv_text.specs.Lexing.{LexedLine}
use Rattle.rv_stmt.specs.declared.statement.Stmt.{Stmt}
use Rattle.rv_fix.specs.Values.{Entry}
use Rattle.rv_show.specs.Parts.{part}
use Rattle.rv_report.specs.declared.faulty_line.FaultyLine.{FaultyLine}
use Rattle.rv_report.specs.declared.text_words.TextWords.{TextWords}
use Rattle.rv_report.specs.Words.{Words}

-- words as a caller lends them
abbrev pub words_of : TextWords → Words
words_of words = record { symbols = map (λ s. s.now) words.symbols.now; unknown = words.unknown.now }

-- a line: its number, its bytes, its statement, its address, the values of its operands, and words of its text
pub record Line : Type 0 where
  pub number : ℕ
  pub text : List ℕ
  pub stmt : Stmt
  pub address : ℕ
  pub values : List Entry
  pub words : Words

-- a line as a caller lends it
abbrev pub line_of : FaultyLine → Line
line_of line = record {
  number = line.number;
  text = line.text.now;
  stmt = line.stmt.now;
  address = line.address;
  values = line.values.now;
  words = words_of line.words;
}

abbrev pub part_of_token : List ℕ → Option Token → List ℕ
part_of_token line None = []
part_of_token line (Some token) = part line token.span

-- a word of a line, by its number among the tokens
abbrev pub word_at : (place : ℕ) → LexedLine → List ℕ
word_at place line = part_of_token line.line (slice_get line.tokens place)

-- the name of a statement: it stands after the labels, each of which is two tokens
abbrev pub name_after : (labels : ℕ) → LexedLine → List ℕ
name_after labels line = word_at (2 * labels) line
