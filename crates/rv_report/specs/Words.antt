-- The words of a text among which the message of a fault looks for what may be meant.
use Rattle.std.specs.Prelude.{ℕ, bytes_eq, List, [], ◌∷◌, Option, Some, None, if◌then◌else◌}

-- a word that a statement begins with and that no instruction and no directive is called, and the number of its line
pub record UnknownWord : Type 0 where
  pub word : List ℕ
  pub line : ℕ

-- the words of a text among which a message looks for what may be meant: its symbols, and those words
pub record Words : Type 0 where
  pub symbols : List (List ℕ)
  pub unknown : List UnknownWord

-- the first line with a statement that begins with a name and is none
abbrev pub line_of_label : (name : List ℕ) → List UnknownWord → Option ℕ
line_of_label name [] = None
line_of_label name (w ∷ ws) = if bytes_eq w.word name then Some w.line else line_of_label name ws
