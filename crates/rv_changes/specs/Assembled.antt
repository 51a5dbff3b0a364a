-- What a document is as a text of the language. (docs/EDITORS.md, Diagnostics)
use Rattle.std.specs.Prelude.{ℕ, nat_lt, List, [], length, map, take, if◌then◌else◌}
use Rattle.rv_text.specs.declared.lexeme.TheConstants.{MAX_LINE_LENGTH}
use Rattle.rv_doc.specs.Positions.{lines_of}
use Rattle.rv_program.specs.declared.limits.TheConstants.{MAX_LINES}
use Rattle.rv_program.specs.Text.{Text}

-- a line as it is assembled: nothing of one that is too long
abbrev pub assembled_line : (line : List ℕ) → List ℕ
assembled_line line = if nat_lt MAX_LINE_LENGTH (length line) then [] else line

-- the lines of a document that are assembled, as many as a text may have
abbrev pub assembled_lines : (document : List ℕ) → List (List ℕ)
assembled_lines document = map assembled_line (take MAX_LINES (lines_of document))

-- the text of these lines, the first section of which begins at a base
abbrev pub assembled : (base : ℕ) → (document : List ℕ) → Text
assembled base document = record { base = base; lines = assembled_lines document }
