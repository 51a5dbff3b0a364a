-- The rows of a report: where it is and what it says, the line, and the mark.
use Rattle.std.specs.Prelude.{ℕ, ◌+◌, ◌-◌, List, [], ◌∷◌, ◌++◌, length, take, replicate, codes, decimal, if◌then◌else◌}
use Rattle.std.specs.Char.{is_ascii_whitespace}
use Rattle.rv_text.specs.declared.lexeme.Span.{Span}
use Rattle.rv_show.specs.declared.page.Gravity.{Gravity}
use Rattle.rv_show.specs.declared.page.Gravity.TheVariants as gravity
use Rattle.rv_show.specs.declared.page.Style.{Style}
use Rattle.rv_show.specs.declared.page.Style.TheVariants.{Plain, Colored}
use Rattle.rv_show.specs.Characters.{column_of, shown_from, shown_name, start}
use Rattle.rv_show.specs.Origins.{Origin}

-- the sequence of ECMA-48, section 8.3.117, that selects how the characters after it are shown
unfoldable pub rendition : List ℕ → List ℕ
rendition parameter = 27 ∷ codes "[" ++ (parameter ++ codes "m")

-- a text in a color, where colors are shown
unfoldable pub painted : Style → (color text : List ℕ) → List ℕ
painted Plain color text = text
painted Colored color text = rendition color ++ (text ++ rendition (codes "0"))

abbrev pub red : List ℕ
red = codes "31"

abbrev pub green : List ℕ
green = codes "32"

abbrev pub magenta : List ℕ
magenta = codes "35"

-- how grave it is what a row says
abbrev pub gravity_text : Style → Gravity → List ℕ
gravity_text style gravity.Error = painted style red (codes "error:")
gravity_text style gravity.Warning = painted style magenta (codes "warning:")

-- the row of a message: columns are counted from 1
unfoldable pub message_row : Style → Origin → (from : ℕ) → Gravity → (message name : List ℕ) → List ℕ
message_row style origin from grave message name =
    shown_name 0 origin.file ++ (codes ":" ++ (decimal origin.line ++ (codes ":" ++ (decimal (from + 1) ++ (codes ": "
    ++ (gravity_text style grave ++ (codes " " ++ (message ++ (codes " [" ++ (name ++ codes "]\n"))))))))))

-- the place behind the last byte that is no white space, after `at` bytes of which the last such one ends at `end`
abbrev pub text_end : (at end : ℕ) → List ℕ → ℕ
text_end at end [] = end
text_end at end (b ∷ bs) = text_end (at + 1) (if is_ascii_whitespace b then end else at + 1) bs

unfoldable pub shown_line : List ℕ → List ℕ
shown_line line = shown_from start (take (text_end 0 0 line) line)

-- the number of a line at the right end of five columns
unfoldable pub margin : (line : ℕ) → List ℕ
margin line = replicate (5 - length (decimal line)) 32 ++ decimal line

unfoldable pub line_row : (line : ℕ) → (text : List ℕ) → List ℕ
line_row line text = margin line ++ (codes " | " ++ (shown_line text ++ codes "\n"))

-- a mark under so many columns, and under one at least
unfoldable pub mark : ℕ → List ℕ
mark columns = codes "^" ++ replicate (columns - 1) 126

unfoldable pub mark_row : Style → (line : ℕ) → (text : List ℕ) → Span → List ℕ
mark_row style line text span =
    replicate (length (margin line)) 32 ++ (codes " | " ++ (replicate (column_of text span.from) 32
    ++ (painted style green (mark (column_of text span.to - column_of text span.from)) ++ codes "\n")))
