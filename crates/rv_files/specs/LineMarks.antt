-- The marks that a preprocessor leaves in a text. (docs/FILES.md, Line marks)
use Rattle.std.specs.Prelude.{ℕ, ◌+◌, ◌^◌, ◌==◌, nat_lt, Bool, not, ◌||◌, List, [], ◌∷◌, ◌++◌, Option, Some, None, if◌then◌else◌}
use Rattle.std.specs.Char.{is_ascii_digit}
use Rattle.std.specs.List.{take_while}
use Rattle.rv_text.specs.Numbers.{digits_number}
use Rattle.rv_show.specs.Origins.{Mark}
use Rattle.rv_files.specs.declared.marks.Part.{Part}
use Rattle.rv_files.specs.declared.marks.Part.TheVariants.{Blanks, Digits, Name}

-- the bytes of a part: spaces and tabs, decimal digits, and those of a name up to a quotation mark
abbrev pub is_in : Part → ℕ → Bool
is_in Blanks byte = byte == 0x20 || byte == 9
is_in Digits byte = is_ascii_digit byte
is_in Name byte = not (byte == 0x22)

-- what stands behind the part at the begin of some bytes
abbrev pub behind : Part → List ℕ → List ℕ
behind part [] = []
behind part (b ∷ bs) = if is_in part b then behind part bs else b ∷ bs

abbrev pub unless_open : (name rest : List ℕ) → Option (List ℕ)
unless_open name [] = None
unless_open name (b ∷ bs) = Some name

-- the name between the quotation mark that begins some bytes and the next one
abbrev pub quoted_name : List ℕ → Option (List ℕ)
quoted_name [] = None
quoted_name (b ∷ bs) = if b == 0x22 then unless_open (take_while (is_in Name) bs) (behind Name bs) else None

abbrev pub if_word : Option ℕ → Option ℕ
if_word None = None
if_word (Some n) = if nat_lt n (2 ^ 32) then Some n else None

-- the number that some digits are, below 2^32
abbrev pub line_number : List ℕ → Option ℕ
line_number digits = if_word (digits_number 10 digits)

abbrev pub mark_with : (on : ℕ) → Option ℕ → Option (List ℕ) → List Mark
mark_with on None name = []
mark_with on (Some line) None = []
mark_with on (Some line) (Some file) = record { on = on; line = line; file = file } ∷ []

-- the mark that a number and a name are, if they are one: blanks may stand between them, and anything behind them
abbrev pub mark_in : (on : ℕ) → List ℕ → List Mark
mark_in on text =
    mark_with on (line_number (take_while (is_in Digits) text)) (quoted_name (behind Blanks (behind Digits text)))

-- the mark on a line, if it is one: `#`, a number and a name
abbrev pub mark_on : (on : ℕ) → (line : List ℕ) → List Mark
mark_on on [] = []
mark_on on (b ∷ bs) = if b == 0x23 then mark_in on (behind Blanks bs) else []

-- those on some lines from this number on
abbrev pub marks_from : (number : ℕ) → List (List ℕ) → List Mark
marks_from number [] = []
marks_from number (line ∷ later) = mark_on number line ++ marks_from (number + 1) later
