-- What the editor may answer to an input.
use Rattle.std.specs.Prelude.{◌≡◌, ℕ, ◌-◌, Bool, ◌==◌, List, [], ◌∷◌, ◌++◌, length, take, slice_index_or, codes, Option, Some, None, ◌⊎◌, ◌+◌}
use Rattle.std.specs.List.{slice_split}
use Rattle.rv_program.specs.declared.edit_error.EditError.{EditError}
use Rattle.rv_program.specs.declared.edit_error.EditError.TheVariants.{Memory}
use Rattle.rv_program.specs.Text.{Text, Edit, Insert, refusal_of, text_after, refusal_number}
use Rattle.rv_commands.specs.Commands.{Request, Append, Change, Show, Disassemble, request_of}
use Rattle.rv_commands.specs.Disassembly.{IsDisassembly}
use Rattle.rv_commands.specs.Pages.{numbered, page_text}

-- the answer to an edit that was made, after which there are n lines
abbrev pub accepted : ℕ → List ℕ
accepted n = numbered (codes "ok ") n

-- the answer to an edit that was refused
abbrev pub refused : EditError → List ℕ
refused reason = numbered (codes "refused ") (refusal_number reason)

-- The answer to an edit and the text afterwards, by the reason that the edit has to be refused, if it has one. Where
-- it has none, it is refused only where there is no memory.
abbrev pub IsEditAnswerBy : Option EditError → Text → Edit → List ℕ → Text → Type 0
IsEditAnswerBy (Some reason) old edit answer new = (answer ≡ refused reason) × (new ≡ old)
IsEditAnswerBy None old edit answer new =
    ((answer ≡ accepted (length (text_after old edit).lines)) × (new ≡ text_after old edit))
    ⊎ ((answer ≡ refused Memory) × (new ≡ old))

-- the answer to an edit, and the text afterwards
abbrev pub IsEditAnswer : Text → Edit → List ℕ → Text → Type 0
IsEditAnswer old edit answer new = IsEditAnswerBy (refusal_of old.lines edit) old edit answer new

-- the answer to what a command asks for, if it asks for anything, and the text afterwards
abbrev pub IsAnswerTo : Text → Option Request → List ℕ → Text → Type 0
IsAnswerTo old (Some (Append line)) answer new = IsEditAnswer old (Insert (length old.lines + 1) line) answer new
IsAnswerTo old (Some (Change edit)) answer new = IsEditAnswer old edit answer new
IsAnswerTo old (Some (Show page)) answer new = (answer ≡ page_text page old) × (new ≡ old)
IsAnswerTo old (Some Disassemble) answer new = IsDisassembly old answer × (new ≡ old)
IsAnswerTo old None answer new = (answer ≡ codes "bad\n") × (new ≡ old)

-- the answer to a command, and the text afterwards
abbrev pub IsAnswer : Text → List ℕ → List ℕ → Text → Type 0
IsAnswer old command answer new = IsAnswerTo old (request_of command) answer new

-- the answers to some commands, one after another, and the text after the last of them
abbrev pub AreAnswers : Text → List (List ℕ) → List ℕ → Text → Type 0
AreAnswers old [] output new = (output ≡ []) × (new ≡ old)
AreAnswers old (command ∷ commands) output new =
    (between : Text) × (answer : List ℕ) × (later : List ℕ)
    × IsAnswer old command answer between × (output ≡ answer ++ later) × AreAnswers between commands later new

-- a line break ends a command
abbrev pub is_line_break : ℕ → Bool
is_line_break byte = byte == 10

-- the pieces of an input between its line breaks
abbrev pub pieces_of : List ℕ → List (List ℕ)
pieces_of input = slice_split is_line_break input

-- the commands whose line break stands in the input: each piece but the last
abbrev pub complete_commands : List ℕ → List (List ℕ)
complete_commands input = take (length (pieces_of input) - 1) (pieces_of input)

-- the piece after the last line break
abbrev pub last_piece : List ℕ → List ℕ
last_piece input = slice_index_or (pieces_of input) (length (pieces_of input) - 1) []

-- that piece is a command too, unless it is empty
abbrev pub unless_empty : List ℕ → List (List ℕ)
unless_empty [] = []
unless_empty (byte ∷ bytes) = (byte ∷ bytes) ∷ []

-- the commands of a whole input
abbrev pub commands_of : List ℕ → List (List ℕ)
commands_of input = complete_commands input ++ unless_empty (last_piece input)

-- no lines yet
abbrev pub empty_text : ℕ → Text
empty_text base = record { base = base; lines = [] }

-- The output answers each command of the input, from the empty text on.
abbrev pub IsTranscript : ℕ → List ℕ → List ℕ → Type 0
IsTranscript base input output = (text : Text) × AreAnswers (empty_text base) (commands_of input) output text
