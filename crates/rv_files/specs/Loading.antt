-- The text that a file is, and why a file is none. (docs/FILES.md, Reading)
use Rattle.std.specs.Prelude.{ℕ, ◌+◌, nat_lt, List, [], ◌∷◌, length, Option, Some, None, if◌then◌else◌}
use Rattle.rv_text.specs.declared.lexeme.TheConstants.{MAX_LINE_LENGTH}
use Rattle.rv_program.specs.declared.limits.TheConstants.{MAX_LINES}
use Rattle.rv_files.specs.declared.limits.LoadError.{LoadError}
use Rattle.rv_files.specs.declared.limits.LoadError.TheVariants.{LineTooLong, TooManyLines}
use Rattle.rv_files.specs.Lines.{lines_of}

-- the first line past a limit, of some lines from this number on: one too many, or one that is too long
abbrev pub refusal_from : (number : ℕ) → List (List ℕ) → Option LoadError
refusal_from number [] = None
refusal_from number (line ∷ later) =
    if nat_lt MAX_LINES number then Some TooManyLines
    else (if nat_lt MAX_LINE_LENGTH (length line) then Some (LineTooLong number) else refusal_from (number + 1) later)

-- why a file is no text, whatever the memory; lines are counted from 1
abbrev pub load_refusal : (file : List ℕ) → Option LoadError
load_refusal file = refusal_from 1 (lines_of file)
