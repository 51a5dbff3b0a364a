-- The strings of a directive. (docs/LANGUAGE.md, Directives)
use Rattle.std.specs.Prelude.{ℕ, ◌==◌, List, [], ◌∷◌, ◌++◌, length, Option, Some, None, option_and_then, Result, Ok, if◌then◌else◌}
use Rattle.std.specs.List.{slice_get}
use Rattle.rv_text.specs.declared.faults.Fault.{Fault}
use Rattle.rv_text.specs.declared.faults.FaultNumber.TheVariants.{BadOperand}
use Rattle.rv_text.specs.declared.lexeme.TokenKind.{TokenKind}
use Rattle.rv_text.specs.declared.lexeme.TokenKind.TheVariants as kinds
use Rattle.rv_text.specs.Lexing.{SpelledToken}
use Rattle.rv_text.specs.Strings.{string_content}
use Rattle.rv_stmt.specs.declared.runs.Run.{Run}
use Rattle.rv_stmt.specs.Operands.{operand_of_run}
use Rattle.rv_stmt.specs.Readings.{and_then, or_fault}

-- the text of a string, with its quotes
abbrev pub text_of_string : TokenKind → List ℕ → Option (List ℕ)
text_of_string kinds.Str text = Some text
text_of_string kind text = None

-- the text of the one string that the tokens are
abbrev pub one_string : List SpelledToken → Option (List ℕ)
one_string run =
    if length run == 1 then option_and_then (λ p. text_of_string p.kind p.text) (slice_get run 0) else None

-- the text of the string that a run is
abbrev pub string_in : Run → Result (List ℕ) Fault
string_in r = operand_of_run r (or_fault BadOperand (one_string r.tokens))

-- these bytes, and those of the strings of the runs, with an end after each
abbrev pub with_strings : (end : List ℕ) → List Run → List ℕ → Result (List ℕ) Fault
with_strings end [] bytes = Ok bytes
with_strings end (r ∷ rs) bytes =
    and_then (string_in r) (λ text. with_strings end rs ((bytes ++ string_content text) ++ end))
