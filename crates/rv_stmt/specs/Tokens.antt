-- The tokens of a line, one by one. (docs/LANGUAGE.md, Statements)
use Rattle.std.specs.Prelude.{ℕ, Bool, true, false, ◌&&◌, ◌==◌, bytes_eq, List, length, Option, Some, None, option_and_then, if◌then◌else◌}
use Rattle.std.specs.List.{slice_get}
use Rattle.rv_text.specs.declared.lexeme.TokenKind.{TokenKind}
use Rattle.rv_text.specs.declared.lexeme.TokenKind.TheVariants.{Identifier, Punctuation}
use Rattle.rv_text.specs.Lexing.{SpelledToken}

abbrev pub is_punctuation_kind : TokenKind → Bool
is_punctuation_kind Punctuation = true
is_punctuation_kind kind = false

-- the token is this sign
abbrev pub is_punctuation : List ℕ → SpelledToken → Bool
is_punctuation punctuation p = is_punctuation_kind p.kind && bytes_eq p.text punctuation

abbrev pub is_punctuation_there : List ℕ → Option SpelledToken → Bool
is_punctuation_there punctuation None = false
is_punctuation_there punctuation (Some p) = is_punctuation punctuation p

-- the sign stands at a place
abbrev pub punctuation_at : List ℕ → List SpelledToken → ℕ → Bool
punctuation_at punctuation run k = is_punctuation_there punctuation (slice_get run k)

-- the text of an identifier
abbrev pub identifier_of : TokenKind → List ℕ → Option (List ℕ)
identifier_of Identifier text = Some text
identifier_of kind text = None

-- the identifier at a place
abbrev pub identifier_at : List SpelledToken → ℕ → Option (List ℕ)
identifier_at run k = option_and_then (λ p. identifier_of p.kind p.text) (slice_get run k)

-- the one identifier that the tokens are
abbrev pub one_identifier : List SpelledToken → Option (List ℕ)
one_identifier run = if length run == 1 then identifier_at run 0 else None
