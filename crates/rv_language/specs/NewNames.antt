-- The names that a symbol can get.
use Rattle.std.specs.Prelude.{ℕ, ◌==◌, ◌&&◌, ◌||◌, nat_le, not, bytes_eq, Bool, false, List, [], ◌∷◌, length, codes}
use Rattle.std.specs.Option.{is_some}
use Rattle.rv_text.specs.declared.lexeme.Span.{Span}
use Rattle.rv_text.specs.declared.lexeme.Token.{Token}
use Rattle.rv_text.specs.declared.lexeme.TokenKind.{TokenKind}
use Rattle.rv_text.specs.declared.lexeme.TokenKind.TheVariants.{Identifier}
use Rattle.rv_text.specs.Lexing.{lexed_line}
use Rattle.rv_ops.specs.Csrs.{csr_named}
use Rattle.rv_ops.specs.Registers.{register_named}

-- an identifier that is all of a line of so many bytes
abbrev pub is_whole : (length : ℕ) → TokenKind → Span → Bool
is_whole length Identifier span = (span.from == 0) && (span.to == length)
is_whole length kind span = false

abbrev pub are_identifier : (length : ℕ) → List Token → Bool
are_identifier length [] = false
are_identifier length (token ∷ []) = is_whole length token.kind token.span
are_identifier length (token ∷ (next ∷ more)) = false

-- a line that is one identifier other than `.`
abbrev pub is_identifier : (line : List ℕ) → Bool
is_identifier line = not (bytes_eq line (codes ".")) && are_identifier (length line) (lexed_line line).tokens

-- the name of a register, or of a control and status register, for which a symbol could be taken
abbrev pub is_register : (name : List ℕ) → Bool
is_register name = is_some (register_named name) || is_some (csr_named name)

-- a symbol can get the name
abbrev pub is_symbol_name : (name : List ℕ) → Bool
is_symbol_name name = nat_le (length name) 1000 && (not (is_register name) && is_identifier name)
