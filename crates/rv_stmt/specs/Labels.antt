-- The labels before a line's body. (docs/LANGUAGE.md, Statements)
use Rattle.std.specs.Prelude.{ℕ, List, [], ◌∷◌, Option, Some, None, option_map, option_and_then, ◌+◌, bytes_eq, codes, if◌then◌else◌}
use Rattle.std.specs.List.{slice_get}
use Rattle.rv_text.specs.declared.lexeme.TokenKind.{TokenKind}
use Rattle.rv_text.specs.declared.lexeme.TokenKind.TheVariants as kinds
use Rattle.rv_text.specs.Lexing.{SpelledToken}
use Rattle.rv_text.specs.Numbers.{is_local_number}
use Rattle.rv_expr.specs.TokenRoles.{label_number}
use Rattle.rv_stmt.specs.LabelNames.{Label, LabelName, Symbol, Local}
use Rattle.rv_stmt.specs.Tokens.{punctuation_at}

-- an identifier other than `.`, or the number of a local label
abbrev pub label_name : TokenKind → List ℕ → Option LabelName
label_name kinds.Identifier text = if bytes_eq text (codes ".") then None else Some (Symbol text)
label_name kinds.Number text = if is_local_number text then option_map Local (label_number text) else None
label_name kind text = None

-- what a token defines, where it may be a label
abbrev pub label_of_token : SpelledToken → Option Label
label_of_token p = option_map (λ name. record { name = name; span = p.span }) (label_name p.kind p.text)

-- the label at a place, where a `:` stands after it
abbrev pub label_at : List SpelledToken → ℕ → Option Label
label_at ps k = if punctuation_at (codes ":") ps (k + 1) then option_and_then label_of_token (slice_get ps k) else None

-- the labels, and what follows them
pub record Labelled : Type 0 where
  pub labels : List Label
  pub body : List SpelledToken

-- a label before a line, or none
abbrev pub with_label : Option Label → List SpelledToken → Labelled → Labelled
with_label None ps rest = record { labels = []; body = ps }
with_label (Some label) ps rest = record { labels = label ∷ rest.labels; body = rest.body }

-- the labels at the start, each with its `:`, and what follows the last
abbrev pub labels_and_body : List SpelledToken → Labelled
labels_and_body [] = record { labels = []; body = [] }
labels_and_body (p ∷ []) = record { labels = []; body = p ∷ [] }
labels_and_body (p ∷ q ∷ ps) = with_label (label_at (p ∷ q ∷ ps) 0) (p ∷ q ∷ ps) (labels_and_body ps)
