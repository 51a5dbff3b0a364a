-- The tree of a run of tokens. (docs/LANGUAGE.md, Expressions)
use Rattle.std.specs.Prelude.{ℕ, nat_le, List, [], ◌∷◌, map, Option, Some, None, slice_range, if◌then◌else◌}
use Rattle.rv_text.specs.Lexing.{LexedLine, SpelledToken, spelled_tokens}
use Rattle.rv_expr.specs.declared.reading.Pending.{Pending}
use Rattle.rv_expr.specs.declared.reading.Pending.TheVariants.{Before, After, Parenthesis}
use Rattle.rv_expr.specs.TokenRoles.{TokenRole, Operand, Operator, Open, Close, token_role}
use Rattle.rv_expr.specs.Tree.{Tree, Unary, Binary, level}

-- the tokens of a line from a place up to, and without, another
abbrev pub run_of : LexedLine → ℕ → ℕ → List SpelledToken
run_of line from to = slice_range (spelled_tokens line) from to

-- The lists hold what waits for an operand, the innermost first, and `next` goes on from there.

-- the unary operators before an operand act on it
abbrev pub signed : (List Pending → Tree → Option Tree) → List Pending → Tree → Option Tree
signed next [] e = next [] e
signed next (Before op ∷ ws) e = signed next ws (Unary op e)
signed next (After op a ∷ ws) e = next (After op a ∷ ws) e
signed next (Parenthesis ∷ ws) e = next (Parenthesis ∷ ws) e

-- the operators that bind as tightly as the level, or tighter, act on what stands on their two sides
abbrev pub joined : ℕ → (List Pending → Tree → Option Tree) → List Pending → Tree → Option Tree
joined bound next [] e = next [] e
joined bound next (After op a ∷ ws) e =
    if nat_le (level op) bound then joined bound next ws (Binary op a e) else next (After op a ∷ ws) e
joined bound next (Before op ∷ ws) e = next (Before op ∷ ws) e
joined bound next (Parenthesis ∷ ws) e = next (Parenthesis ∷ ws) e

-- the innermost open parenthesis is closed
abbrev pub closed : (List Pending → Tree → Option Tree) → List Pending → Tree → Option Tree
closed next [] e = None
closed next (Parenthesis ∷ ws) e = next ws e
closed next (Before op ∷ ws) e = None
closed next (After op a ∷ ws) e = None

-- nothing waits
abbrev pub alone : List Pending → Tree → Option Tree
alone [] e = Some e
alone (w ∷ ws) e = None

-- what becomes of a place where an operand is expected, and of one after an operand
abbrev mutual
  pub expecting_operand : List Pending → List TokenRole → Option Tree
  expecting_operand ws [] = None
  expecting_operand ws (Operand e ∷ rs) = signed (λ vs f. after_operand vs f rs) ws e
  expecting_operand ws (Operator None b ∷ rs) = None
  expecting_operand ws (Operator (Some op) b ∷ rs) = expecting_operand (Before op ∷ ws) rs
  expecting_operand ws (Open ∷ rs) = expecting_operand (Parenthesis ∷ ws) rs
  expecting_operand ws (Close ∷ rs) = None

  pub after_operand : List Pending → Tree → List TokenRole → Option Tree
  after_operand ws e [] = joined 3 alone ws e
  after_operand ws e (Operand f ∷ rs) = None
  after_operand ws e (Operator u None ∷ rs) = None
  after_operand ws e (Operator u (Some op) ∷ rs) = joined (level op) (λ vs f. expecting_operand (After op f ∷ vs) rs) ws e
  after_operand ws e (Open ∷ rs) = None
  after_operand ws e (Close ∷ rs) = joined 3 (closed (signed (λ vs f. after_operand vs f rs))) ws e

-- the tree of a run of tokens, where it is an expression
abbrev pub expression_of : List SpelledToken → Option Tree
expression_of run = expecting_operand [] (map token_role run)
