-- The grammar of expressions, over tokens. (docs/LANGUAGE.md, Expressions)
use Rattle.std.specs.Prelude.{◌≡◌, ℕ, suc, List, [], ◌∷◌, ◌++◌, Option, Some}
use Rattle.rv_text.specs.Lexing.{SpelledToken}
use Rattle.rv_expr.specs.declared.tree.BinaryOp.{BinaryOp}
use Rattle.rv_expr.specs.declared.tree.UnaryOp.{UnaryOp}
use Rattle.rv_expr.specs.TokenRoles.{Operand, Operator, Open, Close, token_role}
use Rattle.rv_expr.specs.Tree.{Tree, Unary, Binary, level}

-- The tokens spell the tree, and outside parentheses stands no operator that binds looser than the level. Level 0 is an
-- operand with the unary operators before it, which bind tightest; level 3 has every expression. An operator takes what
-- binds tighter on its right, and what binds as tightly as itself on its left: so each level goes from left to right.
pub data Spells : ℕ → List SpelledToken → Tree → Type 0 where
  operand : (p : SpelledToken) (e : Tree) → token_role p ≡ Operand e → Spells 0 (p ∷ []) e
  parentheses : (p q : SpelledToken) (run : List SpelledToken) (e : Tree) → token_role p ≡ Open → Spells 3 run e → token_role q ≡ Close → Spells 0 (p ∷ (run ++ (q ∷ []))) e
  unary : (p : SpelledToken) (op : UnaryOp) (other : Option BinaryOp) (run : List SpelledToken) (e : Tree) → token_role p ≡ Operator (Some op) other → Spells 0 run e → Spells 0 (p ∷ run) (Unary op e)
  binary : (bound : ℕ) (p : SpelledToken) (op : BinaryOp) (other : Option UnaryOp) (left right : List SpelledToken) (a b : Tree) → level op ≡ suc bound → Spells (suc bound) left a → token_role p ≡ Operator other (Some op) → Spells bound right b → Spells (suc bound) (left ++ (p ∷ right)) (Binary op a b)
  tighter : (bound : ℕ) (run : List SpelledToken) (e : Tree) → Spells bound run e → Spells (suc bound) run e
